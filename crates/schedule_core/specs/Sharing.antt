-- A solo run as a list of events of the core.
use Rattle.std.specs.Prelude.{◌≡◌, ℕ, ◌<◌, ◌≤◌, List, [], ◌∷◌, length, Option, None, Some}
use Rattle.tp_value.specs.declared.values.Outcome.{Outcome}
use Rattle.tpal_syntax.specs.Listing.{Listing}
use Rattle.tpal_machine.specs.declared.ends.Ending.{Ending}
use Rattle.tpal_machine.specs.declared.ends.Ending.TheVariants as ending
use Rattle.tpal_machine.specs.declared.ends.SideName.TheVariants.{Left}
use Rattle.tpal_machine.specs.declared.ends.Tie.{Tie}
use Rattle.tpal_machine.specs.RestState.{RestState}
use Rattle.tpal_machine.specs.State.{State}
use Rattle.schedule_core.specs.declared.lanes.Opened.{Opened}
use Rattle.schedule_core.specs.declared.lanes.Opened.TheVariants.{Waiting, Half}
use Rattle.schedule_core.specs.declared.lanes.Tally.{Tally}
use Rattle.schedule_core.specs.Core as core
use Rattle.schedule_core.specs.Core.{Config, Event, Step, Open, Claim, Arrive, Free, Finish}
use Rattle.schedule_core.specs.Core.{LeastFree, first}
use Rattle.schedule_core.specs.Enabled.{IsUnclaimed}
use Rattle.schedule_core.specs.Run.{CoreRun, EachEvent}
use Rattle.schedule_core.specs.Solo.{records}
use Rattle.schedule_core.specs.Sound.{place}
use Rattle.schedule_core.specs.Tasks.{tasks}

-- an open record of the solo run, as the core has it
abbrev pub cell_of : ℕ → Opened → core.Cell State RestState Ending
cell_of k (Waiting rest child) = core.opened rest (Some child) None None
cell_of k (Half rest left) = core.opened rest None (Some (ending.At k Left left)) None

-- the records of the core hold what the solo run has open
abbrev pub CellsAre : List Opened → (ℕ → core.Cell State RestState Ending) → Type 0
CellsAre [] cells = Unit {0}
CellsAre (one ∷ opened) cells =
    (cells (length opened) ≡ cell_of (length opened) one) × CellsAre opened cells

-- the least free record is free, or taken where the running task was given it
abbrev pub GivenAt : Option Tie → ℕ → (ℕ → core.Cell State RestState Ending) → Type 0
GivenAt None k cells = cells k ≡ core.free
GivenAt (Some tie) k cells = (cells k ≡ core.taken 0) × (k < records)

-- the core has these counts
pub record CountsAre (tally : Tally) (c : Config State RestState Ending) : Type 0 where
  pub tasks : c.tasks ≡ tally.tasks
  pub beats : c.beats 0 ≡ tally.beats
  pub skipped : c.skipped ≡ tally.skipped
  pub instructions : c.instructions ≡ tally.instructions

-- a claim takes the child of the record that was opened last, of those whose child is unclaimed
abbrev pub ClaimsLast : Config State RestState Ending → Event → Type 0
ClaimsLast c (Step w) = Unit {0}
ClaimsLast c (Open w) = Unit {0}
ClaimsLast c (Claim w k) = (j : ℕ) → IsUnclaimed (c.cells j) → place c.order j ≤ place c.order k
ClaimsLast c (Arrive w) = Unit {0}
ClaimsLast c (Free w) = Unit {0}
ClaimsLast c (Finish w) = Unit {0}

-- the solo run of a code from a task is a list of events of the core: of one worker, with 64
-- records, of which the least free one is given and that which was opened last is claimed. It comes
-- to this outcome with these counts
pub record SharedRun (code : Listing) (heartbeat forks : ℕ) (task : State) (outcome : Outcome)
    (tally : Tally) : Type 0 where
  pub events : List Event
  pub last : Config State RestState Ending
  pub run : CoreRun (tasks code heartbeat) LeastFree forks records 1 (first task) events last
  pub claims : EachEvent (tasks code heartbeat) LeastFree forks records 1 ClaimsLast run
  pub outcome_is : last.outcome ≡ Some (ending.Root outcome)
  pub counts : CountsAre tally last
