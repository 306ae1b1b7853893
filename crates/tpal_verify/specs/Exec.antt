-- What a run of a code by one worker comes to within so many instructions: the solo run, which is
-- told where it is over, where it is stuck, or where no instruction is left to it.
use Rattle.std.specs.Prelude.{◌≡◌, ℕ, zero, suc, ◌-◌, ◌^◌, min, nat_lt, Bool, List, Option, None}
use Rattle.std.specs.Prelude.{Some}
use Rattle.slices.specs.Holding.{Holding}
use Rattle.tpal_syntax.specs.Listing.{Listing}
use Rattle.tpal_machine.specs.declared.ends.Ending.{Ending}
use Rattle.tpal_machine.specs.declared.ends.Ending.TheVariants as ending
use Rattle.tpal_machine.specs.declared.faults.Fault.{Fault}
use Rattle.tpal_machine.specs.RestState.{RestState}
use Rattle.tpal_machine.specs.State.{State, first_state}
use Rattle.tpal_machine.specs.Step.{Step, Goes, Beats, Ends, Asks, Forks, Stuck, Strays, step}
use Rattle.schedule_core.specs.declared.lanes.Tally.{Tally}
use Rattle.schedule_core.specs.Core as core
use Rattle.schedule_core.specs.Core.{Config, Event, LeastFree, first}
use Rattle.schedule_core.specs.Run.{CoreRun, EachEvent}
use Rattle.schedule_core.specs.Sharing.{ClaimsLast}
use Rattle.schedule_core.specs.Solo as solo
use Rattle.schedule_core.specs.Solo.{Lane, SoloState, Runs, Over, Lost, after_step, first_lane}
use Rattle.schedule_core.specs.Tasks.{tasks}
use Rattle.tpal_verify.specs.declared.report.ExecEnd.{ExecEnd}
use Rattle.tpal_verify.specs.declared.report.ExecEnd.TheVariants as how
use Rattle.tpal_verify.specs.declared.report.ExecReport.{ExecReport}

-- what is told of a run that came to its end in this way, with these counts
abbrev pub report_of : ExecEnd → Tally → ExecReport
report_of way tally =
    record { «end» = way; tasks = tally.tasks; instructions = tally.instructions }

-- a run whose next instruction is stuck, at a position that is told as 2 ^ 32 - 1 where it is
-- beyond
abbrev pub stuck_at : Fault → Lane → ExecReport
stuck_at fault lane =
    report_of (how.Stuck fault lane.task.block (min lane.task.at (2 ^ 32 - 1))) lane.tally

-- what a stage is told as: that the run is over, or what is told of the task that runs; nothing
-- where the stage is none
abbrev pub told : SoloState → (Lane → Option ExecReport) → Option ExecReport
told (Runs lane) of_lane = of_lane lane
told (Over outcome tally) of_lane = Some (report_of (how.Ended outcome) tally)
told Lost of_lane = None

-- a step that is stuck isn't executed; with any other the run goes on
abbrev pub on_step : Listing → Lane → (SoloState → Option ExecReport) → Step → Option ExecReport
on_step code lane go (Stuck fault) = Some (stuck_at fault lane)
on_step code lane go (Goes after) = go (after_step code (Goes after) lane.opened lane.tally)
on_step code lane go (Beats diverted) = go (after_step code (Beats diverted) lane.opened lane.tally)
on_step code lane go (Ends e) = go (after_step code (Ends e) lane.opened lane.tally)
on_step code lane go (Asks waits) = go (after_step code (Asks waits) lane.opened lane.tally)
on_step code lane go (Forks parts) = go (after_step code (Forks parts) lane.opened lane.tally)
on_step code lane go Strays = None

-- what a run comes to from a stage on, where so many instructions are left to it: with this
-- heartbeat, and so many diversions allowed
unfoldable pub exec_from : ℕ → Listing → ℕ → ℕ → SoloState → Option ExecReport
exec_from zero code heartbeat forks stage =
    told stage (λ lane. Some (report_of how.Spent lane.tally))
exec_from (suc left) code heartbeat forks stage =
    told stage (λ lane.
    on_step code lane (λ next. exec_from left code heartbeat forks next)
    (step code heartbeat (nat_lt lane.tally.beats forks) lane.task))

-- what a run comes to from its first task on, which holds this of the tables, with this fuel
abbrev pub exec : ℕ → Listing → ℕ → ℕ → List Holding → ℕ → Option ExecReport
exec steps code heartbeat forks held fuel =
    exec_from steps code heartbeat forks (Runs (first_lane (first_state held fuel)))

-- ---- the list of events

-- the next instruction of the worker's task is stuck, at this position of this block
pub record IsStuckIn (code : Listing) (heartbeat forks : ℕ) (fault : Fault) (block at : ℕ)
    (c : Config State RestState Ending) : Type 0 where
  pub task : State
  pub due : Bool
  pub seat : c.seats 0 ≡ core.running task due
  pub stuck : step code heartbeat (core.is_allowed forks (c.beats 0)) task ≡ Stuck fault
  pub block_is : task.block ≡ block
  pub at_is : min task.at (2 ^ 32 - 1) ≡ at

-- the worker runs a task, and the run has no outcome
pub record StillRuns (c : Config State RestState Ending) : Type 0 where
  pub task : State
  pub due : Bool
  pub seat : c.seats 0 ≡ core.running task due
  pub unfinished : c.outcome ≡ None

-- a configuration at which a run ends so
abbrev pub EndsIn : Listing → ℕ → ℕ → ExecEnd → Config State RestState Ending → Type 0
EndsIn code heartbeat forks (how.Ended outcome) c = c.outcome ≡ Some (ending.Root outcome)
EndsIn code heartbeat forks how.Spent c = StillRuns c
EndsIn code heartbeat forks (how.Stuck fault block at) c =
    IsStuckIn code heartbeat forks fault block at c

-- A run of a code from a task that comes to this is a list of events of the core: of one worker,
-- with 64 records, of which the least free one is given and that which was opened last is claimed.
pub record ExecEvents (code : Listing) (heartbeat forks : ℕ) (task : State) (report : ExecReport)
    : Type 0 where
  pub events : List Event
  pub last : Config State RestState Ending
  pub run : CoreRun (tasks code heartbeat) LeastFree forks solo.records 1 (first task) events last
  pub claims : EachEvent (tasks code heartbeat) LeastFree forks solo.records 1 ClaimsLast run
  pub ends : EndsIn code heartbeat forks report.«end» last
  pub tasks_are : last.tasks ≡ report.tasks
  pub instructions_are : last.instructions ≡ report.instructions

-- the fault of a run that is stuck
abbrev pub WhereStuck : ExecEnd → (Fault → Type 0) → Type 0
WhereStuck (how.Ended outcome) P = Unit {0}
WhereStuck how.Spent P = Unit {0}
WhereStuck (how.Stuck fault block at) P = P fault
