-- The solo run: one worker, which claims the child of the record that was opened last as soon as it
-- has nothing else. The open records nest, so they are a list of which only the first is at hand,
-- and the least free record is the one whose number is the length of that list.
use Rattle.std.specs.Prelude.{ℕ, suc, ◌+◌, ◌-◌, ◌^◌, min, nat_lt, if◌then◌else◌, List, [], ◌∷◌}
use Rattle.std.specs.Prelude.{length, Some, None}
use Rattle.tp_value.specs.declared.values.Outcome.{Outcome}
use Rattle.tpal_syntax.specs.Listing.{Listing}
use Rattle.tpal_machine.specs.declared.ends.Ending.{Ending}
use Rattle.tpal_machine.specs.declared.ends.Ending.TheVariants as ending
use Rattle.tpal_machine.specs.declared.ends.Side.{Side}
use Rattle.tpal_machine.specs.Cut.{Forked}
use Rattle.tpal_machine.specs.Effect.{answered}
use Rattle.tpal_machine.specs.Merge as merging
use Rattle.tpal_machine.specs.Merge.{Joined, joined}
use Rattle.tpal_machine.specs.State.{State}
use Rattle.tpal_machine.specs.Step.{Step, Goes, Beats, Ends, Asks, Forks, Stuck, Strays, step}
use Rattle.schedule_core.specs.declared.lanes.Opened.{Opened}
use Rattle.schedule_core.specs.declared.lanes.Opened.TheVariants.{Waiting, Half}
use Rattle.schedule_core.specs.declared.lanes.Tally.{Tally}

-- the records of a solo run
abbrev pub records : ℕ
records = 64

-- a count that stays at its type's end
abbrev pub more : ℕ → ℕ → ℕ
more n m = min (n + m) (2 ^ 64 - 1)

-- what the worker has: its running task, the open records from the last one that was opened on, and
-- the counts so far
pub record Lane : Type 0 where
  pub task : State
  pub opened : List Opened
  pub tally : Tally

-- what the run comes to next: a task runs, the run is over, or nothing of the kind
pub data SoloState : Type 0 where
  Runs : Lane → SoloState
  Over : Outcome → Tally → SoloState
  Lost : SoloState

abbrev pub runs : State → List Opened → Tally → SoloState
runs task opened tally = Runs (record { task = task; opened = opened; tally = tally })

-- ---- counts

abbrev pub no_tally : Tally
no_tally = record { tasks = 0; beats = 0; skipped = 0; instructions = 0 }

-- so many instructions and beats more
abbrev pub turned : ℕ → ℕ → Tally → Tally
turned steps beats tally =
    record tally { beats = more tally.beats beats; instructions = more tally.instructions steps }

abbrev pub one_task : Tally → Tally
one_task tally = record tally { tasks = more tally.tasks 1 }

abbrev pub one_skipped : Tally → Tally
one_skipped tally = record tally { skipped = more tally.skipped 1 }

-- ---- events

-- a task that asks is given the least free record, or none
abbrev pub asked : State → List Opened → Tally → SoloState
asked waits opened tally =
    if nat_lt (length opened) records then runs (answered (Some (length opened)) waits) opened tally
    else runs (answered None waits) opened (one_skipped tally)

-- a task that forks opens its record, and goes on as the left side
abbrev pub forked : Forked → List Opened → Tally → SoloState
forked parts opened tally =
    runs parts.left (Waiting parts.rest parts.child ∷ opened) (one_task tally)

-- what two sides are joined to goes on, or arrives in its turn
abbrev pub on_joined : Joined → List Opened → Tally → (Ending → SoloState) → SoloState
on_joined (merging.Goes task) opened tally arrive = runs task opened tally
on_joined (merging.Ends e) opened tally arrive = arrive e

-- a side arrives at an open record: at one whose child waits it is the left, and that child runs;
-- else it is the right, and the two are merged
abbrev pub met : Opened → Listing → Side → List Opened → Tally → (Ending → SoloState) → SoloState
met (Waiting rest child) code side opened tally arrive = runs child (Half rest side ∷ opened) tally
met (Half rest left) code side opened tally arrive =
    on_joined (joined code rest left side) opened tally arrive

-- a task has ended: the run is over, or the side that it is arrives
abbrev pub arrived_with : Ending → Tally → (Side → SoloState) → SoloState
arrived_with (ending.Root outcome) tally arrive = Over outcome tally
arrived_with (ending.At k name side) tally arrive = arrive side

-- what a side that arrives comes to
abbrev pub arrived_at : List Opened → Listing → Tally → Side → SoloState
arrived_at [] code tally side = Lost
arrived_at (one ∷ opened) code tally side =
    met one code side opened tally
    (λ e. arrived_with e tally (λ other. arrived_at opened code tally other))

-- what an ending comes to
abbrev pub arrived : Listing → List Opened → Tally → Ending → SoloState
arrived code opened tally e = arrived_with e tally (λ side. arrived_at opened code tally side)

-- what a step comes to
abbrev pub after_step : Listing → Step → List Opened → Tally → SoloState
after_step code (Goes after) opened tally = runs after opened (turned 1 0 tally)
after_step code (Beats diverted) opened tally = runs diverted opened (turned 1 1 tally)
after_step code (Ends e) opened tally = arrived code opened (turned 1 0 tally) e
after_step code (Asks waits) opened tally = asked waits opened (turned 1 0 tally)
after_step code (Forks parts) opened tally = forked parts opened (turned 1 0 tally)
after_step code (Stuck fault) opened tally = Lost
after_step code Strays opened tally = Lost

-- one instruction, and all that it leads to before the next: with this heartbeat, where so many
-- diversions are allowed
abbrev pub next : Listing → ℕ → ℕ → Lane → SoloState
next code heartbeat forks lane =
    after_step code (step code heartbeat (nat_lt lane.tally.beats forks) lane.task) lane.opened
    lane.tally

-- a solo run comes to its end by so many instructions
pub data Comes (code : Listing) (heartbeat forks : ℕ)
    : ℕ → SoloState → Outcome → Tally → Type 0 where
  over : (outcome : Outcome) (tally : Tally)
      → Comes code heartbeat forks 0 (Over outcome tally) outcome tally
  on : (n : ℕ) (lane : Lane) (outcome : Outcome) (tally : Tally)
      → Comes code heartbeat forks n (next code heartbeat forks lane) outcome tally
      → Comes code heartbeat forks (suc n) (Runs lane) outcome tally

abbrev pub first_lane : State → Lane
first_lane task = record { task = task; opened = []; tally = no_tally }

-- the solo run of a code from a task comes to this
pub record SoloRun (code : Listing) (heartbeat forks : ℕ) (task : State) (outcome : Outcome)
    (tally : Tally) : Type 0 where
  pub instructions : ℕ
  pub comes : Comes code heartbeat forks instructions (Runs (first_lane task)) outcome tally
