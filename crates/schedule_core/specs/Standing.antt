-- How what a configuration holds stands for the workers and records of the core.
use Rattle.std.specs.Prelude.{ℕ, ◌≡◌, ◌≤◌, ◌<◌, ◌^◌, ◌+◌, List, [], ◌∷◌, length, Option, Some, None}
use Rattle.std.specs.Prelude.{slice_index_or, slice_set}
use Rattle.tp_value.specs.declared.limits.TheConstants.{MAX_BEAT, MAX_FORKS, MAX_WORKERS}
use Rattle.tp_value.specs.declared.values.Outcome.{Outcome}
use Rattle.tpal_machine.specs.declared.ends.Ending.{Ending}
use Rattle.tpal_machine.specs.declared.ends.Ending.TheVariants as ending
use Rattle.tpal_machine.specs.declared.ends.Side.{Side}
use Rattle.tpal_machine.specs.declared.ends.SideName.TheVariants.{Left, Right}
use Rattle.tpal_machine.specs.RestState.{RestState}
use Rattle.tpal_machine.specs.State.{State}
use Rattle.schedule_core.specs.declared.seats.Seat.{Seat}
use Rattle.schedule_core.specs.declared.seats.Seat.TheVariants as seat
use Rattle.schedule_core.specs.declared.seats.Cell.{Cell}
use Rattle.schedule_core.specs.declared.seats.Cell.TheVariants as cell
use Rattle.schedule_core.specs.declared.seats.Worker.{Worker}
use Rattle.schedule_core.specs.Core as core
use Rattle.schedule_core.specs.Core.{Config}

-- a configuration as it is kept: a list of workers and one of records, the list of open records,
-- the outcome where there is one, the counts, the heartbeat, and how often each worker may be
-- diverted
pub record Standing : Type 0 where
  pub workers : List Worker
  pub cells : List Cell
  pub order : List ℕ
  pub outcome : Option Outcome
  pub tasks : ℕ
  pub skipped : ℕ
  pub instructions : ℕ
  pub heartbeat : ℕ
  pub forks : ℕ

abbrev pub seat_of : Seat → core.Seat State RestState Ending
seat_of seat.Resting = core.resting
seat_of (seat.Running task due) = core.running task due
seat_of (seat.Forked rec on child rest) = core.forked rec on child rest
seat_of (seat.Ended e) = core.ended e
seat_of (seat.Holding rec) = core.holding rec

abbrev pub left_of : ℕ → Option Side → Option Ending
left_of k None = None
left_of k (Some side) = Some (ending.At k Left side)

abbrev pub right_of : ℕ → Option Side → Option Ending
right_of k None = None
right_of k (Some side) = Some (ending.At k Right side)

abbrev pub cell_of : ℕ → Cell → core.Cell State RestState Ending
cell_of k cell.Free = core.free
cell_of k (cell.Taken worker) = core.taken worker
cell_of k (cell.Opened rest child p q) = core.opened rest child (left_of k p) (right_of k q)
cell_of k (cell.Met worker rest p q) =
    core.met worker rest (ending.At k Left p) (ending.At k Right q)

-- the worker of a number, and what the record of a number holds
abbrev pub no_worker : Worker
no_worker = record { seat = seat.Resting; beats = 0 }

abbrev pub worker_at : List Worker → ℕ → Worker
worker_at workers w = slice_index_or workers w no_worker

abbrev pub cell_at : List Cell → ℕ → Cell
cell_at cells k = slice_index_or cells k cell.Free

abbrev pub ending_of : Option Outcome → Option Ending
ending_of None = None
ending_of (Some outcome) = Some (ending.Root outcome)

-- the beats of all workers
abbrev pub all_beats : List Worker → ℕ
all_beats [] = 0
all_beats (w ∷ ws) = w.beats + all_beats ws

-- the configuration that is kept so
abbrev pub stands : Standing → Config State RestState Ending
stands s = record {
  seats = λ w. seat_of (worker_at s.workers w).seat;
  cells = λ k. cell_of k (cell_at s.cells k);
  order = s.order;
  outcome = ending_of s.outcome;
  beats = λ w. (worker_at s.workers w).beats;
  tasks = s.tasks;
  skipped = s.skipped;
  instructions = s.instructions;
}

-- what never changes
pub record SameRun (old new : Standing) : Type 0 where
  pub workers : length new.workers ≡ length old.workers
  pub records : length new.cells ≡ length old.cells
  pub heartbeat : new.heartbeat ≡ old.heartbeat
  pub forks : new.forks ≡ old.forks

-- what is true of every configuration: its heartbeat, its workers and its forks are in range, and
-- the numbers of its records fit their type
pub record IsStanding (s : Standing) : Type 0 where
  pub heartbeat : 1 ≤ s.heartbeat
  pub beat : s.heartbeat ≤ MAX_BEAT
  pub workers : length s.workers ≤ MAX_WORKERS
  pub records : length s.cells < 2 ^ 32
  pub forks : s.forks ≤ MAX_FORKS

-- ---- changes

-- a worker has something else
abbrev pub with_seat : Standing → ℕ → Seat → Standing
with_seat s w x =
    record s
    { workers = slice_set s.workers w (record { seat = x; beats = (worker_at s.workers w).beats }) }

-- a record holds something else
abbrev pub with_cell : Standing → ℕ → Cell → Standing
with_cell s k x = record s { cells = slice_set s.cells k x }
