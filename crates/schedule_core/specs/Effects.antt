-- What each event makes of a configuration as it is kept, by what its worker has.
use Rattle.std.specs.Prelude.{ℕ, ◌+◌, ◌≡◌, Bool, true, false, ◌&&◌, nat_lt, if◌then◌else◌, IsSome}
use Rattle.std.specs.Prelude.{length, List, [], ◌∷◌, ◌++◌, Option, Some, None, Result, Ok, Err}
use Rattle.std.specs.Prelude.{slice_set}
use Rattle.tpal_syntax.specs.Listing.{Listing}
use Rattle.tpal_machine.specs.declared.ends.Ending.TheVariants as ending
use Rattle.tpal_machine.specs.declared.ends.Side.{Side}
use Rattle.tpal_machine.specs.declared.ends.SideName.{SideName}
use Rattle.tpal_machine.specs.declared.ends.SideName.TheVariants.{Left, Right}
use Rattle.tpal_machine.specs.declared.faults.Fault.{Fault}
use Rattle.tpal_machine.specs.Effect.{answered}
use Rattle.tpal_machine.specs.Merge as merging
use Rattle.tpal_machine.specs.Merge.{joined, AreSides}
use Rattle.tpal_machine.specs.Belonging.{RunsOn}
use Rattle.tpal_machine.specs.Belongs.{RestBelongsTo, SideBelongsTo}
use Rattle.tpal_machine.specs.RestState.{RestState}
use Rattle.tpal_machine.specs.State.{State}
use Rattle.tpal_machine.specs.Step as machine
use Rattle.tpal_machine.specs.Step.{step}
use Rattle.schedule_core.specs.declared.event.Event.{Event}
use Rattle.schedule_core.specs.declared.event.Event.TheVariants as event
use Rattle.schedule_core.specs.declared.event.ApplyFault.{ApplyFault}
use Rattle.schedule_core.specs.declared.event.ApplyFault.TheVariants as fault
use Rattle.schedule_core.specs.declared.seats.Seat.{Seat}
use Rattle.schedule_core.specs.declared.seats.Seat.TheVariants as seat
use Rattle.schedule_core.specs.declared.seats.Cell.{Cell}
use Rattle.schedule_core.specs.declared.seats.Cell.TheVariants as cell
use Rattle.schedule_core.specs.declared.stepping.Once.{Once}
use Rattle.schedule_core.specs.declared.stepping.Once.TheVariants as once
use Rattle.schedule_core.specs.Core.{one_more, without, is_allowed}
use Rattle.schedule_core.specs.Standing.{Standing, worker_at, cell_at, with_seat, with_cell}

-- ---- which events are enabled

abbrev pub runs : Seat → Bool
runs seat.Resting = false
runs (seat.Running task due) = true
runs (seat.Forked rec on child rest) = false
runs (seat.Ended e) = false
runs (seat.Holding rec) = false

abbrev pub has_forked : ℕ → Seat → Bool
has_forked K seat.Resting = false
has_forked K (seat.Running task due) = false
has_forked K (seat.Forked rec on child rest) = nat_lt rec K
has_forked K (seat.Ended e) = false
has_forked K (seat.Holding rec) = false

abbrev pub rests : Seat → Bool
rests seat.Resting = true
rests (seat.Running task due) = false
rests (seat.Forked rec on child rest) = false
rests (seat.Ended e) = false
rests (seat.Holding rec) = false

abbrev pub comes_to_record : Seat → Bool
comes_to_record seat.Resting = false
comes_to_record (seat.Running task due) = false
comes_to_record (seat.Forked rec on child rest) = false
comes_to_record (seat.Ended (ending.At rec side out)) = true
comes_to_record (seat.Ended (ending.Root outcome)) = false
comes_to_record (seat.Holding rec) = false

abbrev pub ends_run : Seat → Bool
ends_run seat.Resting = false
ends_run (seat.Running task due) = false
ends_run (seat.Forked rec on child rest) = false
ends_run (seat.Ended (ending.At rec side out)) = false
ends_run (seat.Ended (ending.Root outcome)) = true
ends_run (seat.Holding rec) = false

abbrev pub is_unclaimed : Cell → Bool
is_unclaimed cell.Free = false
is_unclaimed (cell.Taken worker) = false
is_unclaimed (cell.Opened rest None p q) = false
is_unclaimed (cell.Opened rest (Some child) p q) = true
is_unclaimed (cell.Met worker rest p q) = false

abbrev pub is_met : Cell → Bool
is_met cell.Free = false
is_met (cell.Taken worker) = false
is_met (cell.Opened rest child p q) = false
is_met (cell.Met worker rest p q) = true

abbrev pub has_met : List Cell → Seat → Bool
has_met cells seat.Resting = false
has_met cells (seat.Running task due) = false
has_met cells (seat.Forked rec on child rest) = false
has_met cells (seat.Ended e) = false
has_met cells (seat.Holding rec) = is_met (cell_at cells rec)

abbrev pub worker_of : Event → ℕ
worker_of (event.Step w) = w
worker_of (event.Open w) = w
worker_of (event.Claim w k) = w
worker_of (event.Arrive w) = w
worker_of (event.Free w) = w
worker_of (event.Finish w) = w

-- what an event asks of its worker's seat
abbrev pub fits : List Cell → Event → Seat → Bool
fits cells (event.Step w) x = runs x
fits cells (event.Open w) x = has_forked (length cells) x
fits cells (event.Claim w k) x = rests x && is_unclaimed (cell_at cells k)
fits cells (event.Arrive w) x = comes_to_record x
fits cells (event.Free w) x = has_met cells x
fits cells (event.Finish w) x = ends_run x

-- an event can happen
abbrev pub can : Standing → Event → Bool
can s e =
    nat_lt (worker_of e) (length s.workers) && fits s.cells e
    (worker_at s.workers (worker_of e)).seat

-- ---- the least free record

abbrev pub is_free : Cell → Bool
is_free cell.Free = true
is_free (cell.Taken worker) = false
is_free (cell.Opened rest child p q) = false
is_free (cell.Met worker rest p q) = false

abbrev pub least_free_from : List Cell → ℕ → Option ℕ
least_free_from [] k = None
least_free_from (x ∷ xs) k = if is_free x then Some k else least_free_from xs (k + 1)

abbrev pub least_free : List Cell → Option ℕ
least_free cells = least_free_from cells 0

-- ---- events

-- what a record holds, and the worker has that brought a side, where it arrives
abbrev pub met_left : ℕ → ℕ → Side → Cell → Cell × Seat
met_left w k out cell.Free = (cell.Free, seat.Resting)
met_left w k out (cell.Taken worker) = (cell.Taken worker, seat.Resting)
met_left w k out (cell.Opened rest child p None) =
    (cell.Opened rest child (Some out) None, seat.Resting)
met_left w k out (cell.Opened rest child p (Some q)) = (cell.Met w rest out q, seat.Holding k)
met_left w k out (cell.Met worker rest p q) = (cell.Met worker rest p q, seat.Resting)

abbrev pub met_right : ℕ → ℕ → Side → Cell → Cell × Seat
met_right w k out cell.Free = (cell.Free, seat.Resting)
met_right w k out (cell.Taken worker) = (cell.Taken worker, seat.Resting)
met_right w k out (cell.Opened rest child None q) =
    (cell.Opened rest child None (Some out), seat.Resting)
met_right w k out (cell.Opened rest child (Some p) q) = (cell.Met w rest p out, seat.Holding k)
met_right w k out (cell.Met worker rest p q) = (cell.Met worker rest p q, seat.Resting)

abbrev pub met_side : ℕ → ℕ → SideName → Side → Cell → Cell × Seat
met_side w k Left out x = met_left w k out x
met_side w k Right out x = met_right w k out x

-- what a worker has with what two sides were merged to
abbrev pub merged_seat : merging.Joined → Seat
merged_seat (merging.Goes task) = seat.Running task false
merged_seat (merging.Ends e) = seat.Ended e

module _ (s : Standing) (w : ℕ) where
  -- the worker's task was diverted
  abbrev pub diverted_on : State → Standing
  diverted_on task =
      record s {
        workers = slice_set s.workers w
            (record {
              seat = seat.Running task true;
              beats = one_more (worker_at s.workers w).beats;
            });
      }

  -- the worker's task was given a record, or none
  abbrev pub given_on : State → Option ℕ → Standing
  given_on task None =
      record (with_seat s w (seat.Running (answered None task) false))
      { skipped = one_more s.skipped }
  given_on task (Some k) =
      with_cell (with_seat s w (seat.Running (answered (Some k) task) false)) k (cell.Taken w)

module _ (s : Standing) (w : ℕ) where
  -- the worker has nothing
  abbrev pub emptied : Standing
  emptied = with_seat s w seat.Resting

  -- the worker has nothing, and one instruction more was counted
  abbrev pub counted : Standing
  counted = record emptied { instructions = one_more s.instructions }

  abbrev pub opened : Seat → Standing
  opened seat.Resting = emptied
  opened (seat.Running task due) = emptied
  opened (seat.Forked rec on child rest) =
      record
      (with_cell (with_seat emptied w (seat.Running on false)) rec
      (cell.Opened rest (Some child) None None))
      { order = s.order ++ rec ∷ []; tasks = one_more s.tasks }
  opened (seat.Ended e) = emptied
  opened (seat.Holding rec) = emptied

  abbrev pub claimed : ℕ → Cell → Standing
  claimed k cell.Free = with_cell s k cell.Free
  claimed k (cell.Taken worker) = with_cell s k cell.Free
  claimed k (cell.Opened rest None p q) = with_cell s k cell.Free
  claimed k (cell.Opened rest (Some child) p q) =
      with_cell (with_seat (with_cell s k cell.Free) w (seat.Running child false)) k
      (cell.Opened rest None p q)
  claimed k (cell.Met worker rest p q) = with_cell s k cell.Free

  abbrev pub met_at : ℕ → Cell × Seat → Standing
  met_at k both = with_seat (with_cell (with_cell emptied k cell.Free) k both.0) w both.1

  abbrev pub arrived : Seat → Standing
  arrived seat.Resting = emptied
  arrived (seat.Running task due) = emptied
  arrived (seat.Forked rec on child rest) = emptied
  arrived (seat.Ended (ending.At rec side out)) =
      met_at rec (met_side w rec side out (cell_at s.cells rec))
  arrived (seat.Ended (ending.Root outcome)) = emptied
  arrived (seat.Holding rec) = emptied

  abbrev pub finished : Seat → Standing
  finished seat.Resting = emptied
  finished (seat.Running task due) = emptied
  finished (seat.Forked rec on child rest) = emptied
  finished (seat.Ended (ending.At rec side out)) = emptied
  finished (seat.Ended (ending.Root outcome)) = record emptied { outcome = Some outcome }
  finished (seat.Holding rec) = emptied

  abbrev pub freed_of : Listing → ℕ → Cell → Standing
  freed_of code k cell.Free = with_cell emptied k cell.Free
  freed_of code k (cell.Taken worker) = with_cell emptied k cell.Free
  freed_of code k (cell.Opened rest child p q) = with_cell emptied k cell.Free
  freed_of code k (cell.Met worker rest p q) =
      record (with_seat (with_cell emptied k cell.Free) w (merged_seat (joined code rest p q)))
      { order = without k s.order }

  abbrev pub freed : Listing → Seat → Standing
  freed code seat.Resting = emptied
  freed code (seat.Running task due) = emptied
  freed code (seat.Forked rec on child rest) = emptied
  freed code (seat.Ended e) = emptied
  freed code (seat.Holding rec) = freed_of code rec (cell_at s.cells rec)

-- ---- one step

-- the answer of a step that gives a configuration
abbrev pub IsNow : Standing → Result Standing ApplyFault → Type 0
IsNow s (Ok new) = new ≡ s
IsNow s (Err (fault.NotEnabled c)) = ⊥
IsNow s (Err (fault.Stuck f)) = ⊥
IsNow s (Err fault.NoMemory) = Unit {0}

abbrev pub IsStuckBy : Fault → Result Standing ApplyFault → Type 0
IsStuckBy f (Ok new) = ⊥
IsStuckBy f (Err (fault.NotEnabled c)) = ⊥
IsStuckBy f (Err (fault.Stuck g)) = f ≡ g
IsStuckBy f (Err fault.NoMemory) = Unit {0}

abbrev pub IsWant : Result Standing ApplyFault → Type 0
IsWant (Ok new) = ⊥
IsWant (Err (fault.NotEnabled c)) = ⊥
IsWant (Err (fault.Stuck f)) = ⊥
IsWant (Err fault.NoMemory) = Unit {0}

module _ (s : Standing) (w : ℕ) (free : Option ℕ) where
  -- what a step of the worker's task gives, where this is the least free record
  abbrev pub Stepped : Bool → machine.Step → Result Standing ApplyFault → Type 0
  Stepped due (machine.Goes task) result =
      IsNow (with_seat (counted s w) w (seat.Running task due)) result
  Stepped due (machine.Beats task) result = IsNow (diverted_on (counted s w) w task) result
  Stepped due (machine.Ends e) result = IsNow (with_seat (counted s w) w (seat.Ended e)) result
  Stepped due (machine.Asks task) result = IsNow (given_on (counted s w) w task free) result
  Stepped due (machine.Forks parts) result =
      IsNow (with_seat (counted s w) w (seat.Forked parts.rec parts.left parts.child parts.rest))
      result
  Stepped due (machine.Stuck f) result = IsStuckBy f result
  Stepped due machine.Strays result = ⊥

-- what an instruction that was counted gives
abbrev pub OnceGives : Standing → ℕ → Bool → Once → Result Standing ApplyFault → Type 0
OnceGives c w due (once.Goes task) result = IsNow (with_seat c w (seat.Running task due)) result
OnceGives c w due (once.Beats task) result = IsNow (diverted_on c w task) result
OnceGives c w due (once.Ends e) result = IsNow (with_seat c w (seat.Ended e)) result
OnceGives c w due (once.Asks task) result = IsNow (given_on c w task (least_free c.cells)) result
OnceGives c w due (once.Forks rec on child rest) result =
    IsNow (with_seat c w (seat.Forked rec on child rest)) result
OnceGives c w due (once.Stuck f) result = IsStuckBy f result
OnceGives c w due once.NoMemory result = IsWant result

-- a task that asked for a record waits for it
abbrev pub WaitsWhereAsked : Once → Type 0
WaitsWhereAsked (once.Goes task) = Unit {0}
WaitsWhereAsked (once.Beats task) = Unit {0}
WaitsWhereAsked (once.Ends e) = Unit {0}
WaitsWhereAsked (once.Asks task) = IsSome task.waiting
WaitsWhereAsked (once.Forks rec on child rest) = Unit {0}
WaitsWhereAsked (once.Stuck f) = Unit {0}
WaitsWhereAsked once.NoMemory = Unit {0}

-- one instruction of a task
abbrev pub IsStepOnce : machine.Step → Once → Type 0
IsStepOnce x (once.Goes task) = x ≡ machine.Goes task
IsStepOnce x (once.Beats task) = x ≡ machine.Beats task
IsStepOnce x (once.Ends e) = x ≡ machine.Ends e
IsStepOnce x (once.Asks task) = x ≡ machine.Asks task
IsStepOnce x (once.Forks rec on child rest) =
    x ≡ machine.Forks (record { rec = rec; left = on; rest = rest; child = child })
IsStepOnce x (once.Stuck f) = x ≡ machine.Stuck f
IsStepOnce x once.NoMemory = Unit {0}

-- a running task can be run on the code
abbrev pub CanRun : Listing → Seat → Type 0
CanRun code seat.Resting = Unit {0}
CanRun code (seat.Running task due) = RunsOn code task
CanRun code (seat.Forked rec on child rest) = Unit {0}
CanRun code (seat.Ended e) = Unit {0}
CanRun code (seat.Holding rec) = Unit {0}

-- what a step of a worker gives
abbrev pub SeatStepped : Listing → Standing → ℕ → Seat → Result Standing ApplyFault → Type 0
SeatStepped code s w seat.Resting result = Unit {0}
SeatStepped code s w (seat.Running task due) result =
    Stepped s w (least_free s.cells) due
    (step code s.heartbeat (is_allowed s.forks (worker_at s.workers w).beats) task) result
SeatStepped code s w (seat.Forked rec on child rest) result = Unit {0}
SeatStepped code s w (seat.Ended e) result = Unit {0}
SeatStepped code s w (seat.Holding rec) result = Unit {0}

-- a record that both sides have met can be merged
pub record Mergeable (code : Listing) (rest : RestState) (p q : Side) : Type 0 where
  pub sides : AreSides code rest p q
  pub rest_belongs : RestBelongsTo code rest
  pub left_belongs : SideBelongsTo code p
  pub right_belongs : SideBelongsTo code q

abbrev pub CellCanMerge : Listing → Cell → Type 0
CellCanMerge code cell.Free = Unit {0}
CellCanMerge code (cell.Taken worker) = Unit {0}
CellCanMerge code (cell.Opened rest child p q) = Unit {0}
CellCanMerge code (cell.Met worker rest p q) = Mergeable code rest p q

abbrev pub CanMerge : Listing → Standing → Seat → Type 0
CanMerge code s seat.Resting = Unit {0}
CanMerge code s (seat.Running task due) = Unit {0}
CanMerge code s (seat.Forked rec on child rest) = Unit {0}
CanMerge code s (seat.Ended e) = Unit {0}
CanMerge code s (seat.Holding rec) = CellCanMerge code (cell_at s.cells rec)
