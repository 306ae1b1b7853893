-- What an event is asked of a configuration of a code, and what it gives.
use Rattle.std.specs.Prelude.{ℕ, ◌*◌, ◌≡◌, ◌≤◌, Bool, false, length, Option, Some, None, Result, Ok}
use Rattle.std.specs.Prelude.{Err}
use Rattle.tp_value.specs.declared.limits.TheConstants.{MAX_FUEL, MAX_BEAT, MAX_WORKERS, MAX_FORKS}
use Rattle.tp_value.specs.declared.limits.TheConstants.{RECORDS_PER_WORKER}
use Rattle.tpal_syntax.specs.Listing.{Listing}
use Rattle.tpal_machine.specs.declared.ends.Ending.{Ending}
use Rattle.tpal_machine.specs.declared.ends.Ending.TheVariants as ending
use Rattle.tpal_machine.specs.declared.ends.SideName.TheVariants.{Left, Right}
use Rattle.tpal_machine.specs.declared.faults.Fault.{Fault}
use Rattle.tpal_machine.specs.Belonging.{RunsOn, IsEndingOf}
use Rattle.tpal_machine.specs.Belongs.{RestBelongsTo}
use Rattle.tpal_machine.specs.Merge.{AreSides}
use Rattle.tpal_machine.specs.Owes.{Owes}
use Rattle.tpal_machine.specs.RestState.{RestState}
use Rattle.tpal_machine.specs.State.{State, first_state}
use Rattle.tpal_machine.specs.Step as machine
use Rattle.tpal_machine.specs.Step.{step}
use Rattle.schedule_core.specs.declared.event.Event.{Event}
use Rattle.schedule_core.specs.declared.event.Event.TheVariants as event
use Rattle.schedule_core.specs.declared.event.ApplyFault.{ApplyFault}
use Rattle.schedule_core.specs.declared.event.ApplyFault.TheVariants as fault
use Rattle.schedule_core.specs.declared.job.Job.{Job}
use Rattle.schedule_core.specs.Core as core
use Rattle.schedule_core.specs.Core.{Config, resting, running, forked, ended, holding, free, taken}
use Rattle.schedule_core.specs.Core.{opened, met, is_allowed, LeastFree, CoreStep}
use Rattle.schedule_core.specs.Enabled as enabled
use Rattle.schedule_core.specs.Sound.{Sound}
use Rattle.schedule_core.specs.Standing.{Standing, SameRun, stands}
use Rattle.schedule_core.specs.Tasks.{tasks}

-- ---- conditions

-- a job that a code can be run by
pub record IsJob (code : Listing) (job : Job) : Type 0 where
  pub tables : length job.tables ≡ length code.tables
  pub fuel : job.fuel ≤ MAX_FUEL
  pub heartbeat : (1 ≤ job.heartbeat) × (job.heartbeat ≤ MAX_BEAT)
  pub workers : (1 ≤ job.workers) × (job.workers ≤ MAX_WORKERS)
  pub forks : job.forks ≤ MAX_FORKS

module _ (code : Listing) where
  -- what a worker has belongs to the code
  abbrev pub SeatBelongs : core.Seat State RestState Ending → Type 0
  SeatBelongs resting = Unit {0}
  SeatBelongs (running task due) = RunsOn code task
  SeatBelongs (forked k on child rest) =
      RunsOn code on × RunsOn code child × RestBelongsTo code rest
  SeatBelongs (ended e) = IsEndingOf code e
  SeatBelongs (holding k) = Unit {0}

  abbrev pub ChildBelongs : Option State → Type 0
  ChildBelongs None = Unit {0}
  ChildBelongs (Some child) = RunsOn code child

  abbrev pub SideBelongs : Option Ending → Type 0
  SideBelongs None = Unit {0}
  SideBelongs (Some e) = IsEndingOf code e

  -- what a record holds belongs to the code
  abbrev pub CellBelongs : core.Cell State RestState Ending → Type 0
  CellBelongs free = Unit {0}
  CellBelongs (taken w) = Unit {0}
  CellBelongs (opened rest child p q) =
      RestBelongsTo code rest × ChildBelongs child × SideBelongs p × SideBelongs q
  CellBelongs (met w rest p q) = RestBelongsTo code rest × IsEndingOf code p × IsEndingOf code q

  -- two endings are those of the left and the right side of a rest's record
  abbrev pub AreSidesOf : RestState → Ending → Ending → Type 0
  AreSidesOf rest (ending.At i Left p) (ending.At j Right q) = AreSides code rest p q
  AreSidesOf rest (ending.At i Left p) (ending.At j Left q) = ⊥
  AreSidesOf rest (ending.At i Right p) (ending.At j side q) = ⊥
  AreSidesOf rest (ending.At i Right p) (ending.Root outcome) = ⊥
  AreSidesOf rest (ending.At i Left p) (ending.Root outcome) = ⊥
  AreSidesOf rest (ending.Root outcome) e = ⊥

-- a configuration belongs to a code where all that it holds does; none of its tasks waits for an
-- answer
pub record Belongs (code : Listing) (c : Config State RestState Ending) : Type 0 where
  pub seats : (w : ℕ) → SeatBelongs code (c.seats w)
  pub records : (k : ℕ) → CellBelongs code (c.cells k)

-- ---- events

abbrev pub event_of : Event → core.Event
event_of (event.Step w) = core.Step w
event_of (event.Open w) = core.Open w
event_of (event.Claim w k) = core.Claim w k
event_of (event.Arrive w) = core.Arrive w
event_of (event.Free w) = core.Free w
event_of (event.Finish w) = core.Finish w

abbrev pub IsEnabled : Listing → Standing → Event → Type 0
IsEnabled code s e =
    enabled.Enabled (tasks code s.heartbeat) (length s.cells) (length s.workers) (stands s)
    (event_of e)

-- where a worker frees a record that it has met, the two sides are of the rest's record
abbrev pub SidesFit : Listing → Standing → Event → Type 0
SidesFit code s (event.Step w) = Unit {0}
SidesFit code s (event.Open w) = Unit {0}
SidesFit code s (event.Claim w k) = Unit {0}
SidesFit code s (event.Arrive w) = Unit {0}
SidesFit code s (event.Free w) =
    enabled.HasMet (λ rest p q. Unit {0}) (stands s).cells ((stands s).seats w)
    → enabled.HasMet (AreSidesOf code) (stands s).cells ((stands s).seats w)
SidesFit code s (event.Finish w) = Unit {0}

-- one event of the core, in which a question for a record is answered with the least free one
abbrev pub Steps : Listing → Standing → Event → Standing → Type 0
Steps code old e new =
    CoreStep (tasks code old.heartbeat) LeastFree old.forks (length old.cells) (length old.workers)
    (stands old) (event_of e) (stands new)

-- a running task's next instruction is stuck
abbrev pub SeatStuck : Listing → ℕ → Bool → Fault → core.Seat State RestState Ending → Type 0
SeatStuck code heartbeat allowed fault resting = ⊥
SeatStuck code heartbeat allowed fault (running task due) =
    step code heartbeat allowed task ≡ machine.Stuck fault
SeatStuck code heartbeat allowed fault (forked k on child rest) = ⊥
SeatStuck code heartbeat allowed fault (ended e) = ⊥
SeatStuck code heartbeat allowed fault (holding k) = ⊥

abbrev pub IsStuckAt : Listing → Standing → Event → Fault → Type 0
IsStuckAt code s (event.Step w) fault =
    SeatStuck code s.heartbeat (is_allowed s.forks ((stands s).beats w)) fault ((stands s).seats w)
IsStuckAt code s (event.Open w) fault = ⊥
IsStuckAt code s (event.Claim w k) fault = ⊥
IsStuckAt code s (event.Arrive w) fault = ⊥
IsStuckAt code s (event.Free w) fault = ⊥
IsStuckAt code s (event.Finish w) fault = ⊥

-- what an event gives: a configuration, which runs the same job; the same one, where the event
-- isn't enabled; or the fault of the next instruction
abbrev pub Gives : Listing → Standing → Event → Result Standing ApplyFault → Type 0
Gives code s e (Ok new) = Steps code s e new × SameRun s new
Gives code s e (Err (fault.NotEnabled same)) = (same ≡ s) × (IsEnabled code s e → ⊥)
Gives code s e (Err (fault.Stuck f)) = IsStuckAt code s e f
Gives code s e (Err fault.NoMemory) = Unit {0}

-- what holds of the configuration that comes back where the event isn't enabled
abbrev pub WhereNotEnabled : Result Standing ApplyFault → (Standing → Type 0) → Type 0
WhereNotEnabled (Ok new) P = Unit {0}
WhereNotEnabled (Err (fault.NotEnabled same)) P = P same
WhereNotEnabled (Err (fault.Stuck f)) P = Unit {0}
WhereNotEnabled (Err fault.NoMemory) P = Unit {0}

-- what holds of the fault where the next instruction is stuck
abbrev pub WhereStuck : Result Standing ApplyFault → (Fault → Type 0) → Type 0
WhereStuck (Ok new) P = Unit {0}
WhereStuck (Err (fault.NotEnabled same)) P = Unit {0}
WhereStuck (Err (fault.Stuck f)) P = P f
WhereStuck (Err fault.NoMemory) P = Unit {0}

-- ---- soundness

-- a configuration is sound for what the run will end with
abbrev pub IsSound : Listing → Standing → Ending → Type 0
IsSound code s out =
    Sound (tasks code s.heartbeat) s.heartbeat s.forks (length s.cells) (length s.workers) out
    (stands s)

-- the first task of a job owes an ending
abbrev pub FirstOwes : Listing → Job → Ending → Type 0
FirstOwes code job out = Owes code job.heartbeat false 0 (first_state job.tables job.fuel) out

-- a configuration is one of a job: it has the job's heartbeat and forks, its workers, and 64
-- records for each
pub record IsRunOf (job : Job) (s : Standing) : Type 0 where
  pub heartbeat : s.heartbeat ≡ job.heartbeat
  pub forks : s.forks ≡ job.forks
  pub workers : length s.workers ≡ job.workers
  pub records : length s.cells ≡ RECORDS_PER_WORKER * job.workers
