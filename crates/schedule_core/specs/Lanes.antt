-- What the worker of a solo run owes: its task, and for each open record the two sides and what
-- they are merged to.
use Rattle.std.specs.Prelude.{◌≡◌, ◌⊎◌, ◌≤◌, ◌^◌, ◌-◌, ℕ, Bool, false, IsSome, List, [], ◌∷◌}
use Rattle.std.specs.Prelude.{length, Some, None}
use Rattle.tp_value.specs.declared.values.Outcome.{Outcome}
use Rattle.tpal_syntax.specs.Listing.{Listing}
use Rattle.tpal_machine.specs.declared.ends.End.{End}
use Rattle.tpal_machine.specs.declared.ends.End.TheVariants as «end»
use Rattle.tpal_machine.specs.declared.ends.Ending.{Ending}
use Rattle.tpal_machine.specs.declared.ends.Ending.TheVariants as ending
use Rattle.tpal_machine.specs.declared.ends.Side.{Side}
use Rattle.tpal_machine.specs.declared.ends.SideName.TheVariants.{Left, Right}
use Rattle.tpal_machine.specs.declared.turn.Turn.{Turn}
use Rattle.tpal_machine.specs.declared.turn.Turn.TheVariants as turn
use Rattle.tpal_machine.specs.Keeping.{number_of}
use Rattle.tpal_machine.specs.Merge as merging
use Rattle.tpal_machine.specs.Merge.{Joined, MergeOf}
use Rattle.tpal_machine.specs.Owes.{Owes}
use Rattle.tpal_machine.specs.RestState.{RestState, end_of}
use Rattle.tpal_machine.specs.State.{State}
use Rattle.tpal_machine.specs.Turn as turns
use Rattle.tpal_machine.specs.Turn.{Stopped}
use Rattle.schedule_core.specs.declared.lanes.Opened.{Opened}
use Rattle.schedule_core.specs.declared.lanes.Opened.TheVariants.{Waiting, Half}
use Rattle.schedule_core.specs.declared.lanes.SoloState.TheVariants as stage
use Rattle.schedule_core.specs.declared.lanes.SoloState as declared
use Rattle.schedule_core.specs.declared.lanes.Tally.{Tally}
use Rattle.schedule_core.specs.Solo.{Lane, SoloState, Runs, Over, Lost, runs, asked, forked}
use Rattle.schedule_core.specs.Solo.{arrived, arrived_at}

-- ---- places

-- where the running task ends: at the record that was opened last, or the run with it
abbrev pub end_at : List Opened → End
end_at [] = «end».Root
end_at (Waiting rest child ∷ opened) = «end».At (length opened) Left
end_at (Half rest left ∷ opened) = «end».At (length opened) Right

-- a running task ends there, and a record that it was given is the least free one
pub record Placed (task : State) (opened : List Opened) : Type 0 where
  pub place : end_of task.goal ≡ end_at opened
  pub given : (number_of task.pending ≡ None) ⊎ (number_of task.pending ≡ Some (length opened))

-- each open record stands above those that were opened before: there its rest ends, and its child
-- is its right side
abbrev pub AreNested : List Opened → Type 0
AreNested [] = Unit {0}
AreNested (Waiting rest child ∷ opened) =
    (end_of rest.goal ≡ end_at opened)
    × (child.pending ≡ None)
    × (end_of child.goal ≡ «end».At (length opened) Right)
    × AreNested opened
AreNested (Half rest left ∷ opened) = (end_of rest.goal ≡ end_at opened) × AreNested opened

-- ---- arrivals

abbrev pub EndArrives : Ending → (Side → Type 0) → Type 0
EndArrives (ending.Root outcome) More = Unit {0}
EndArrives (ending.At k name side) More = More side

abbrev pub JoinedArrives : Joined → (Side → Type 0) → Type 0
JoinedArrives (merging.Goes task) More = Unit {0}
JoinedArrives (merging.Ends e) More = EndArrives e More

-- two sides merge under a rest, and what they come to can arrive in its turn
pub record SidesMerge (code : Listing) (rest : RestState) (left right : Side)
    (More : Side → Type 0) : Type 0 where
  pub both : Joined
  pub merge : MergeOf code rest left right both
  pub later : JoinedArrives both More

-- a side that arrives at a record whose child waits is kept, and any other is merged with the left
abbrev pub SideArrives : Listing → Opened → Side → (Side → Type 0) → Type 0
SideArrives code (Waiting rest child) side More = Unit {0}
SideArrives code (Half rest left) side More = SidesMerge code rest left side More

-- a side can arrive at these open records
abbrev pub CanArrive : Listing → List Opened → Side → Type 0
CanArrive code [] side = ⊥
CanArrive code (one ∷ opened) side =
    SideArrives code one side (λ other. CanArrive code opened other)

-- ---- what is owed

module _ (code : Listing) (heartbeat : ℕ) where
  -- a task that stands above these open records owes an ending
  pub record TaskOwed (due : Bool) (task : State) (opened : List Opened) (e : Ending) : Type 0 where
    pub owes : Owes code heartbeat due 0 task e
    pub placed : Placed task opened

  abbrev pub JoinedOwed : Joined → List Opened → (Ending → Type 0) → Type 0
  JoinedOwed (merging.Goes task) opened More = (e : Ending) × TaskOwed false task opened e × More e
  JoinedOwed (merging.Ends e) opened More = More e

  -- what a rest and its sides are joined to owes an ending of which more is so
  pub record RestOwed (rest : RestState) (p q : Side) (opened : List Opened)
      (More : Ending → Type 0) : Type 0 where
    pub both : Joined
    pub place : end_of rest.goal ≡ end_at opened
    pub merge : MergeOf code rest p q both
    pub owed : JoinedOwed both opened More

  -- the child of a record that waits owes its side
  pub record ChildOwed (rest : RestState) (child : State) (p : Side) (opened : List Opened)
      (More : Ending → Type 0) : Type 0 where
    pub number : ℕ
    pub q : Side
    pub none : child.pending ≡ None
    pub owes : TaskOwed false child (Half rest p ∷ opened) (ending.At number Right q)
    pub merged : RestOwed rest p q opened More

  -- what is owed where a side arrives at a record
  abbrev pub SideOwed : Opened → Side → List Opened → (Ending → Type 0) → Type 0
  SideOwed (Waiting rest child) p opened More = ChildOwed rest child p opened More
  SideOwed (Half rest p) q opened More = RestOwed rest p q opened More

  abbrev pub EndingOwed : Ending → Outcome → (Side → Type 0) → Type 0
  EndingOwed (ending.Root outcome) out More = outcome ≡ out
  EndingOwed (ending.At k name side) out More = More side

  -- where a side arrives at these open records, the run comes to an outcome
  abbrev pub ArrivalOwed : List Opened → Outcome → Side → Type 0
  ArrivalOwed [] out side = ⊥
  ArrivalOwed (one ∷ opened) out side =
      SideOwed one side opened (λ e. EndingOwed e out (λ other. ArrivalOwed opened out other))

  -- the same of an ending
  abbrev pub EndOwed : List Opened → Outcome → Ending → Type 0
  EndOwed opened out e = EndingOwed e out (λ side. ArrivalOwed opened out side)

  -- the run owes an outcome
  pub record LaneOwed (lane : Lane) (out : Outcome) : Type 0 where
    pub due : Bool
    pub ending : Ending
    pub task : TaskOwed due lane.task lane.opened ending
    pub more : EndOwed lane.opened out ending

  abbrev pub SoloStateOwed : Outcome → SoloState → Type 0
  SoloStateOwed out (Runs lane) = LaneOwed lane out
  SoloStateOwed out (Over outcome tally) = outcome ≡ out
  SoloStateOwed out Lost = ⊥

-- ---- turns

-- what the end of a turn comes to
abbrev pub after_stopped : Listing → Stopped → List Opened → Tally → SoloState
after_stopped code (turns.Pauses task) opened tally = runs task opened tally
after_stopped code (turns.Waits waits) opened tally = asked waits opened tally
after_stopped code (turns.Parts parts) opened tally = forked parts opened tally
after_stopped code (turns.Comes e) opened tally = arrived code opened tally e
after_stopped code (turns.Sticks fault block at) opened tally = Lost

abbrev pub after_turn : Listing → Turn → List Opened → Tally → SoloState
after_turn code (turn.Pause task) opened tally = runs task opened tally
after_turn code (turn.NeedRecord waits) opened tally = asked waits opened tally
after_turn code (turn.Forked left rest child rec) opened tally =
    forked (record { rec = rec; left = left; rest = rest; child = child }) opened tally
after_turn code (turn.Arrived rec side out) opened tally = arrived_at opened code tally out
after_turn code (turn.Halted outcome) opened tally = Over outcome tally
after_turn code (turn.Stuck fault block at) opened tally = Lost
after_turn code turn.NoMemory opened tally = Lost

-- what a turn is that a run goes on with
abbrev pub TurnFits : Listing → Turn → List Opened → Type 0
TurnFits code (turn.Pause task) opened = Unit {0}
TurnFits code (turn.NeedRecord waits) opened = IsSome waits.waiting
TurnFits code (turn.Forked left rest child rec) opened = Unit {0}
TurnFits code (turn.Arrived rec side p) opened = CanArrive code opened p
TurnFits code (turn.Halted outcome) opened = Unit {0}
TurnFits code (turn.Stuck fault block at) opened = ⊥
TurnFits code turn.NoMemory opened = Unit {0}

-- a stage as it is kept, with the open records and the counts
abbrev pub IsSoloState : SoloState → declared.SoloState → List Opened → Tally → Type 0
IsSoloState wanted (stage.Runs task) opened tally = wanted ≡ runs task opened tally
IsSoloState wanted (stage.Over outcome) opened tally = wanted ≡ Over outcome tally

-- counts of their type
pub record IsTally (tally : Tally) : Type 0 where
  pub beats : tally.beats ≤ 2 ^ 64 - 1
  pub instructions : tally.instructions ≤ 2 ^ 64 - 1
