-- What a worker has between two of its turns, and what its pass to the records knows of it.
use Rattle.std.specs.Prelude.{◌≡◌, ◌⊎◌, ℕ, ◌+◌, ◌-◌, ◌*◌, ◌^◌, ◌<◌, ◌≤◌, Bool, true, [], ◌∷◌}
use Rattle.std.specs.Prelude.{Option, None, Some, IsSome}
use Rattle.tpal_machine.specs.declared.ends.End.{End}
use Rattle.tpal_machine.specs.declared.ends.Ending.{Ending}
use Rattle.tpal_machine.specs.declared.ends.Ending.TheVariants as ending
use Rattle.tpal_machine.specs.declared.joining.Merged.{Merged}
use Rattle.tpal_machine.specs.declared.joining.Merged.TheVariants as merged
use Rattle.tpal_machine.specs.declared.turn.Turn.{Turn}
use Rattle.tpal_machine.specs.declared.turn.Turn.TheVariants as turn
use Rattle.tpal_machine.specs.Cut.{Forked}
use Rattle.tpal_machine.specs.Keeping.{credit, number_of, place_of, ForksFrom}
use Rattle.tpal_machine.specs.Owed.{owing, AnswersOwe}
use Rattle.tpal_machine.specs.Owes.{Owes}
use Rattle.tpal_machine.specs.RestState.{end_of}
use Rattle.tpal_machine.specs.State.{State}
use Rattle.tpal_machine.specs.Within.{ForkOwes}
use Rattle.join_records.specs.declared.table.Taken.{Taken}
use Rattle.join_records.specs.declared.views.Grip.TheVariants.{Reserved}
use Rattle.join_records.specs.declared.views.View.{View}
use Rattle.join_records.specs.Ends.{IsEndOf}
use Rattle.join_records.specs.Passes.{taken_number}
use Rattle.join_records.specs.Views.{Holds, HoldsNothing, saw_finish}
use Rattle.join_records.specs.Words.{bit}
use Rattle.steal_pool.specs.declared.desk.Counts.{Counts}
use Rattle.steal_pool.specs.declared.desk.Work.{Work}
use Rattle.steal_pool.specs.declared.desk.Work.TheVariants as work
use Rattle.steal_pool.specs.Facts.{Owed}
use Rattle.steal_pool.specs.Terms.{Terms}

-- what a pass to the records of a run knows
abbrev pub Knows : Type 0
Knows = View State Ending

-- the number of a record that was taken
abbrev pub number_in : Option Taken → Option ℕ
number_in None = None
number_in (Some taken) = Some (taken_number taken)

-- how many records were taken and not opened
abbrev pub count_in : Option Taken → ℕ
count_in None = 0
count_in (Some taken) = 1

-- what a worker has after a merge
abbrev pub work_after : Merged → Work
work_after (merged.Runs task) = work.Runs task
work_after (merged.Arrived rec side out) = work.Ended (ending.At rec side out)
work_after (merged.Halted outcome) = work.Ended (ending.Root outcome)

-- what no step of a worker changes
abbrev pub Stays : Knows → Knows → Type 0
Stays v w = (w.root ≡ v.root) × (w.parts ≡ v.parts)

module _ (terms : Terms) where
  -- the pass holds this end with this ending: Root, or an end of one of the run's records
  pub record IsHeld (v : Knows) (end : End) (e : Ending) : Type 0 where
    pub holds : Holds v end e
    pub within : IsEndOf terms.records end

  -- nothing is in the pass's hand but the record that was taken
  abbrev pub HasHand : Knows → Option Taken → Type 0
  HasHand v None = v.hand ≡ []
  HasHand v (Some taken) =
      (v.hand ≡ (taken_number taken, Reserved) ∷ []) × (taken_number taken < terms.records)

  -- the forks that were made and what is saved up towards one are paid by instructions, unless
  -- their count stands at its end
  abbrev pub Paid : ℕ → ℕ → ℕ → Type 0
  Paid opens saved instructions =
      (opens * terms.heartbeat + saved ≤ instructions) ⊎ (2 ^ 64 - 1 ≤ instructions)

  -- each beat opened a record or was skipped, but for one whose record was taken and is yet to be
  -- opened, and `due` for which no record was asked yet
  pub record HasCounts (v : Knows) (taken : Option Taken) (counts : Counts) (due saved : ℕ) : Type 0
    where
      pub beats : v.opens + count_in taken + counts.skipped + due ≡ counts.beats
      pub few : counts.beats ≤ terms.forks
      pub paid : Paid v.opens saved counts.instructions

  -- ---- between two turns

  -- a task runs
  pub record Runs (v : Knows) (taken : Option Taken) (counts : Counts) (task : State) : Type 0 where
    pub ending : Ending
    pub due : Bool
    pub owes : Owes terms.code terms.heartbeat due 0 task ending
    pub held : IsHeld v (end_of task.goal) ending
    pub pending : number_of task.pending ≡ number_in taken
    pub hand : HasHand v taken
    pub made : v.made ≡ 0
    pub counts_fit : HasCounts v taken counts (bit due) (credit terms.heartbeat task.beat)

  -- no task runs
  pub record Rests (v : Knows) (taken : Option Taken) (counts : Counts) : Type 0 where
    pub none : taken ≡ None
    pub hand : v.hand ≡ []
    pub counts_fit : HasCounts v None counts 0 0

  pub record HasNothing (v : Knows) (taken : Option Taken) (counts : Counts) : Type 0 where
    pub rests : Rests v taken counts
    pub made : v.made ≡ 0
    pub holds : HoldsNothing v

  -- a task ended with this, at the end that is held
  pub record HasEnded (v : Knows) (taken : Option Taken) (counts : Counts) (e : Ending) : Type 0
    where
      pub rests : Rests v taken counts
      pub made : v.made ≡ 0
      pub held : IsHeld v (place_of e) e

  -- the worker made the finish, with Root's ending
  pub record HasFinished (v : Knows) (taken : Option Taken) (counts : Counts) (e : Ending) : Type 0
    where
      pub rests : Rests v taken counts
      pub made : v.made ≡ 1
      pub root : v.root ≡ Some e

  -- another worker made it
  pub record HasSeen (v : Knows) (taken : Option Taken) (counts : Counts) : Type 0 where
    pub rests : Rests v taken counts
    pub made : v.made ≡ 0
    pub saw : saw_finish v.reads ≡ true

  abbrev pub Has : Knows → Option Taken → Counts → Work → Type 0
  Has v taken counts work.Nothing = HasNothing v taken counts
  Has v taken counts (work.Runs task) = Runs v taken counts task
  Has v taken counts (work.Ended e) = HasEnded v taken counts e
  Has v taken counts (work.Finished outcome) = HasFinished v taken counts (ending.Root outcome)
  Has v taken counts work.Saw = HasSeen v taken counts
  Has v taken counts work.Lost = Unit {0}

  -- ---- within a turn

  -- a task waits for a record, or for none
  pub record Asks (v : Knows) (taken : Option Taken) (counts : Counts) (waits : State) : Type 0
    where
      pub ending : Ending
      pub owes : AnswersOwe (owing terms.code terms.heartbeat) waits ending
      pub held : IsHeld v (end_of waits.goal) ending
      pub waiting : IsSome waits.waiting
      pub pending : waits.pending ≡ None
      pub none : taken ≡ None
      pub hand : v.hand ≡ []
      pub made : v.made ≡ 0
      pub counts_fit : HasCounts v None counts 1 (credit terms.heartbeat waits.beat)

  -- a task forked under the record that was taken
  pub record Forks (v : Knows) (taken : Option Taken) (counts : Counts) (parts : Forked) : Type 0
    where
      pub ending : Ending
      pub steps : ℕ
      pub before : State
      pub owes : ForkOwes terms.code (owing terms.code terms.heartbeat) parts ending
      pub from : ForksFrom terms.heartbeat steps before parts
      pub held : IsHeld v (end_of parts.rest.goal) ending
      pub record_is : number_in taken ≡ Some parts.rec
      pub hand : HasHand v taken
      pub made : v.made ≡ 0
      pub counts_fit : HasCounts v taken counts 0
          (terms.heartbeat + credit terms.heartbeat parts.left.beat)

  -- what a turn came to
  abbrev pub TurnFits : Knows → Option Taken → Counts → Turn → Type 0
  TurnFits v taken counts (turn.Pause task) = Runs v taken counts task
  TurnFits v taken counts (turn.NeedRecord waits) = Asks v taken counts waits
  TurnFits v taken counts (turn.Forked left rest child rec) =
      Forks v taken counts (record { rec = rec; left = left; rest = rest; child = child })
  TurnFits v taken counts (turn.Arrived rec side out) =
      HasEnded v taken counts (ending.At rec side out)
  TurnFits v taken counts (turn.Halted outcome) = HasEnded v taken counts (ending.Root outcome)
  TurnFits v taken counts (turn.Stuck fault block at) = ⊥
  TurnFits v taken counts turn.NoMemory = Unit {0}

  -- ---- all workers

  -- Root's ending is the one that the first task owes
  pub record IsRooted (v : Knows) : Type 0 where
    pub ending : Ending
    pub root : v.root ≡ Some ending
    pub owed : Owed terms.code terms.heartbeat terms.first ending
