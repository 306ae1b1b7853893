-- What a task owes after a step, and after a turn.
use Rattle.std.specs.Prelude.{◌≡◌, ℕ, ◌≤◌, Bool, true, false, ◌||◌, nat_lt, Option}
use Rattle.tpal_syntax.specs.Listing.{Listing}
use Rattle.tpal_machine.specs.declared.ends.Ending.{Ending}
use Rattle.tpal_machine.specs.declared.ends.Ending.TheVariants as ending
use Rattle.tpal_machine.specs.declared.turn.Ran.{Ran}
use Rattle.tpal_machine.specs.declared.turn.Turn.{Turn}
use Rattle.tpal_machine.specs.declared.turn.Turn.TheVariants as turn
use Rattle.tpal_machine.specs.Effect.{answered}
use Rattle.tpal_machine.specs.Owes.{Owes, IsAnswer}
use Rattle.tpal_machine.specs.State.{State}
use Rattle.tpal_machine.specs.Turn.{Stopped, Pauses, Waits, Parts, Comes, Sticks, Turned}
use Rattle.tpal_machine.specs.Within.{Owing, ForkOwes}

-- a task owes an ending, whatever number of promotion points it is known to enter
abbrev pub owing : Listing → ℕ → Owing
owing code heartbeat due state e = Owes code heartbeat due 0 state e

-- a task that waits owes an ending with every answer
abbrev pub AnswersOwe : Owing → State → Ending → Type 0
AnswersOwe owes waits e =
    (rec : Option ℕ) → IsAnswer waits.goal rec → owes false (answered rec waits) e

-- What a task owes by how its turn ends, where `due` tells whether a beat came, before this turn or
-- in it, for which no record was asked before its last step: after a pause the task owes its
-- ending; a task that asks was due, and owes it with every answer; the parts of a fork owe theirs;
-- and what the task ends with is the ending. It is never stuck.
abbrev pub StoppedOwes : Listing → Owing → Bool → Ending → Stopped → Type 0
StoppedOwes code owes due e (Pauses after) = owes due after e
StoppedOwes code owes due e (Waits waits) = (due ≡ true) × AnswersOwe owes waits e
StoppedOwes code owes due e (Parts parts) = (due ≡ false) × ForkOwes code owes parts e
StoppedOwes code owes due e (Comes other) = (due ≡ false) × (other ≡ e)
StoppedOwes code owes due e (Sticks fault block at) = ⊥

-- whether a beat is due after so many more
abbrev pub due_after : Bool → ℕ → Bool
due_after due beats = due || nat_lt 0 beats

-- what a task owes by its turn; where a beat is due no other comes
pub record TurnOwes (code : Listing) (owes : Owing) (due : Bool) (e : Ending) (turned : Turned) :
    Type 0 where
  pub stopped : StoppedOwes code owes (due_after due turned.beats) e turned.stopped
  pub few : turned.beats ≤ 1
  pub calm : due ≡ true → turned.beats ≡ 0

-- the same of the turn that is answered
abbrev pub AnsweredOwes : Listing → Owing → Bool → Ending → Turn → Type 0
AnsweredOwes code owes due e (turn.Pause task) = owes due task e
AnsweredOwes code owes due e (turn.NeedRecord task) = (due ≡ true) × AnswersOwe owes task e
AnsweredOwes code owes due e (turn.Forked left rest child rec) =
    (due ≡ false)
    × ForkOwes code owes (record { rec = rec; left = left; rest = rest; child = child }) e
AnsweredOwes code owes due e (turn.Arrived rec side out) =
    (due ≡ false) × (ending.At rec side out ≡ e)
AnsweredOwes code owes due e (turn.Halted outcome) = (due ≡ false) × (ending.Root outcome ≡ e)
AnsweredOwes code owes due e (turn.Stuck fault block at) = ⊥
AnsweredOwes code owes due e turn.NoMemory = Unit {0}

pub record RanOwes (code : Listing) (owes : Owing) (due : Bool) (e : Ending) (ran : Ran) : Type 0
  where
    pub turn : AnsweredOwes code owes (due_after due ran.beats) e ran.turn
    pub few : ran.beats ≤ 1
    pub calm : due ≡ true → ran.beats ≡ 0
