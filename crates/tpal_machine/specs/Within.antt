-- What a task will end with, whatever is promoted, told within a number of steps.
use Rattle.std.specs.Prelude.{◌≡◌, ℕ, zero, suc, Bool, true, false, Option}
use Rattle.tpal_syntax.specs.Listing.{Listing}
use Rattle.tpal_machine.specs.declared.ends.Ending.{Ending}
use Rattle.tpal_machine.specs.declared.ends.Ending.TheVariants as ending
use Rattle.tpal_machine.specs.declared.ends.Side.{Side}
use Rattle.tpal_machine.specs.declared.ends.SideName.TheVariants.{Left, Right}
use Rattle.tpal_machine.specs.Belonging.{RunsOn}
use Rattle.tpal_machine.specs.Cut.{Forked}
use Rattle.tpal_machine.specs.Effect.{answered}
use Rattle.tpal_machine.specs.Merge as merging
use Rattle.tpal_machine.specs.Merge.{MergeOf, Joined}
use Rattle.tpal_machine.specs.Owes.{IsAnswer}
use Rattle.tpal_machine.specs.State.{State}
use Rattle.tpal_machine.specs.Step.{Step, Goes, Beats, Ends, Asks, Forks, Stuck, Strays, step}

-- a way to owe: whether a beat came for which no record was asked yet, a task, and what it will end
-- with
abbrev pub Owing : Type 1
Owing = Bool → State → Ending → Type 0

-- what two sides are joined to owes an ending, or is it
abbrev pub JoinedOwes : Owing → Ending → Joined → Type 0
JoinedOwes owes e (merging.Goes joined) = owes false joined e
JoinedOwes owes e (merging.Ends other) = other ≡ e

-- the two sides of a fork owe what each ends with, and with these the rest owes an ending
pub record ForkOwes (code : Listing) (owes : Owing) (parts : Forked) (e : Ending) : Type 0 where
  pub left : Side
  pub right : Side
  pub both : Joined
  pub left_owes : owes false parts.left (ending.At parts.rec Left left)
  pub child_owes : owes false parts.child (ending.At parts.rec Right right)
  pub merged : MergeOf code parts.rest left right both
  pub joined_owes : JoinedOwes owes e both

-- where a step may be a beat, both the task that isn't diverted and the one that is owe an ending
pub record BeatOwes (owes : Owing) (undiverted : Step) (diverted : State) (e : Ending) : Type 0
  where
    pub after : State
    pub goes : undiverted ≡ Goes after
    pub after_owes : owes false after e
    pub diverted_owes : owes true diverted e

-- what a task owes by its next step, where `owes` says what the tasks owe that the step gives
abbrev pub NextOwes : Listing → ℕ → Owing → Bool → State → Ending → Step → Type 0
NextOwes code heartbeat owes due state e (Ends other) = (due ≡ false) × (other ≡ e)
NextOwes code heartbeat owes due state e (Goes after) = owes due after e
NextOwes code heartbeat owes due state e (Beats diverted) =
    (due ≡ false) × BeatOwes owes (step code heartbeat false state) diverted e
NextOwes code heartbeat owes due state e (Asks waits) =
    (due ≡ true) × ((rec : Option ℕ) → IsAnswer waits.goal rec → owes false (answered rec waits) e)
NextOwes code heartbeat owes due state e (Forks parts) = (due ≡ false) × ForkOwes code owes parts e
NextOwes code heartbeat owes due state e (Stuck fault) = ⊥
NextOwes code heartbeat owes due state e Strays = ⊥

-- A task owes an ending within a number of steps: never within none; else by its next step, where
-- the tasks that this step gives owe theirs within one step less. A task that doesn't belong to the
-- code, or waits for an answer, owes nothing.
abbrev pub OwesWithin : Listing → ℕ → ℕ → Bool → State → Ending → Type 0
OwesWithin code heartbeat zero due state e = ⊥
OwesWithin code heartbeat (suc n) due state e =
    RunsOn code state
    × NextOwes code heartbeat (λ d s f. OwesWithin code heartbeat n d s f) due state e
    (step code heartbeat true state)

-- a task owes an ending within some number of steps
pub record OwesInSteps (code : Listing) (heartbeat : ℕ) (due : Bool) (state : State) (e : Ending) :
    Type 0 where
  pub steps : ℕ
  pub owes : OwesWithin code heartbeat steps due state e
