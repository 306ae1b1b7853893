-- What a task will end with where no step of it is diverted.
use Rattle.std.specs.Prelude.{◌≡◌, ℕ, ◌+◌, ◌≤◌, false, None}
use Rattle.tpal_syntax.specs.Listing.{Listing}
use Rattle.tpal_machine.specs.declared.ends.Ending.{Ending}
use Rattle.tpal_machine.specs.declared.ends.Ending.TheVariants as ending
use Rattle.tpal_machine.specs.declared.ends.Side.{Side}
use Rattle.tpal_machine.specs.declared.ends.SideName.TheVariants.{Left, Right}
use Rattle.tpal_machine.specs.Belongs.{BelongsTo}
use Rattle.tpal_machine.specs.Cut.{Forked}
use Rattle.tpal_machine.specs.Effect.{has_mark}
use Rattle.tpal_machine.specs.Merge as merging
use Rattle.tpal_machine.specs.Merge.{MergeOf}
use Rattle.tpal_machine.specs.Owes.{points}
use Rattle.tpal_machine.specs.State.{State}
use Rattle.tpal_machine.specs.Step.{Goes, Ends, Forks, step}

-- A task is bound to an ending where no step is diverted, with a least number of promotion points
-- that it enters. No beat comes, so none is due, and a task that asks for a join record is bound to
-- nothing.
pub data BoundSerially (code : Listing) (heartbeat : ℕ) : ℕ → State → Ending → Type 0 where
  ends : (state : State) (e : Ending)
      → step code heartbeat false state ≡ Ends e
      → BoundSerially code heartbeat 0 state e
  goes : (n m : ℕ) (state after : State) (e : Ending)
      → n ≤ points code after + m
      → step code heartbeat false state ≡ Goes after
      → BoundSerially code heartbeat m after e
      → BoundSerially code heartbeat n state e
  forks : (state : State) (parts : Forked) (p q : Side) (e : Ending)
      → step code heartbeat false state ≡ Forks parts
      → BoundSerially code heartbeat 0 parts.left (ending.At parts.rec Left p)
      → BoundSerially code heartbeat 0 parts.child (ending.At parts.rec Right q)
      → MergeOf code parts.rest p q (merging.Ends e)
      → BoundSerially code heartbeat 0 state e
  forks_on : (state : State) (parts : Forked) (p q : Side) (joined : State) (e : Ending)
      → step code heartbeat false state ≡ Forks parts
      → BoundSerially code heartbeat 0 parts.left (ending.At parts.rec Left p)
      → BoundSerially code heartbeat 0 parts.child (ending.At parts.rec Right q)
      → MergeOf code parts.rest p q (merging.Goes joined)
      → BoundSerially code heartbeat 0 joined e
      → BoundSerially code heartbeat 0 state e

-- a task owes an ending where no step is diverted
pub record OwesSerially (code : Listing) (heartbeat : ℕ) (least : ℕ) (state : State) (e : Ending) :
    Type 0 where
  pub belongs : BelongsTo code state
  pub waits_not : state.waiting ≡ None
  pub bound : BoundSerially code heartbeat least state e

-- a task comes to another by steps that aren't diverted
pub data Comes (code : Listing) (heartbeat : ℕ) : State → State → Type 0 where
  here : (state : State) → Comes code heartbeat state state
  goes_on : (state after last : State)
      → step code heartbeat false state ≡ Goes after
      → Comes code heartbeat after last
      → Comes code heartbeat state last

-- no mark ever stands at a task that isn't diverted
abbrev pub IsUnmarked : Listing → ℕ → State → Type 0
IsUnmarked code heartbeat state =
    (last : State) → Comes code heartbeat state last → has_mark last.stack ≡ false
