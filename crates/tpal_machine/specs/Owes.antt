-- What a task will end with, whatever is promoted.
use Rattle.std.specs.Prelude.{◌≡◌, ◌≢◌, ℕ, ◌+◌, ◌≤◌, ◌<◌, ◌^◌, Bool, true, false, ◌&&◌, ◌==◌}
use Rattle.std.specs.Prelude.{if◌then◌else◌, Option, None, Some}
use Rattle.tpal_syntax.specs.Listing.{Listing}
use Rattle.tpal_syntax.specs.Conditions.{is_ready}
use Rattle.tpal_machine.specs.declared.ends.Ending.{Ending}
use Rattle.tpal_machine.specs.declared.ends.Ending.TheVariants as ending
use Rattle.tpal_machine.specs.declared.ends.Goal.{Goal}
use Rattle.tpal_machine.specs.declared.ends.Goal.TheVariants as goal
use Rattle.tpal_machine.specs.declared.ends.Side.{Side}
use Rattle.tpal_machine.specs.declared.ends.SideName.TheVariants.{Left, Right}
use Rattle.tpal_machine.specs.Belongs.{BelongsTo}
use Rattle.tpal_machine.specs.Cut.{Forked}
use Rattle.tpal_machine.specs.Effect.{has_mark, answered}
use Rattle.tpal_machine.specs.Merge as merging
use Rattle.tpal_machine.specs.Merge.{MergeOf}
use Rattle.tpal_machine.specs.Reading.{block_at, note_of}
use Rattle.tpal_machine.specs.State.{State}
use Rattle.tpal_machine.specs.Step.{Goes, Beats, Ends, Asks, Forks, step}

-- whether a task stands at the start of a promotion-ready block while a mark stands
abbrev pub is_at_point : Listing → State → Bool
is_at_point code state =
    state.at == 0 && is_ready (note_of (block_at code state.block)) && has_mark state.stack

-- the promotion points that a step enters, by the task after it
abbrev pub points : Listing → State → ℕ
points code after = if is_at_point code after then 1 else 0

-- the number of a join record, other than that at which a task ends
abbrev pub IsOtherRecord : Goal → ℕ → Type 0
IsOtherRecord goal.Root k = k < 2 ^ 32
IsOtherRecord (goal.At rec side target) k = (k < 2 ^ 32) × (k ≢ rec)

-- an answer to a task that asked for a join record: none, or a record that isn't the one at which
-- it ends
abbrev pub IsAnswer : Goal → Option ℕ → Type 0
IsAnswer g None = Unit {0}
IsAnswer g (Some k) = IsOtherRecord g k

-- A task is bound to an ending, with `due` where a beat came for which no record was asked yet, and
-- with a least number of promotion points that it enters as long as it isn't diverted: whichever of
-- its steps are diverted, and whichever records it is given.
pub data Bound (code : Listing) (heartbeat : ℕ) : Bool → ℕ → State → Ending → Type 0 where
  ends : (state : State) (e : Ending)
      → step code heartbeat true state ≡ Ends e
      → Bound code heartbeat false 0 state e
  goes : (due : Bool) (n m : ℕ) (state after : State) (e : Ending)
      → n ≤ points code after + m
      → step code heartbeat true state ≡ Goes after
      → Bound code heartbeat due m after e
      → Bound code heartbeat due n state e
  beats : (n m : ℕ) (state after diverted : State) (e : Ending)
      → n ≤ points code after + m
      → step code heartbeat false state ≡ Goes after
      → step code heartbeat true state ≡ Beats diverted
      → Bound code heartbeat false m after e
      → Bound code heartbeat true 0 diverted e
      → Bound code heartbeat false n state e
  asks : (state waits : State) (e : Ending)
      → step code heartbeat true state ≡ Asks waits
      → ((rec : Option ℕ)
      → IsAnswer waits.goal rec
      → Bound code heartbeat false 0 (answered rec waits) e)
      → Bound code heartbeat true 0 state e
  forks : (state : State) (parts : Forked) (p q : Side) (e : Ending)
      → step code heartbeat true state ≡ Forks parts
      → Bound code heartbeat false 0 parts.left (ending.At parts.rec Left p)
      → Bound code heartbeat false 0 parts.child (ending.At parts.rec Right q)
      → MergeOf code parts.rest p q (merging.Ends e)
      → Bound code heartbeat false 0 state e
  forks_on : (state : State) (parts : Forked) (p q : Side) (joined : State) (e : Ending)
      → step code heartbeat true state ≡ Forks parts
      → Bound code heartbeat false 0 parts.left (ending.At parts.rec Left p)
      → Bound code heartbeat false 0 parts.child (ending.At parts.rec Right q)
      → MergeOf code parts.rest p q (merging.Goes joined)
      → Bound code heartbeat false 0 joined e
      → Bound code heartbeat false 0 state e

-- a task owes an ending: it belongs to the code, waits for no answer, and is bound to it
pub record Owes (code : Listing) (heartbeat : ℕ) (due : Bool) (least : ℕ) (state : State)
    (e : Ending) : Type 0 where
  pub belongs : BelongsTo code state
  pub waits_not : state.waiting ≡ None
  pub bound : Bound code heartbeat due least state e
