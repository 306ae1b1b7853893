-- What a task comes to by steps that no beat can change.
use Rattle.std.specs.Prelude.{◌≡◌, ℕ, Bool}
use Rattle.tpal_syntax.specs.Listing.{Listing}
use Rattle.tpal_machine.specs.State.{State}
use Rattle.tpal_machine.specs.Step.{Goes, step}

-- A task comes to another, and each step on the way is the same whether a diversion is allowed or
-- not.
pub data Reaches (code : Listing) (heartbeat : ℕ) : State → State → Type 0 where
  here : (state : State) → Reaches code heartbeat state state
  goes_on : (state after last : State)
      → ((allowed : Bool) → step code heartbeat allowed state ≡ Goes after)
      → Reaches code heartbeat after last
      → Reaches code heartbeat state last
