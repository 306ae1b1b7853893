-- What a beat holds.
use Rattle.std.specs.Prelude.{ℕ, Bool}

-- the instructions since the last diversion, whether the next entry is passed over, and whether a
-- fork was granted
pub record BeatState : Type 0 where
  pub count : ℕ
  pub quiet : Bool
  pub granted : Bool
