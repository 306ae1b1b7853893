-- What a fuel holds.
use Rattle.std.specs.Prelude.{ℕ, ◌+◌, ◌≤◌}
use Rattle.tp_value.specs.declared.limits.TheConstants.{MAX_FUEL}

-- the limit, and the ticks that were counted
pub record FuelState : Type 0 where
  pub limit : ℕ
  pub ticks : ℕ

-- what the numbers of every fuel meet
pub record IsFuel (limit ticks : ℕ) : Type 0 where
  pub limited : limit ≤ MAX_FUEL
  pub within : ticks ≤ limit + 1
