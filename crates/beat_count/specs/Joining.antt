-- How two halves of a run stop together.
use Rattle.std.specs.Prelude.{ℕ, ◌+◌, if◌then◌else◌, nat_le}
use Rattle.tp_value.specs.declared.values.Stop.{Stop}
use Rattle.tp_value.specs.declared.values.Stop.TheVariants.{Done, Left, Trap, NoFuel}

-- left's stop where it isn't done; else right's, where both together are within the limit
abbrev pub joined_stop : Stop → ℕ → Stop → ℕ → ℕ → Stop
joined_stop Done left_ticks right right_ticks limit =
    if nat_le (left_ticks + right_ticks) limit then right else NoFuel
joined_stop (Left number) left_ticks right right_ticks limit = Left number
joined_stop (Trap kind place) left_ticks right right_ticks limit = Trap kind place
joined_stop NoFuel left_ticks right right_ticks limit = NoFuel

-- left's ticks where it isn't done; else the sum, or one above the limit where the sum is above it
abbrev pub joined_ticks : Stop → ℕ → Stop → ℕ → ℕ → ℕ
joined_ticks Done left_ticks right right_ticks limit =
    if nat_le (left_ticks + right_ticks) limit then left_ticks + right_ticks else limit + 1
joined_ticks (Left number) left_ticks right right_ticks limit = left_ticks
joined_ticks (Trap kind place) left_ticks right right_ticks limit = left_ticks
joined_ticks NoFuel left_ticks right right_ticks limit = left_ticks
