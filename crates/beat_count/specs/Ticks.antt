-- A tick against the limit of a run.
use Rattle.std.specs.Prelude.{ℕ, ◌+◌, Bool, if◌then◌else◌, nat_lt}

-- whether one tick more stays within the limit
abbrev pub is_tick_allowed : ℕ → ℕ → Bool
is_tick_allowed limit ticks = nat_lt ticks limit

-- the ticks after one more: the one that exceeds the limit counts, and no further one does
abbrev pub ticked : ℕ → ℕ → ℕ
ticked limit ticks = if is_tick_allowed limit ticks then ticks + 1 else limit + 1
