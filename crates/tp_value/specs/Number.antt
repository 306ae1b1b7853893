-- Numbers of 64 bits.
use Rattle.std.specs.Prelude.{◌≡◌, Bool, ℤ, pos, if◌then◌else◌}
use Rattle.std.specs.Int.{int_wrap, w64}

-- a whole number brought into the range of an `i64`, modulo 2 ^ 64
abbrev pub wrapped : ℤ → ℤ
wrapped z = int_wrap w64 z

-- 1 where the test holds, else 0
abbrev pub truth : Bool → ℤ
truth test = if test then pos 1 else pos 0

-- a number that others may be divided by
abbrev pub IsDivisor : ℤ → Type 0
IsDivisor b = ¬ (b ≡ pos 0)
