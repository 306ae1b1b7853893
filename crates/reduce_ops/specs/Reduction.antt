-- Combining two numbers by an operator, and its unit.
use Rattle.std.specs.Prelude.{ℕ, ◌+◌, ◌*◌, ◌/◌, ◌%◌, ◌^◌, ℤ, pos, negsuc, ◌+ℤ◌, ◌*ℤ◌}
use Rattle.std.specs.Int.{int_min, int_max, w64, cast_unsigned, cast_signed}
use Rattle.tp_value.specs.declared.values.Op.{Op}
use Rattle.tp_value.specs.declared.values.Op.TheVariants.{Add, Mul, Min, Max, Affine}
use Rattle.tp_value.specs.Number.{wrapped}

-- the multiplier of the map that a number stands for: its bits are multiplier * 2 ^ 32 + addend,
-- unsigned
abbrev pub multiplier : ℤ → ℕ
multiplier a = cast_unsigned w64 a / 2 ^ 32

-- the addend of that map
abbrev pub addend : ℤ → ℕ
addend a = cast_unsigned w64 a % 2 ^ 32

-- the number that stands for a map, of a multiplier and an addend modulo 2 ^ 32
abbrev pub affine_map : ℕ → ℕ → ℤ
affine_map m c = cast_signed w64 (m % 2 ^ 32 * 2 ^ 32 + c % 2 ^ 32)

-- two numbers as one; of affine maps the first is applied first
abbrev pub combine : Op → ℤ → ℤ → ℤ
combine Add a b = wrapped (a +ℤ b)
combine Mul a b = wrapped (a *ℤ b)
combine Min a b = int_min a b
combine Max a b = int_max a b
combine Affine a b = affine_map (multiplier a * multiplier b) (multiplier b * addend a + addend b)

-- the number that changes nothing
abbrev pub unit : Op → ℤ
unit Add = pos 0
unit Mul = pos 1
unit Min = pos 9223372036854775807
unit Max = negsuc 9223372036854775807
unit Affine = pos 4294967296
