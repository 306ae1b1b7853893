-- The laws of every operator, on whole numbers: `combine` is associative, the unit is neutral on
-- both sides, and numbers of 64 bits stay so.
use Rattle.std.proofs.Common.{◌≡◌, ◌+◌, ◌*◌, ℤ, pos, ◌+ℤ◌, ◌*ℤ◌, SFits, sym, ap, ◌∙◌, arith}
use Rattle.std.specs.Int.{int_wrap, int_min, int_max, w64}
use Rattle.std.proofs.lemmas.Int.{ints, clamps, int_wrap-add_left, int_wrap-add_right}
use Rattle.std.proofs.lemmas.Int.{int_wrap-mul_left, int_wrap-mul_right, int_wrap_fits}
use Rattle.std.proofs.lemmas.Int.{SFits-int_wrap}
use Rattle.tp_value.specs.declared.values.Op.{Op}
use Rattle.tp_value.specs.declared.values.Op.TheVariants.{Add, Mul, Min, Max, Affine}
use Rattle.reduce_ops.specs.Reduction.{combine, unit, multiplier, addend}
use Rattle.reduce_ops.specs.Products.{int_mul-assoc, int_mul-one, int_one-mul}
use Rattle.reduce_ops.specs.Affine.{affine-assoc, affine-unit_left, affine-unit_right}
use Rattle.reduce_ops.specs.Affine.{affine_map_fits}

min-assoc : (a b c : ℤ) → int_min (int_min a b) c ≡ int_min a (int_min b c)
min-assoc a b c = omega (arith, ints, clamps)

max-assoc : (a b c : ℤ) → int_max (int_max a b) c ≡ int_max a (int_max b c)
max-assoc a b c = omega (arith, ints, clamps)

int_add-assoc : (a b c : ℤ) → (a +ℤ b) +ℤ c ≡ a +ℤ (b +ℤ c)
int_add-assoc a b c = omega (arith, ints)

pub combine-assoc : (o : Op) (a b c : ℤ) → combine o (combine o a b) c ≡ combine o a (combine o b c)
combine-assoc Add a b c =
    int_wrap-add_left w64 (a +ℤ b) c ∙ ap (int_wrap w64) (int_add-assoc a b c)
    ∙ sym (int_wrap-add_right w64 a (b +ℤ c))
combine-assoc Mul a b c =
    int_wrap-mul_left w64 (a *ℤ b) c ∙ ap (int_wrap w64) (int_mul-assoc a b c)
    ∙ sym (int_wrap-mul_right w64 a (b *ℤ c))
combine-assoc Min a b c = min-assoc a b c
combine-assoc Max a b c = max-assoc a b c
combine-assoc Affine a b c = affine-assoc a b c

pub combine-unit_left : (o : Op) (a : ℤ) → SFits w64 a → combine o (unit o) a ≡ a
combine-unit_left Add a fits =
    let e : pos 0 +ℤ a ≡ a = omega (arith, ints) in ap (int_wrap w64) e ∙ int_wrap_fits w64 a fits
combine-unit_left Mul a fits = ap (int_wrap w64) (int_one-mul a) ∙ int_wrap_fits w64 a fits
combine-unit_left Min a fits = omega (arith, ints, clamps)
combine-unit_left Max a fits = omega (arith, ints, clamps)
combine-unit_left Affine a fits = affine-unit_left a fits

pub combine-unit_right : (o : Op) (a : ℤ) → SFits w64 a → combine o a (unit o) ≡ a
combine-unit_right Add a fits =
    let e : a +ℤ pos 0 ≡ a = omega (arith, ints) in ap (int_wrap w64) e ∙ int_wrap_fits w64 a fits
combine-unit_right Mul a fits = ap (int_wrap w64) (int_mul-one a) ∙ int_wrap_fits w64 a fits
combine-unit_right Min a fits = omega (arith, ints, clamps)
combine-unit_right Max a fits = omega (arith, ints, clamps)
combine-unit_right Affine a fits = affine-unit_right a fits

pub combine_fits : (o : Op) (a b : ℤ) → SFits w64 a → SFits w64 b → SFits w64 (combine o a b)
combine_fits Add a b p q = SFits-int_wrap w64 (a +ℤ b)
combine_fits Mul a b p q = SFits-int_wrap w64 (a *ℤ b)
combine_fits Min a b p q = omega (arith, ints, clamps)
combine_fits Max a b p q = omega (arith, ints, clamps)
combine_fits Affine a b p q =
    affine_map_fits (multiplier a * multiplier b) (multiplier b * addend a + addend b)

pub unit_fits : (o : Op) → SFits w64 (unit o)
unit_fits Add = omega (arith, ints)
unit_fits Mul = omega (arith, ints)
unit_fits Min = omega (arith, ints)
unit_fits Max = omega (arith, ints)
unit_fits Affine = omega (arith, ints)
