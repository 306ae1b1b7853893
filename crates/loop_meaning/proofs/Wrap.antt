-- Quotients that are brought into 64 bits.
use Rattle.std.proofs.Common.{◌≡◌, ℕ, zero, suc, ◌+◌, ◌-◌, ◌*◌, ◌%◌, ◌^◌, ◌<◌, ◌≤◌, ℤ, pos, negsuc}
use Rattle.std.proofs.Common.{neg_ℤ, refl, ap, arith, int_div, unsigned_abs, SFits}
use Rattle.std.specs.Int.{int_wrap, int_wrapping_div, w64, cast_unsigned, cast_signed}
use Rattle.std.proofs.Math.Nat.{div-le_self, mul-le-mul_left}
use Rattle.std.proofs.lemmas.Nat.{mul-add-lt}
use Rattle.std.proofs.lemmas.Int.{ints}
use Rattle.tp_value.specs.Number.{wrapped}
use Rattle.loop_meaning.specs.Expressions.{divided}
use Rattle.loop_meaning.specs.declared.value.Answer.TheVariants.{Number}
use Rattle.tp_value.specs.declared.Place.{Place}

-- the product of a row and a width, and a column, fit
pub area_fits : (a b w h : ℕ) → a < h → b < w → h < 2 ^ 32 → w < 2 ^ 32 → a * w + b < 2 ^ 64
area_fits a b w h p q r s = grind (arith, mul-add-lt a w b h p q)

pub product_fits : (w h : ℕ) → w < 2 ^ 32 → h < 2 ^ 32 → w * h < 2 ^ 64
product_fits w h p q =
    let le : h ≤ 2 ^ 32 = omega arith in
    let one : w * h ≤ w * 2 ^ 32 = mul-le-mul_left w le in
    omega arith

abs_neg : (n : ℕ) → unsigned_abs (neg_ℤ (pos n)) ≡ n
abs_neg zero = refl
abs_neg (suc n) = refl

quot_abs : (a b : ℤ) → unsigned_abs (int_div a b) ≤ unsigned_abs a
quot_abs (pos a) (pos b) = div-le_self a b
quot_abs (pos a) (negsuc b) = rw abs_neg (div-le_self a (suc b))
quot_abs (negsuc a) (pos b) = rw abs_neg (div-le_self (suc a) b)
quot_abs (negsuc a) (negsuc b) = div-le_self (suc a) (suc b)

wrap_reads : (z : ℤ) → unsigned_abs z ≤ 2 ^ 63 → cast_signed w64 (cast_unsigned w64 z) ≡ int_wrap w64 z
unfolding int_wrap
wrap_reads (pos n) h = let e : n ≡ n % 2 ^ 64 = omega arith in ap (cast_signed w64) e
wrap_reads (negsuc n) h = let e : 2 ^ 64 - suc n ≡ 2 ^ 64 - 1 - n % 2 ^ 64 = omega arith in ap (cast_signed w64) e

abs_fits : (z : ℤ) → SFits w64 z → unsigned_abs z ≤ 2 ^ 63
abs_fits (pos n) f = omega (arith, ints)
abs_fits (negsuc n) f = omega (arith, ints)

pub quot_wraps : (a b : ℤ) → SFits w64 a → int_wrapping_div w64 a b ≡ wrapped (int_div a b)
quot_wraps a b f = wrap_reads (int_div a b) (omega (arith, quot_abs a b, abs_fits a f))

pub divided_nonzero : (f : ℤ → ℤ → ℤ) (p : Place) (a b : ℤ) → (cast_unsigned w64 b ≡ 0 → ⊥) → (divided f p a b).answer ≡ Number (wrapped (f a b))
divided_nonzero f p a (pos zero) h = absurd (h refl)
divided_nonzero f p a (pos (suc n)) h = refl
divided_nonzero f p a (negsuc n) h = refl
