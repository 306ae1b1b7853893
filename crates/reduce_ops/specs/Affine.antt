-- Maps from x to m * x + c modulo 2 ^ 32: their parts, and that composing them is associative.
use Rattle.std.proofs.Common.{◌≡◌, ℕ, ◌+◌, ◌*◌, ◌%◌, ◌/◌, ◌^◌, ◌<◌, ℤ, SFits, sym, ap, ◌∙◌, arith}
use Rattle.std.specs.Int.{w64, cast_unsigned, cast_signed}
use Rattle.std.proofs.lemmas.Int.{ints, of_z-to_z, to_z-of_z}
use Rattle.std.proofs.lemmas.Nat.{mul-mod_second}
use native.Mathlib.Nat as nat
use Rattle.tp_value.specs.declared.values.Op.TheVariants.{Affine}
use Rattle.reduce_ops.specs.Reduction.{multiplier, addend, affine_map, combine, unit}

bits_below : (m c : ℕ) → m % 2 ^ 32 * 2 ^ 32 + c % 2 ^ 32 < 2 ^ 64
bits_below m c = omega arith

pub multiplier-affine_map : (m c : ℕ) → multiplier (affine_map m c) ≡ m % 2 ^ 32
multiplier-affine_map m c =
    ap (λ k. k / 2 ^ 32) (of_z-to_z w64 (m % 2 ^ 32 * 2 ^ 32 + c % 2 ^ 32) (bits_below m c))
    ∙ omega arith

pub addend-affine_map : (m c : ℕ) → addend (affine_map m c) ≡ c % 2 ^ 32
addend-affine_map m c =
    ap (λ k. k % 2 ^ 32) (of_z-to_z w64 (m % 2 ^ 32 * 2 ^ 32 + c % 2 ^ 32) (bits_below m c))
    ∙ omega arith

mul-mod_first : (a b n : ℕ) → (a % n * b) % n ≡ (a * b) % n
mul-mod_first a b n =
    ap (λ k. k % n) (nat.mul_comm (a % n) b) ∙ mul-mod_second b a n
    ∙ ap (λ k. k % n) (nat.mul_comm b a)

-- the multipliers of three maps: both groupings multiply all three
multipliers_agree : (ma mb mc : ℕ) →
    (ma * mb % 2 ^ 32 * mc) % 2 ^ 32 ≡ (ma * (mb * mc % 2 ^ 32)) % 2 ^ 32
multipliers_agree ma mb mc =
    mul-mod_first (ma * mb) mc (2 ^ 32) ∙ ap (λ k. k % 2 ^ 32) (nat.mul_assoc ma mb mc)
    ∙ sym (mul-mod_second ma (mb * mc) (2 ^ 32))

-- the addends: both groupings give mc * (mb * ca) + mc * cb + cd
addends_agree : (mb mc ca cb cd : ℕ) →
    (mc * ((mb * ca + cb) % 2 ^ 32) + cd) % 2 ^ 32
    ≡ (mb * mc % 2 ^ 32 * ca + (mc * cb + cd) % 2 ^ 32) % 2 ^ 32
addends_agree mb mc ca cb cd =
    joined (mc * ((mb * ca + cb) % 2 ^ 32)) (mc * (mb * ca + cb)) (mc * (mb * ca)) (mc * cb)
    (mb * mc % 2 ^ 32 * ca) (mb * mc * ca)
    (mul-mod_second mc (mb * ca + cb) (2 ^ 32)) (nat.mul-add mc (mb * ca) cb)
    (sym (nat.mul_assoc mc mb ca) ∙ ap (λ k. k * ca) (nat.mul_comm mc mb))
    (mul-mod_first (mb * mc) ca (2 ^ 32))
  where
    joined : (x y z w u v : ℕ) → x % 2 ^ 32 ≡ y % 2 ^ 32 → y ≡ z + w → z ≡ v →
        u % 2 ^ 32 ≡ v % 2 ^ 32
        → (x + cd) % 2 ^ 32 ≡ (u + (w + cd) % 2 ^ 32) % 2 ^ 32
    joined x y z w u v p r s q = omega (arith, p, r, s, q)

affine_map-same : (m c m' c' : ℕ) → m % 2 ^ 32 ≡ m' % 2 ^ 32 → c % 2 ^ 32 ≡ c' % 2 ^ 32 →
    affine_map m c ≡ affine_map m' c'
affine_map-same m c m' c' p q =
    ap (λ k. cast_signed w64 (k * 2 ^ 32 + c % 2 ^ 32)) p
    ∙ ap (λ k. cast_signed w64 (m' % 2 ^ 32 * 2 ^ 32 + k)) q

-- three maps, where mab, cab, mbc and cbc are the parts of the first two and of the last two
-- together
maps_agree : (ma mb mc ca cb cd mab cab mbc cbc : ℕ)
    → mab ≡ (ma * mb) % 2 ^ 32 → cab ≡ (mb * ca + cb) % 2 ^ 32 → mbc ≡ (mb * mc) % 2 ^ 32 →
    cbc ≡ (mc * cb + cd) % 2 ^ 32
    → affine_map (mab * mc) (mc * cab + cd) ≡ affine_map (ma * mbc) (mbc * ca + cbc)
maps_agree ma mb mc ca cb cd mab cab mbc cbc e f g h =
    affine_map-same (mab * mc) (mc * cab + cd) (ma * mbc) (mbc * ca + cbc)
    (ap (λ k. (k * mc) % 2 ^ 32) e ∙ multipliers_agree ma mb mc
    ∙ sym (ap (λ k. (ma * k) % 2 ^ 32) g))
    (ap (λ k. (mc * k + cd) % 2 ^ 32) f ∙ addends_agree mb mc ca cb cd
    ∙ sym (ap (λ k. (mbc * ca + k) % 2 ^ 32) h
    ∙ ap (λ k. (k * ca + (mc * cb + cd) % 2 ^ 32) % 2 ^ 32) g))

-- composing is associative
pub affine-assoc : (a b c : ℤ) →
    combine Affine (combine Affine a b) c ≡ combine Affine a (combine Affine b c)
affine-assoc a b c =
    maps_agree (multiplier a) (multiplier b) (multiplier c) (addend a) (addend b) (addend c)
    (multiplier (combine Affine a b)) (addend (combine Affine a b))
    (multiplier (combine Affine b c)) (addend (combine Affine b c))
    (multiplier-affine_map (multiplier a * multiplier b) (multiplier b * addend a + addend b))
    (addend-affine_map (multiplier a * multiplier b) (multiplier b * addend a + addend b))
    (multiplier-affine_map (multiplier b * multiplier c) (multiplier c * addend b + addend c))
    (addend-affine_map (multiplier b * multiplier c) (multiplier c * addend b + addend c))

-- the parts of a number's map give the number back
affine_map-parts : (a : ℤ) → SFits w64 a → affine_map (multiplier a) (addend a) ≡ a
affine_map-parts a fits = packed (cast_unsigned w64 a) (bits_in_range a fits) ∙ to_z-of_z w64 a fits
  where
    packed : (n : ℕ) → n < 2 ^ 64 → affine_map (n / 2 ^ 32) (n % 2 ^ 32) ≡ cast_signed w64 n
    packed n h =
        let e : n / 2 ^ 32 % 2 ^ 32 * 2 ^ 32 + n % 2 ^ 32 % 2 ^ 32 ≡ n = omega arith in
        ap (cast_signed w64) e

    bits_in_range : (a : ℤ) → SFits w64 a → cast_unsigned w64 a < 2 ^ 64
    bits_in_range a fits = omega (arith, ints)

pub affine-unit_right : (a : ℤ) → SFits w64 a → combine Affine a (unit Affine) ≡ a
affine-unit_right a fits =
    ap (λ m. affine_map m (1 * addend a + 0)) (nat.mul-one (multiplier a))
    ∙ ap (affine_map (multiplier a)) (omega arith) ∙ affine_map-parts a fits

pub affine-unit_left : (a : ℤ) → SFits w64 a → combine Affine (unit Affine) a ≡ a
affine-unit_left a fits =
    ap (λ m. affine_map m (multiplier a * 0 + addend a)) (nat.one-mul (multiplier a))
    ∙ ap (affine_map (multiplier a)) (omega arith) ∙ affine_map-parts a fits

pub affine_map_fits : (m c : ℕ) → SFits w64 (affine_map m c)
affine_map_fits m c = signed (m % 2 ^ 32 * 2 ^ 32 + c % 2 ^ 32) (bits_below m c)
  where
    signed : (n : ℕ) → n < 2 ^ 64 → SFits w64 (cast_signed w64 n)
    signed n h = omega (arith, ints)
