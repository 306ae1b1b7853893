-- How far one number is above another.
use Rattle.std.proofs.Common.{◌≡◌, ℕ, zero, suc, ℤ, pos, negsuc, ◌+ℤ◌, refl, ap, ◌∙◌, arith}
use Rattle.std.specs.Prelude.{true, false, int_lt, ◌≤ℤ◌, ◌<ℤ◌}
use Rattle.std.specs.Int.{int_gap}
use Rattle.std.proofs.lemmas.Int.{ints, by_lt_z}
use Rattle.loop_meaning.specs.InRange.{InRange}

-- the number j is n above i, or at most i where n is 0
abbrev pub IsGap : ℕ → ℤ → ℤ → Type 0
IsGap zero i j = j ≤ℤ i
IsGap (suc n) i j = j ≡ i +ℤ pos (suc n)

gap_below : (i j : ℤ) → j ≤ℤ i → int_gap i j ≡ 0
gap_below (pos a) (pos b) h = omega (arith, ints)
gap_below (pos a) (negsuc b) h = refl
gap_below (negsuc a) (pos b) h = absurd (omega (arith, ints))
gap_below (negsuc a) (negsuc b) h = omega (arith, ints)

gap_above : (i j : ℤ) → i <ℤ j → j ≡ i +ℤ pos (int_gap i j)
gap_above (pos a) (pos b) h = omega (arith, ints)
gap_above (pos a) (negsuc b) h = absurd (omega (arith, ints))
gap_above (negsuc a) (pos b) h = omega (arith, ints)
gap_above (negsuc a) (negsuc b) h = omega (arith, ints)

gap_by : (n : ℕ) (i j : ℤ) → int_gap i j ≡ n → IsGap n i j
gap_by zero i j is = by_lt_z i j (λ (lt : i <ℤ j). omega (arith, ints, gap_above i j lt)) (λ (ge : j ≤ℤ i). ge)
gap_by (suc n) i j is =
    by_lt_z i j (λ (lt : i <ℤ j). gap_above i j lt ∙ ap (λ m. i +ℤ pos m) is) (λ (ge : j ≤ℤ i). absurd (omega (arith, gap_below i j ge)))

pub gap_is : (i j : ℤ) → IsGap (int_gap i j) i j
gap_is i j = gap_by (int_gap i j) i j refl

pub gap_next : (n : ℕ) (i j : ℤ) → IsGap (suc n) i j → IsGap n (i +ℤ pos 1) j
gap_next zero i j is = omega (arith, ints)
gap_next (suc n) i j is = omega (arith, ints)

pub gap_more : (n : ℕ) (i j : ℤ) → IsGap (suc n) i j → int_lt i j ≡ true
gap_more n i j is = let lt : i <ℤ j = omega (arith, ints) in grind (arith, ints)

pub gap_none : (i j : ℤ) → j ≤ℤ i → int_lt i j ≡ false
gap_none i j le = grind (arith, ints)

-- the next number is in range where one is above
pub next_in : (n : ℕ) (i j : ℤ) → IsGap (suc n) i j → InRange i → InRange j → InRange (i +ℤ pos 1)
next_in n i j is low high = omega (arith, ints)
