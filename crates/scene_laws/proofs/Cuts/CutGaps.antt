-- How many iterations each part of a cut has.
use Rattle.std.proofs.Common.{◌≡◌, ℕ, zero, suc, ◌+◌, ◌/◌, ◌≤◌, false, cond, None, Some, ℤ}
use Rattle.std.proofs.Common.{pos, ◌+ℤ◌, refl, ap, ◌∙◌, arith}
use Rattle.std.specs.Prelude.{Bool, ◌-ℤ◌, ◌≤ℤ◌, ◌<ℤ◌, int_le}
use Rattle.std.proofs.lemmas.Int.{ints}
use Rattle.frame_machine.specs.Splitting.{cut_of, half_up}
use Rattle.loop_meaning.specs.InRange.{InRange}
use Rattle.tp_value.specs.declared.limits.TheConstants.{MAX_PAR_LENGTH}
use Rattle.scene_laws.proofs.Cuts.Gaps.{IsGap}

-- Iterations from one number to below another are cut at the middle: the left keeps so many of
-- them, and the child has one more than so many.
pub record Halved (n : ℕ) (first last : ℤ) : Type 0 where
  pub lower : ℕ
  pub upper : ℕ
  pub middle : ℤ
  pub all : lower + suc upper ≡ suc n
  pub is : first +ℤ pos lower ≡ middle
  pub cut : cut_of first last ≡ Some middle
  pub left : IsGap lower first middle
  pub right : IsGap (suc upper) middle last
  pub in_range : InRange first → InRange last → InRange middle

so_far : (n : ℕ) (first : ℤ) → IsGap n first (first +ℤ pos n)
so_far zero first = omega (arith, ints)
so_far (suc n) first = refl

-- iterations are cut where one is left
pub halved : (n : ℕ) (first last : ℤ) → IsGap (suc n) first last → Halved n first last
halved n first last gap =
    record {
      lower = suc n / 2;
      upper = n / 2;
      middle = first +ℤ pos (suc n / 2);
      all = omega arith;
      is = refl;
      cut = ap (λ (b : Bool). cond b None (Some (last -ℤ half_up (last -ℤ first)))) above
          ∙ ap (λ (m : ℤ). Some m) place;
      left = so_far (suc n / 2) first;
      right = omega (arith, ints, gap);
      in_range = λ low high. omega (arith, ints, gap, low, high);
    }
  where
    above : int_le last first ≡ false
    above = let lt : first <ℤ last = omega (arith, ints, gap) in grind (arith, ints)

    length : last -ℤ first ≡ pos (suc n)
    length = omega (arith, ints, gap)

    place : last -ℤ half_up (last -ℤ first) ≡ first +ℤ pos (suc n / 2)
    place = ap (λ (g : ℤ). last -ℤ half_up g) length ∙ omega (arith, ints, gap)

-- as many iterations as a `par` may have
pub is_short : (n : ℕ) (first last : ℤ) → IsGap (suc n) first last → suc n ≤ MAX_PAR_LENGTH
    → (last -ℤ first) ≤ℤ pos MAX_PAR_LENGTH
is_short n first last gap few = omega (arith, ints, gap, few)
