-- The place of a cut, as the instructions of a handler compute it.
use Rattle.std.proofs.Common.{◌≡◌, ℕ, ◌/◌, ◌≤◌, Bool, true, false, cond, None, Some, refl, ap, sym}
use Rattle.std.proofs.Common.{subst, ◌∙◌, arith}
use Rattle.std.specs.Prelude.{ℤ, pos, negsuc, ◌+ℤ◌, ◌-ℤ◌, ◌≤ℤ◌, int_div, int_le}
use Rattle.std.specs.Int.{int_gap, w64}
use Rattle.std.proofs.lemmas.Int.{ints, int_wrap_fits}
use Rattle.frame_machine.specs.Splitting.{half_up, cut_of}
use Rattle.loop_meaning.specs.InRange.{InRange}
use Rattle.tp_value.specs.declared.limits.TheConstants.{MAX_PAR_LENGTH}
use Rattle.tp_value.specs.Number.{wrapped}

-- the number of iterations, half of them, and the place
pub record IsMiddle (next middle end : ℤ) : Type 0 where
  pub length : wrapped (end -ℤ next) ≡ end -ℤ next
  pub half : wrapped (int_div (end -ℤ next) (pos 2)) ≡ int_div (end -ℤ next) (pos 2)
  pub place : wrapped (int_div (end -ℤ next) (pos 2) +ℤ next) ≡ middle

-- how far the end is
gap_back : (a b : ℤ) → a ≤ℤ b → a +ℤ pos (int_gap a b) ≡ b
gap_back (pos a) (pos b) h = omega (arith, ints, h)
gap_back (pos a) (negsuc b) h = absurd (omega (arith, ints, h))
gap_back (negsuc a) (pos b) h = omega (arith, ints, h)
gap_back (negsuc a) (negsuc b) h = omega (arith, ints, h)

fits : (n : ℤ) → InRange n → wrapped n ≡ n
fits n h = int_wrap_fits w64 n h

-- of a range with so many iterations
of_gap : (next : ℤ) (n : ℕ) → n ≤ MAX_PAR_LENGTH → InRange next → InRange (next +ℤ pos n) → (middle : ℤ) → (next +ℤ pos n) -ℤ half_up ((next +ℤ pos n) -ℤ next) ≡ middle → IsMiddle next middle (next +ℤ pos n)
of_gap next n short from to middle is =
    let gap : (next +ℤ pos n) -ℤ next ≡ pos n = omega (arith, ints) in
    let place : next +ℤ pos (n / 2) ≡ middle = omega (arith, ints, ap (λ (g : ℤ). (next +ℤ pos n) -ℤ half_up g) (sym gap) ∙ is) in
    record {
      length = ap wrapped gap ∙ (fits (pos n) (omega (arith, ints)) ∙ sym gap);
      half = ap (λ (g : ℤ). wrapped (int_div g (pos 2))) gap ∙ (fits (pos (n / 2)) (omega (arith, ints)) ∙ ap (λ (g : ℤ). int_div g (pos 2)) (sym gap));
      place = ap (λ (g : ℤ). wrapped (int_div g (pos 2) +ℤ next)) gap ∙ (fits (pos (n / 2) +ℤ next) (omega (arith, ints)) ∙ omega (arith, ints, place));
    }

-- a range that is cut has an iteration
cut_below : (next end middle : ℤ) → cut_of next end ≡ Some middle → (next ≤ℤ end) × (end -ℤ half_up (end -ℤ next) ≡ middle)
cut_below next end middle is = go (int_le end next) refl is
  where
    go : (b : Bool) → int_le end next ≡ b → cond b None (Some (end -ℤ half_up (end -ℤ next))) ≡ Some middle → (next ≤ℤ end) × (end -ℤ half_up (end -ℤ next) ≡ middle)
    go true e h = cc
    go false e h = (grind (arith, ints), cc)

pub middle_is : (next end middle : ℤ) → cut_of next end ≡ Some middle → (end -ℤ next) ≤ℤ pos MAX_PAR_LENGTH → InRange next → InRange end → IsMiddle next middle end
middle_is next end middle cut short from to =
    let below = cut_below next end middle cut in
    let back : next +ℤ pos (int_gap next end) ≡ end = gap_back next end below.0 in
    subst (λ (e : ℤ). IsMiddle next middle e) back
    (of_gap next (int_gap next end) (omega (arith, ints, back, short)) from (subst InRange (sym back) to) middle
    (ap (λ (e : ℤ). e -ℤ half_up (e -ℤ next)) back ∙ below.1))
