-- The parts of a frame that fits its source fit it too, so each may be cut again.
use Rattle.frame_machine.proofs.Ranges.{low, middle, up}
use Rattle.frame_machine.specs.Fitting.{Begun, BegunBoth, BegunPar, Fits, RangeFits, numbers_of}
use Rattle.frame_machine.specs.Fitting.{operators_of}
use Rattle.frame_machine.specs.Splitting.{cut_of, half_up, parts_of, ranges_at, with_units}
use Rattle.loop_meaning.specs.InRange.{InRange}
use Rattle.loop_meaning.specs.declared.frame.Frame.{Frame}
use Rattle.loop_meaning.specs.declared.frame.Frame.TheVariants.{Pair, Range}
use Rattle.loop_syntax.specs.declared.ParLoop.{ParLoop}
use Rattle.reduce_ops.specs.Laws.{unit_fits}
use Rattle.reduce_ops.specs.Reduction.{unit}
use Rattle.std.proofs.Common.{All, Bool, List, None, Option, Some, [], ap, arith, false, negsuc}
use Rattle.std.proofs.Common.{pos, refl, subst, suc, sym, true, zero, ℤ, ◌-ℤ◌, ◌<ℤ◌, ◌∙◌, ◌∷◌, ◌≡◌}
use Rattle.std.proofs.Common.{◌≤ℤ◌}
use Rattle.std.proofs.lemmas.Int.{by_lt_z, ints}
use Rattle.std.proofs.lemmas.List.Elements.{All-cons, All-nil}
use Rattle.std.specs.Prelude.{int_le}
use Rattle.tp_value.specs.declared.Op.{Op}

units_fit : (accs : List (Op × ℤ)) → All InRange (numbers_of (with_units accs))
units_fit [] = All-nil InRange
units_fit (a ∷ accs) = All-cons InRange (unit a.0) (numbers_of (with_units accs)) (unit_fits a.0) (units_fit accs)

units_operators : (accs : List (Op × ℤ)) → operators_of (with_units accs) ≡ operators_of accs
units_operators [] = refl
units_operators (a ∷ accs) = ap (λ os. a.0 ∷ os) (units_operators accs)

pub lower_fits : (l : ParLoop) (first last next middle end : ℤ) (accs : List (Op × ℤ)) → RangeFits l first last next end accs → next ≤ℤ middle → middle ≤ℤ end → RangeFits l first last next middle accs
lower_fits l first last next middle end accs f h k = record {
  begins = f.begins;
  ordered = h;
  ends = (let e : end ≤ℤ last = f.ends in omega (arith, ints, k, e));
  short = f.short;
  first_in_range = f.first_in_range;
  last_in_range = f.last_in_range;
  operators = f.operators;
  numbers = f.numbers;
}

pub upper_fits : (l : ParLoop) (first last next middle end : ℤ) (accs : List (Op × ℤ)) → RangeFits l first last next end accs → next ≤ℤ middle → middle ≤ℤ end → RangeFits l first last middle end (with_units accs)
upper_fits l first last next middle end accs f h k = record {
  begins = (let e : first ≤ℤ next = f.begins in omega (arith, ints, h, e));
  ordered = k;
  ends = f.ends;
  short = f.short;
  first_in_range = f.first_in_range;
  last_in_range = f.last_in_range;
  operators = units_operators accs ∙ f.operators;
  numbers = units_fit accs;
}

-- the cut is in the range, and some iteration is above it
half_within : (n : ℤ) → pos 0 <ℤ n → (pos 1 ≤ℤ half_up n) × (half_up n ≤ℤ n)
half_within (pos zero) h = absurd (omega (arith, ints, h))
half_within (pos (suc n)) h = (omega (arith, ints), omega (arith, ints))
half_within (negsuc n) h = absurd (omega (arith, ints, h))

not_at_most : (a b : ℤ) → int_le b a ≡ false → a <ℤ b
not_at_most a b e = by_lt_z a b (λ (lt : a <ℤ b). lt) (λ (ge : b ≤ℤ a). absurd (let q : int_le b a ≡ true = grind (arith, ints) in let z : true ≡ false = sym q ∙ e in cc))

pub cut_within : (next end middle : ℤ) → cut_of next end ≡ Some middle → (next ≤ℤ middle) × (middle <ℤ end)
cut_within next end middle e = go (int_le end next) refl
  where
    the_number : ℤ → Option ℤ → ℤ
    the_number d None = d
    the_number d (Some n) = n

    go : (b : Bool) → int_le end next ≡ b → (next ≤ℤ middle) × (middle <ℤ end)
    go true f = absurd (let z : None ≡ Some middle = (rw f at e) in cc)
    go false f =
        let lt : next <ℤ end = not_at_most next end f in
        let d : pos 0 <ℤ (end -ℤ next) = omega (arith, ints, lt) in
        let h = half_within (end -ℤ next) d in
        let low : pos 1 ≤ℤ half_up (end -ℤ next) = h.0 in
        let high : half_up (end -ℤ next) ≤ℤ (end -ℤ next) = h.1 in
        let m : end -ℤ half_up (end -ℤ next) ≡ middle = ap (the_number (pos 0)) (rw f at e) in
        (subst (λ (z : ℤ). next ≤ℤ z) m (omega (arith, ints, high)), subst (λ (z : ℤ). z <ℤ end) m (omega (arith, ints, low)))

abbrev the_low : Frame → Option (Frame × Frame) → Frame
the_low d None = d
the_low d (Some q) = q.0

abbrev the_up : Frame → Option (Frame × Frame) → Frame
the_up d None = d
the_up d (Some q) = q.1

pub parts_fit : (begun : Begun) (frame low up : Frame) → Fits begun frame → parts_of frame ≡ Some (low, up) → Fits begun low × Fits begun up
parts_fit (BegunPar l first last) (Range next end accs) low up f e = go (cut_of next end) refl
  where
    go : (c : Option ℤ) → cut_of next end ≡ c → Fits (BegunPar l first last) low × Fits (BegunPar l first last) up
    go None q = absurd (let z : None ≡ Some (low, up) = (ap (ranges_at next end accs) (sym q) ∙ e) in cc)
    go (Some middle) q =
        let z : ranges_at next end accs (Some middle) ≡ Some (low, up) = ap (ranges_at next end accs) (sym q) ∙ e in
        let w = cut_within next end middle q in
        let w0 : next ≤ℤ middle = w.0 in
        let w1 : middle <ℤ end = w.1 in (
          subst (Fits (BegunPar l first last)) (ap (the_low (Range next end accs)) z) (lower_fits l first last next middle end accs f w0 (omega (arith, ints, w1))),
          subst (Fits (BegunPar l first last)) (ap (the_up (Range next end accs)) z) (upper_fits l first last next middle end accs f w0 (omega (arith, ints, w1))),
        )
parts_fit (BegunPar l first last) (Pair function args taken) low up f e = absurd f
parts_fit (BegunBoth a ns g ms) (Range next end accs) low up f e = absurd f
parts_fit (BegunBoth a ns g ms) (Pair function args false) low up f e =
    (subst (Fits (BegunBoth a ns g ms)) (ap (the_low (Pair function args false)) e) f, subst (Fits (BegunBoth a ns g ms)) (ap (the_up (Pair function args false)) e) f)
parts_fit (BegunBoth a ns g ms) (Pair function args true) low up f e = absurd (let z : None ≡ Some (low, up) = e in cc)
