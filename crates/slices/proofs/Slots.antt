-- What a list that is counted from a start holds at a position.
use Rattle.std.proofs.Common.{◌≡◌, ℕ, ◌+◌, ◌-◌, ◌<◌, ◌≤◌, ◌⊎◌, inl, inr, cond, List, [], ◌++◌}
use Rattle.std.proofs.Common.{length, take, drop, set, get_or, Option, None, Some, refl, sym, ◌∙◌}
use Rattle.std.proofs.Common.{ap, subst, arith, length-take, length-drop, min, max, zero-add}
use Rattle.std.proofs.lemmas.Option.{slice_get-get_or, slice_get_past, gets}
use Rattle.std.proofs.lemmas.Bool.{cases_lt, false≢true, lt-ltb, le-ltb}
use Rattle.std.proofs.lemmas.List.{get_or-take, get_or-drop}
use Rattle.std.proofs.lemmas.Bool.Decides.{nat_tests}
use Rattle.std.proofs.lemmas.Grind.{common_steps}
use Rattle.std.specs.Prelude.{ℤ, pos, IsSome, nat_lt, nat_eq, slice_get}
use Rattle.slices.specs.Spans.{slot, or_else, count, between}

pub slot_before : (start : ℕ) (xs : List ℤ) (i : ℕ) → i < start → slot start xs i ≡ None
unfolding slot
slot_before start xs i h = grind (arith, nat_tests)

pub slot_past : (start : ℕ) (xs : List ℤ) (i : ℕ) → start + length xs ≤ i → slot start xs i ≡ None
unfolding slot
slot_past start xs i h =
    let e : slice_get xs (i - start) ≡ None = slice_get_past xs (i - start) (omega arith) in
    grind (arith, nat_tests)

pub slot_inside : (start : ℕ) (xs : List ℤ) (i : ℕ) (d : ℤ) → start ≤ i → i < start + length xs → slot start xs i ≡ Some (get_or xs (i - start) d)
unfolding slot
slot_inside start xs i d h k =
    let e : slice_get xs (i - start) ≡ Some (get_or xs (i - start) d) = slice_get-get_or xs (i - start) d (omega arith) in
    grind (arith, nat_tests)

-- a position is inside or outside
pub slot_cases : (start : ℕ) (xs : List ℤ) (i : ℕ) (d : ℤ) → ((start ≤ i) × (i < start + length xs) × (slot start xs i ≡ Some (get_or xs (i - start) d))) ⊎ (((i < start) ⊎ (start + length xs ≤ i)) × (slot start xs i ≡ None))
slot_cases start xs i d =
    elim (cases_lt i start) [
      | inl h ↦ inr (inl h, slot_before start xs i h)
      | inr h ↦ elim (cases_lt i (start + length xs)) [
        | inl k ↦ inl (h, k, slot_inside start xs i d h k)
        | inr k ↦ inr (inr k, slot_past start xs i k)
      ]
    ]

pub slot-none : (start i : ℕ) → slot start [] i ≡ None
slot-none start i = elim (cases_lt i start) [ inl h ↦ slot_before start [] i h | inr h ↦ slot_past start [] i (omega arith) ]

d0 : ℤ
d0 = pos 0

pub slot-take : (start : ℕ) (xs : List ℤ) (high i : ℕ) → slot start (take (high - start) xs) i ≡ cond (nat_lt i high) (slot start xs i) None
slot-take start xs high i =
    let a = slot_cases start xs i d0 in
    let b = slot_cases start (take (high - start) xs) i d0 in
    grind (arith, nat_tests, common_steps, gets)

pub between_in : (low high i : ℕ) (value : Option ℤ) → low ≤ i → i < high → between low high i value ≡ value
between_in low high i value h k = grind (arith, nat_tests)

pub between_before : (low high i : ℕ) (value : Option ℤ) → i < low → between low high i value ≡ None
between_before low high i value h = grind (arith, nat_tests)

pub between_past : (low high i : ℕ) (value : Option ℤ) → high ≤ i → between low high i value ≡ None
between_past low high i value h = grind (arith, nat_tests)

pub between_none : (low high i : ℕ) → between low high i None ≡ None
between_none low high i = grind (arith, nat_tests)

-- where a part of a list stands, as bounds on plain numbers
past_end : (start len low high from to i : ℕ) → from ≡ min (max low start - start) len → to ≡ max (min (high - start) len) from → low ≤ i → start ≤ i → (high ≤ i) ⊎ (start + len ≤ i) → max low start + (to - from) ≤ i
past_end start len low high from to i e f h k (inl l) = omega arith
past_end start len low high from to i e f h k (inr l) = omega arith

before_end : (start len low high from to i : ℕ) → from ≡ min (max low start - start) len → to ≡ max (min (high - start) len) from → low ≤ i → start ≤ i → i < high → i < start + len → (i < max low start + (to - from)) × (from + (i - max low start) ≡ i - start)
before_end start len low high from to i e f h k l m = (omega arith, omega arith)

pub length-part : (xs : List ℤ) (from to len : ℕ) → length xs ≡ len → to ≤ len → length (take (to - from) (drop from xs)) ≡ to - from
length-part xs from to len e h = simp (length-take, length-drop) (omega arith)

pub part_at : (xs : List ℤ) (from to j : ℕ) (d : ℤ) → j < to - from → get_or (take (to - from) (drop from xs)) j d ≡ get_or xs (from + j) d
part_at xs from to j d h = get_or-take (to - from) (drop from xs) j d h ∙ get_or-drop from xs j d

-- the numbers from index `from` up to `to`, counted from where they stood
pub slot-range : (start : ℕ) (xs : List ℤ) (low high from to i : ℕ) → from ≡ min (max low start - start) (length xs) → to ≡ max (min (high - start) (length xs)) from → slot (max low start) (take (to - from) (drop from xs)) i ≡ between low high i (slot start xs i)
slot-range start xs low high from to i e f =
    let part = take (to - from) (drop from xs) in
    let n : length part ≡ to - from = length-part xs from to (length xs) refl (omega arith) in
    let nowhere : slot start xs i ≡ None → None ≡ between low high i (slot start xs i) = λ o. sym (ap (between low high i) o ∙ between_none low high i) in
    let past : low ≤ i → start ≤ i → (high ≤ i) ⊎ (start + length xs ≤ i) → slot (max low start) part i ≡ None =
    λ h k l. slot_past (max low start) part i (subst (λ m. max low start + m ≤ i) (sym n) (past_end start (length xs) low high from to i e f h k l)) in
    elim (cases_lt i low) [
      | inl h ↦ slot_before (max low start) part i (omega arith) ∙ sym (between_before low high i _ h)
      | inr h ↦ elim (cases_lt i start) [
        | inl k ↦ slot_before (max low start) part i (omega arith) ∙ nowhere (slot_before start xs i k)
        | inr k ↦ elim (cases_lt i high) [
          | inr l ↦ past h k (inl l) ∙ sym (between_past low high i _ l)
          | inl l ↦ elim (cases_lt i (start + length xs)) [
            | inr m ↦ past h k (inr m) ∙ nowhere (slot_past start xs i m)
            | inl m ↦
                let b = before_end start (length xs) low high from to i e f h k l m in
                slot_inside (max low start) part i d0 (omega arith) (subst (λ z. i < max low start + z) (sym n) b.0)
                ∙ ap Some (part_at xs from to (i - max low start) d0 (omega (arith, b.0)) ∙ ap (λ z. get_or xs z d0) b.1)
                ∙ sym (slot_inside start xs i d0 k m)
                ∙ sym (between_in low high i _ h l)
          ]
        ]
      ]
    ]

pub slot-set : (start : ℕ) (xs : List ℤ) (at i : ℕ) (value : ℤ) → start ≤ at → at - start < length xs → slot start (set xs (at - start) value) i ≡ cond (nat_eq i at) (Some value) (slot start xs i)
slot-set start xs at i value h k =
    let a = slot_cases start xs i d0 in
    let b = slot_cases start (set xs (at - start) value) i d0 in
    grind (arith, nat_tests, common_steps, gets)

-- a list that goes on where another ends
pub slot-append : (start : ℕ) (xs ys : List ℤ) (i : ℕ) → slot start (xs ++ ys) i ≡ or_else (slot start xs i) (slot (start + length xs) ys i)
slot-append start xs ys i =
    let a = slot_cases start xs i d0 in
    let b = slot_cases (start + length xs) ys i d0 in
    let c = slot_cases start (xs ++ ys) i d0 in
    grind (arith, nat_tests, common_steps, gets)

-- a position where a number is lies inside
pub slot_reaches : (start : ℕ) (xs : List ℤ) (i : ℕ) → IsSome (slot start xs i) → (start ≤ i) × (i < start + length xs)
slot_reaches start xs i h =
    elim (slot_cases start xs i d0) [
      | inl w ↦ (w.0, w.1)
      | inr w ↦ absurd (false≢true (subst IsSome w.1 h))
    ]

pub slot_some : (start : ℕ) (xs : List ℤ) (i : ℕ) → start ≤ i → i < start + length xs → IsSome (slot start xs i)
slot_some start xs i h k = subst IsSome (sym (slot_inside start xs i d0 h k)) refl

pub count_join : (start : ℕ) (xs ys : List ℤ) (i : ℕ) → count (or_else (slot start xs i) (slot (start + length xs) ys i)) ≡ count (slot start xs i) + count (slot (start + length xs) ys i)
count_join start xs ys i =
    elim (slot_cases start xs i d0) [
      | inl w ↦ rw (w.2, slot_before (start + length xs) ys i w.1)
      | inr w ↦ rw (w.1) (sym (zero-add (count (slot (start + length xs) ys i))))
    ]

pub joined_at : (start : ℕ) (xs : List ℤ) (other : ℕ) (ys : List ℤ) (i : ℕ) → other ≡ start + length xs → slot start (xs ++ ys) i ≡ or_else (slot start xs i) (slot other ys i)
joined_at start xs other ys i e = rw e (slot-append start xs ys i)

pub joined_count : (start : ℕ) (xs : List ℤ) (other : ℕ) (ys : List ℤ) (i : ℕ) → other ≡ start + length xs → count (slot start (xs ++ ys) i) ≡ count (slot start xs i) + count (slot other ys i)
joined_count start xs other ys i e = rw (e, slot-append start xs ys i) (count_join start xs ys i)

pub slot-zero : (xs : List ℤ) (i : ℕ) → slot 0 xs i ≡ slice_get xs i
unfolding slot
slot-zero xs i = grind (arith, nat_tests)

pub slot-empty : (start : ℕ) (xs : List ℤ) (i : ℕ) → length xs ≡ 0 → slot start xs i ≡ None
slot-empty start xs i e = elim (cases_lt i start) [ inl h ↦ slot_before start xs i h | inr h ↦ slot_past start xs i (omega arith) ]

-- the numbers from a position on, counted from where they stood
pub slot_upper : (start at k n i : ℕ) (xs : List ℤ) → start ≤ at → k ≡ min (at - start) n → n ≡ length xs → slot at (take (n - k) (drop k xs)) i ≡ cond (nat_lt i at) None (slot start xs i)
slot_upper start at k n i xs h e f =
    let p : length (take (n - k) (drop k xs)) ≡ n - k = length-part xs k n (length xs) refl (omega (arith, f)) in
    elim (cases_lt i at) [
      | inl l ↦ slot_before at (take (n - k) (drop k xs)) i l ∙ sym (ap (λ b. cond b None (slot start xs i)) (lt-ltb i at l))
      | inr l ↦ elim (cases_lt i (start + length xs)) [
        | inr m ↦ slot_past at (take (n - k) (drop k xs)) i (omega (arith, p, e, f, h, l, m)) ∙ sym (ap (λ b. cond b None (slot start xs i)) (le-ltb i at l) ∙ slot_past start xs i m)
        | inl m ↦
            let q : k + (i - at) ≡ i - start = omega (arith, e, f, h, l, m) in
            slot_inside at (take (n - k) (drop k xs)) i d0 l (omega (arith, p, e, f, h, l, m))
            ∙ ap Some (part_at xs k n (i - at) d0 (omega (arith, e, f, h, l, m)) ∙ ap (λ z. get_or xs z d0) q)
            ∙ sym (ap (λ b. cond b None (slot start xs i)) (le-ltb i at l) ∙ slot_inside start xs i d0 (omega (arith, h, l)) m)
      ]
    ]
