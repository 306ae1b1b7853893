-- Spans cut at a position, one after another.
use Rattle.std.proofs.Common.{◌≡◌, ℕ, zero, suc, ◌+◌, ◌<◌, ◌≤◌, inl, inr, Bool, true, false, cond}
use Rattle.std.proofs.Common.{List, [], ◌∷◌, length, take, drop, set, get_or, Option, None, Some}
use Rattle.std.proofs.Common.{refl, sym, ◌∙◌, ap, arith}
use Rattle.std.proofs.lemmas.Bool.{cases_lt, lt-ltb, le-ltb}
use Rattle.std.proofs.lemmas.List.{take_more_set, get_or-drop}
use Rattle.std.specs.Prelude.{ℤ, nat_lt, Result, Ok, Err, OnErr}
use Rattle.slices.specs.Spans.{or_else, count, between, span_at, spans_at, holders, AreApart}
use Rattle.slices.specs.declared.spans.Span.{Span}
use Rattle.slices.proofs.Slots.{between_in, between_past, between_before}
use Rattle.slices.proofs.SpanLists.{or_else-none, or_else_swap, or_else_assoc, spans_at-push}
use Rattle.slices.proofs.SpanLists.{holders-push, at_more, count_more, around, around_set}
use Rattle.slices.proofs.SpanLists.{count_around, count_around_set, count_spans, count_sum}
use Rattle.slices.proofs.Cuts.{none_there}

pub sides_count : (b : Bool) (u v w : Option ℤ) → u ≡ cond b w None → v ≡ cond b None w → count u + count v ≡ count w
sides_count true u v w e f = omega (arith, ap count e, ap count f)
sides_count false u v w e f = omega (arith, ap count e, ap count f)

lower_pair : (b : Bool) (u v : Option ℤ) → or_else (cond b u None) (cond b v None) ≡ cond b (or_else u v) None
lower_pair true u v = refl
lower_pair false u v = refl

upper_pair : (b : Bool) (u v : Option ℤ) → or_else (cond b None u) (cond b None v) ≡ cond b None (or_else u v)
upper_pair true u v = refl
upper_pair false u v = refl

-- what is left of a list begins with the same span
pub same_left : (xs os : List Span) (k : ℕ) (d : Span) → drop k xs ≡ drop k os → d ≡ get_or xs k d → d ≡ get_or os k d
same_left xs os k d e f =
    let z : k ≡ k + 0 = omega arith in
    f ∙ ap (λ m. get_or xs m d) z ∙ sym (get_or-drop k xs 0 d) ∙ ap (λ ys. get_or ys 0 d) e ∙ get_or-drop k os 0 d ∙ ap (λ m. get_or os m d) (sym z)

-- one more span cut
pub kept_more : (xs os : List Span) (k at i : ℕ) (d y : Span) → k < length xs → k < length os → d ≡ get_or os k d → span_at y i ≡ cond (nat_lt i at) (span_at d i) None → spans_at (take k xs) i ≡ cond (nat_lt i at) (spans_at (take k os) i) None → spans_at (take (k + 1) (set xs k y)) i ≡ cond (nat_lt i at) (spans_at (take (k + 1) os) i) None
kept_more xs os k at i d y h l is e f =
    ap (λ ys. spans_at ys i) (take_more_set xs k y h) ∙ spans_at-push (take k xs) y i
    ∙ ap (λ v. or_else v (span_at y i)) f ∙ ap (or_else (cond (nat_lt i at) (spans_at (take k os) i) None)) e
    ∙ lower_pair (nat_lt i at) (spans_at (take k os) i) (span_at d i)
    ∙ ap (λ v. cond (nat_lt i at) v None) (sym (at_more os k d i l is))

pub given_more : (ps qs os : List Span) (k at i : ℕ) (d p : Span) → k < length os → d ≡ get_or os k d → span_at p i ≡ cond (nat_lt i at) None (span_at d i) → spans_at ps i ≡ cond (nat_lt i at) None (spans_at (take k os) i) → spans_at qs i ≡ or_else (spans_at ps i) (span_at p i) → spans_at qs i ≡ cond (nat_lt i at) None (spans_at (take (k + 1) os) i)
given_more ps qs os k at i d p l is e f g =
    g ∙ ap (λ v. or_else v (span_at p i)) f ∙ ap (or_else (cond (nat_lt i at) None (spans_at (take k os) i))) e
    ∙ upper_pair (nat_lt i at) (spans_at (take k os) i) (span_at d i)
    ∙ ap (cond (nat_lt i at) None) (sym (at_more os k d i l is))

pub reaching_more : (xs ps qs os : List Span) (k i : ℕ) (d y p : Span) → k < length xs → k < length os → d ≡ get_or os k d → count (span_at y i) + count (span_at p i) ≡ count (span_at d i) → holders (take k xs) i + holders ps i ≡ holders (take k os) i → holders qs i ≡ holders ps i + count (span_at p i) → holders (take (k + 1) (set xs k y)) i + holders qs i ≡ holders (take (k + 1) os) i
reaching_more xs ps qs os k i d y p h l is e f g =
    let a : holders (take (k + 1) (set xs k y)) i ≡ holders (take k xs) i + count (span_at y i) = ap (λ ys. holders ys i) (take_more_set xs k y h) ∙ holders-push (take k xs) y i in
    omega (arith, a, count_more os k d i l is, e, f, g)

-- a span that could not be cut, and those after it
pub reaching_stopped : (xs ps os : List Span) (k i : ℕ) (d y : Span) → k < length xs → k < length os → d ≡ get_or os k d → span_at y i ≡ span_at d i → drop (suc k) xs ≡ drop (suc k) os → holders (take k xs) i + holders ps i ≡ holders (take k os) i → holders (set xs k y) i + holders ps i ≡ holders os i
reaching_stopped xs ps os k i d y h l is e r f =
    let a = count_around_set xs k y i h in
    let b : holders os i ≡ holders (take k os) i + (count (span_at d i) + holders (drop (suc k) os) i) = count_around os k d i l ∙ ap (λ s. holders (take k os) i + (count (span_at s i) + holders (drop (suc k) os) i)) (sym is) in
    omega (arith, a, b, ap count e, ap (λ ys. holders ys i) r, f)

stopped : (b : Bool) (a r : Option ℤ) → count a + count r ≤ 1 → or_else (or_else (cond b a None) r) (cond b None a) ≡ or_else a r
stopped true a r h = or_else-none (or_else a r)
stopped false a r h = or_else_swap r a (omega (arith, h))

pub kept_stopped : (xs ps os : List Span) (k at i : ℕ) (d y : Span) → k < length xs → k < length os → d ≡ get_or os k d → span_at y i ≡ span_at d i → drop (suc k) xs ≡ drop (suc k) os → spans_at (take k xs) i ≡ cond (nat_lt i at) (spans_at (take k os) i) None → spans_at ps i ≡ cond (nat_lt i at) None (spans_at (take k os) i) → holders os i ≤ 1 → or_else (spans_at (set xs k y) i) (spans_at ps i) ≡ spans_at os i
kept_stopped xs ps os k at i d y h l is e r f g le =
    let rest : Option ℤ = or_else (span_at d i) (spans_at (drop (suc k) os) i) in
    let whole : spans_at os i ≡ or_else (spans_at (take k os) i) rest = around os k d i l ∙ ap (λ s. or_else (spans_at (take k os) i) (or_else (span_at s i) (spans_at (drop (suc k) os) i))) (sym is) in
    let now : spans_at (set xs k y) i ≡ or_else (cond (nat_lt i at) (spans_at (take k os) i) None) rest =
    around_set xs k y i h ∙ ap (λ v. or_else v (or_else (span_at y i) (spans_at (drop (suc k) xs) i))) f
    ∙ ap (λ v. or_else (cond (nat_lt i at) (spans_at (take k os) i) None) (or_else v (spans_at (drop (suc k) xs) i))) e
    ∙ ap (λ ys. or_else (cond (nat_lt i at) (spans_at (take k os) i) None) (or_else (span_at d i) (spans_at ys i))) r in
    let few : count (spans_at (take k os) i) + count rest ≤ 1 = small (spans_at (take k os) i) rest
    (omega (arith, le, count_around os k d i l, ap (λ s. count (span_at s i)) is, count_spans (take k os) i, rest_count)) in
    ap (λ v. or_else v (spans_at ps i)) now ∙ ap (or_else (or_else (cond (nat_lt i at) (spans_at (take k os) i) None) rest)) g
    ∙ stopped (nat_lt i at) (spans_at (take k os) i) rest few ∙ sym whole
  where
    rest_count : count (or_else (span_at d i) (spans_at (drop (suc k) os) i)) ≤ count (span_at d i) + holders (drop (suc k) os) i
    rest_count = omega (arith, count_sum (span_at d i) (spans_at (drop (suc k) os) i), count_spans (drop (suc k) os) i)

    small : (a b : Option ℤ) → count a + count b ≤ 1 → count a + count b ≤ 1
    small a b q = q

-- what is from a position on, where nothing is from the end on
pub upper_between : (at end i : ℕ) (xs : List Span) → AreApart end xs → cond (nat_lt i at) None (spans_at xs i) ≡ between at end i (spans_at xs i)
upper_between at end i xs a =
    elim (cases_lt i at) [
      | inl h ↦ ap (λ b. cond b None (spans_at xs i)) (lt-ltb i at h) ∙ sym (between_before at end i _ h)
      | inr h ↦ ap (λ b. cond b None (spans_at xs i)) (le-ltb i at h) ∙ elim (cases_lt i end) [
        | inl l ↦ sym (between_in at end i _ h l)
        | inr l ↦ none_there xs i ((a i).1 l) ∙ sym (between_past at end i _ l)
      ]
    ]

-- the same where only the first span was cut whole
pub first_again : (b : Bool) (f g s t o : Option ℤ) → f ≡ cond b o None → g ≡ cond b None o → count o + count (or_else s t) ≤ 1 → or_else (or_else f s) (or_else g t) ≡ or_else o (or_else s t)
first_again true f g s t o e k h = ap (λ x. or_else (or_else x s) (or_else g t)) e ∙ ap (λ x. or_else (or_else o s) (or_else x t)) k ∙ or_else_assoc o s t
first_again false f g s t o e k h = ap (λ x. or_else (or_else x s) (or_else g t)) e ∙ ap (λ x. or_else s (or_else x t)) k ∙ sym (or_else_assoc s o t) ∙ ap (λ x. or_else x t) (or_else_swap s o (omega (arith, h, first_less s t))) ∙ or_else_assoc o s t
  where
    first_less : (a b : Option ℤ) → count a ≤ count (or_else a b)
    first_less None b = omega arith
    first_less (Some x) b = omega arith

drop_set : (xs : List Span) (k : ℕ) (y : Span) → drop (suc k) (set xs k y) ≡ drop (suc k) xs
drop_set [] k y = refl
drop_set (x ∷ xs) zero y = refl
drop_set (x ∷ xs) (suc k) y = drop_set xs k y

drop_one : (xs : List Span) (k : ℕ) → drop (suc k) xs ≡ drop 1 (drop k xs)
drop_one [] zero = refl
drop_one [] (suc k) = refl
drop_one (x ∷ xs) zero = refl
drop_one (x ∷ xs) (suc k) = drop_one xs k

pub left_after : (xs os : List Span) (k : ℕ) → drop k xs ≡ drop k os → drop (suc k) xs ≡ drop (suc k) os
left_after xs os k e = drop_one xs k ∙ ap (drop 1) e ∙ sym (drop_one os k)

pub left_more : (xs os : List Span) (k : ℕ) (y : Span) → drop k xs ≡ drop k os → drop (k + 1) (set xs k y) ≡ drop (k + 1) os
left_more xs os k y e =
    let n : k + 1 ≡ suc k = omega arith in
    ap (λ m. drop m (set xs k y)) n ∙ drop_set xs k y ∙ left_after xs os k e ∙ ap (λ m. drop m os) (sym n)

-- what holds whatever the result
pub on_err : {A E P : Type 0} (r : Result A E) → P → OnErr r P
on_err (Ok x) p = tt
on_err (Err e) p = p
