-- What boxes hold at a position.
use Rattle.std.proofs.Common.{◌≡◌, ℕ, zero, suc, ◌+◌, ◌-◌, ◌/◌, ◌%◌, ◌*◌, ◌<◌, ◌≤◌, ◌⊎◌, inl, inr}
use Rattle.std.proofs.Common.{cond, List, [], ◌∷◌, ◌++◌, length, take, drop, set, get_or, min, max}
use Rattle.std.proofs.Common.{Option, None, Some, refl, sym, ◌∙◌, ap, subst, arith, length-take}
use Rattle.std.proofs.lemmas.Option.{slice_get-get_or, slice_get_past}
use Rattle.std.proofs.lemmas.Bool.{cases_lt, cases_eq, eq-eqb, ne_eqb, lt-ltb, le-ltb}
use Rattle.std.specs.Prelude.{ℤ, pos, IsSome, MatchOption, nat_eq, nat_lt, slice_get}
use Rattle.std.specs.Prelude.{option_to_list, Box}
use Rattle.std.specs.Global.{Global}
use Rattle.slices.specs.Spans.{number, held_in, in_chunk, in_list, between, or_else, count, slot}
use Rattle.slices.proofs.Slots.{slot_before, slot_past, slot_inside, between_in, between_before}
use Rattle.slices.proofs.Slots.{between_past, between_none}
use Rattle.slices.proofs.SpanLists.{or_else-none}

abbrev pub Chunk : Type 0
Chunk = Box (List ℤ) Global

pub at-set : (xs : List Chunk) (k : ℕ) (y : Chunk) → k < length xs → slice_get (set xs k y) k ≡ Some y
at-set [] k y h = absurd (omega arith)
at-set (x ∷ xs) zero y h = refl
at-set (x ∷ xs) (suc k) y h = at-set xs k y (omega arith)

pub at-set_other : (xs : List Chunk) (k m : ℕ) (y : Chunk) → (k ≡ m → ⊥) → slice_get (set xs k y) m ≡ slice_get xs m
at-set_other [] k m y h = refl
at-set_other (x ∷ xs) zero zero y h = absurd (h refl)
at-set_other (x ∷ xs) zero (suc m) y h = refl
at-set_other (x ∷ xs) (suc k) zero y h = refl
at-set_other (x ∷ xs) (suc k) (suc m) y h = at-set_other xs k m y (λ e. h (ap suc e))

pub at-take : (xs : List Chunk) (n m : ℕ) → m < n → slice_get (take n xs) m ≡ slice_get xs m
at-take [] zero m h = refl
at-take [] (suc n) m h = refl
at-take (x ∷ xs) zero m h = absurd (omega arith)
at-take (x ∷ xs) (suc n) zero h = refl
at-take (x ∷ xs) (suc n) (suc m) h = at-take xs n m (omega arith)

pub at-drop : (xs : List Chunk) (n m : ℕ) → slice_get (drop n xs) m ≡ slice_get xs (n + m)
at-drop [] zero m = refl
at-drop [] (suc n) m = refl
at-drop (x ∷ xs) zero m =
    let e : m ≡ 0 + m = omega arith in ap (slice_get (x ∷ xs)) e
at-drop (x ∷ xs) (suc n) m =
    let e : suc (n + m) ≡ suc n + m = omega arith in at-drop xs n m ∙ ap (slice_get (x ∷ xs)) e

pub at-left : (xs ys : List Chunk) (m : ℕ) → m < length xs → slice_get (xs ++ ys) m ≡ slice_get xs m
at-left [] ys m h = absurd (omega arith)
at-left (x ∷ xs) ys zero h = refl
at-left (x ∷ xs) ys (suc m) h = at-left xs ys m (omega arith)

pub at-right : (xs ys : List Chunk) (m : ℕ) → length xs ≤ m → slice_get (xs ++ ys) m ≡ slice_get ys (m - length xs)
at-right [] ys m h =
    let e : m ≡ m - 0 = omega arith in ap (slice_get ys) e
at-right (x ∷ xs) ys zero h = absurd (omega arith)
at-right (x ∷ xs) ys (suc m) h =
    let e : m - length xs ≡ suc m - suc (length xs) = omega arith in at-right xs ys m (omega arith) ∙ ap (slice_get ys) e

pub in_list_some : (start : ℕ) (xs : List Chunk) (i : ℕ) (d : Chunk) → i / 256 - start / 256 < length xs → in_list start xs i ≡ Some (number (get_or xs (i / 256 - start / 256) d).value (i % 256))
unfolding in_list
in_list_some start xs i d h = ap (λ v. in_chunk v (i % 256)) (slice_get-get_or xs (i / 256 - start / 256) d h)

pub in_list_none : (start : ℕ) (xs : List Chunk) (i : ℕ) → length xs ≤ i / 256 - start / 256 → in_list start xs i ≡ None
unfolding in_list
in_list_none start xs i h = ap (λ v. in_chunk v (i % 256)) (slice_get_past xs (i / 256 - start / 256) h)

-- two lists that hold the same at a position
pub in_list_same : (start other : ℕ) (xs ys : List Chunk) (i : ℕ) → held_in xs (i / 256 - start / 256) (i % 256) ≡ held_in ys (i / 256 - other / 256) (i % 256) → in_list start xs i ≡ in_list other ys i
unfolding in_list
in_list_same start other xs ys i e = e

-- a box with one number set
pub set_in_list : (start at i : ℕ) (xs : List Chunk) (d y : Chunk) (value : ℤ) → start ≤ at → start ≤ i → at / 256 - start / 256 < length xs → ((j : ℕ) → number y.value j ≡ cond (nat_eq j (at % 256)) value (number (get_or xs (at / 256 - start / 256) d).value j)) → in_list start (set xs (at / 256 - start / 256) y) i ≡ cond (nat_eq i at) (Some value) (in_list start xs i)
unfolding in_list
set_in_list start at i xs d y value h k l f =
    elim (cases_eq (i / 256) (at / 256)) [
      | inl e ↦
          ap (λ m. in_chunk (slice_get (set xs (at / 256 - start / 256) y) (m - start / 256)) (i % 256)) e
          ∙ ap (λ v. in_chunk v (i % 256)) (at-set xs (at / 256 - start / 256) y l)
          ∙ ap Some (f (i % 256))
          ∙ same_box e (cases_eq i at)
      | inr n ↦
          ap (λ v. in_chunk v (i % 256)) (at-set_other xs (at / 256 - start / 256) (i / 256 - start / 256) y (λ e. n (omega (arith, e, h, k))))
          ∙ sym (ap (λ b. cond b (Some value) (in_chunk (slice_get xs (i / 256 - start / 256)) (i % 256))) (ne_eqb i at (λ e. n (ap (λ m. m / 256) e))))
    ]
  where
    same_box : i / 256 ≡ at / 256 → (i ≡ at) ⊎ (i ≡ at → ⊥) → Some (cond (nat_eq (i % 256) (at % 256)) value (number (get_or xs (at / 256 - start / 256) d).value (i % 256))) ≡ cond (nat_eq i at) (Some value) (in_chunk (slice_get xs (i / 256 - start / 256)) (i % 256))
    same_box e (inl q) =
        ap (λ b. Some (cond b value (number (get_or xs (at / 256 - start / 256) d).value (i % 256)))) (eq-eqb (i % 256) (at % 256) (ap (λ m. m % 256) q))
        ∙ sym (ap (λ b. cond b (Some value) (in_chunk (slice_get xs (i / 256 - start / 256)) (i % 256))) (eq-eqb i at q))
    same_box e (inr q) =
        ap (λ b. Some (cond b value (number (get_or xs (at / 256 - start / 256) d).value (i % 256)))) (ne_eqb (i % 256) (at % 256) (λ r. q (omega (arith, e, r))))
        ∙ sym (ap (λ b. cond b (Some value) (in_chunk (slice_get xs (i / 256 - start / 256)) (i % 256))) (ne_eqb i at q)
        ∙ ap (λ m. in_chunk (slice_get xs (m - start / 256)) (i % 256)) e
        ∙ ap (λ v. in_chunk v (i % 256)) (slice_get-get_or xs (at / 256 - start / 256) d l))

-- the same in boxes from position 0 on
pub in_front_some : (xs : List Chunk) (i : ℕ) (d : Chunk) → i / 256 < length xs → in_list 0 xs i ≡ Some (number (get_or xs (i / 256) d).value (i % 256))
in_front_some xs i d = subst There index (in_list_some 0 xs i d)
  where
    There : ℕ → Type 0
    There k = k < length xs → in_list 0 xs i ≡ Some (number (get_or xs k d).value (i % 256))

    index : i / 256 - 0 / 256 ≡ i / 256
    index = omega arith

pub set_in_front : (at i : ℕ) (xs : List Chunk) (d y : Chunk) (value : ℤ) → at / 256 < length xs → ((j : ℕ) → number y.value j ≡ cond (nat_eq j (at % 256)) value (number (get_or xs (at / 256) d).value j)) → in_list 0 (set xs (at / 256) y) i ≡ cond (nat_eq i at) (Some value) (in_list 0 xs i)
set_in_front at i xs d y value = subst Set index (set_in_list 0 at i xs d y value (omega arith) (omega arith))
  where
    Set : ℕ → Type 0
    Set k = k < length xs → ((j : ℕ) → number y.value j ≡ cond (nat_eq j (at % 256)) value (number (get_or xs k d).value j)) → in_list 0 (set xs k y) i ≡ cond (nat_eq i at) (Some value) (in_list 0 xs i)

    index : at / 256 - 0 / 256 ≡ at / 256
    index = omega arith

-- the same between the ends
pub put_between : (start end at i : ℕ) (u v : Option ℤ) (value : ℤ) → start ≤ at → at < end → (start ≤ i → u ≡ cond (nat_eq i at) (Some value) v) → between start end i u ≡ cond (nat_eq i at) (Some value) (between start end i v)
put_between start end at i u v value h k f =
    elim (cases_lt i start) [
      | inl l ↦ between_before start end i u l ∙ sym (ap (λ b. cond b (Some value) (between start end i v)) (ne_eqb i at (λ e. omega (arith, e, l, h))) ∙ between_before start end i v l)
      | inr l ↦ elim (cases_lt i end) [
        | inr m ↦ between_past start end i u m ∙ sym (ap (λ b. cond b (Some value) (between start end i v)) (ne_eqb i at (λ e. omega (arith, e, m, k))) ∙ between_past start end i v m)
        | inl m ↦ between_in start end i u l m ∙ f l ∙ sym (ap (cond (nat_eq i at) (Some value)) (between_in start end i v l m))
      ]
    ]

-- what a cut leaves below
abbrev pub LowerIs : List Chunk → ℕ → ℕ → Option Chunk → Type 0
LowerIs xs idx at lower = MatchOption lower ((at % 256 ≡ 0) ⊎ (length xs ≤ idx)) (λ chunk. (idx < length xs) × ((j : ℕ) → held_in xs idx j ≡ Some (number chunk.value j)))

pub length-front : (xs : List Chunk) (n : ℕ) → n ≤ length xs → length (take n xs) ≡ n
length-front xs n h = length-take n xs ∙ omega (arith, h)

kept_held : (xs : List Chunk) (idx at k j : ℕ) (lower : Option Chunk) → idx ≤ length xs → (k ≡ idx) ⊎ (length xs ≤ k) → (k ≡ idx → idx < length xs → at % 256 ≡ 0 → ⊥) → (idx < length xs → k ≡ idx) → LowerIs xs idx at lower → in_chunk (slice_get (take idx xs ++ option_to_list lower) k) j ≡ in_chunk (slice_get xs k) j
kept_held xs idx at k j None h w f g (inl z) =
    elim (cases_lt idx (length xs)) [
      | inl l ↦ absurd (f (g l) l z)
      | inr l ↦ past l
    ]
  where
    past : length xs ≤ idx → in_chunk (slice_get (take idx xs ++ []) k) j ≡ in_chunk (slice_get xs k) j
    past l =
        ap (λ v. in_chunk v j) (at-right (take idx xs) [] k (omega (arith, length-front xs idx h, side w)) ∙ sym (slice_get_past xs k (side w)))
      where
        side : (k ≡ idx) ⊎ (length xs ≤ k) → length xs ≤ k
        side (inl e) = omega (arith, e, l)
        side (inr m) = m
kept_held xs idx at k j None h w f g (inr l) =
    ap (λ v. in_chunk v j) (at-right (take idx xs) [] k (omega (arith, length-front xs idx h, side w)) ∙ sym (slice_get_past xs k (side w)))
  where
    side : (k ≡ idx) ⊎ (length xs ≤ k) → length xs ≤ k
    side (inl e) = omega (arith, e, l)
    side (inr m) = m
kept_held xs idx at k j (Some chunk) h w f g (l, same) =
    let e : k ≡ idx = g l in
    let z : k - length (take idx xs) ≡ 0 = omega (arith, length-front xs idx h, e) in
    ap (λ v. in_chunk v j) (at-right (take idx xs) (chunk ∷ []) k (omega (arith, length-front xs idx h, e)) ∙ ap (slice_get (chunk ∷ [])) z)
    ∙ sym (same j) ∙ ap (λ m. in_chunk (slice_get xs m) j) (sym e)

pub kept_in : (start at i idx : ℕ) (xs : List Chunk) (lower : Option Chunk) → start ≤ i → i < at → idx ≡ min (at / 256 - start / 256) (length xs) → LowerIs xs idx at lower → in_list start (take idx xs ++ option_to_list lower) i ≡ in_list start xs i
kept_in start at i idx xs lower h k e low =
    elim (cases_lt (i / 256 - start / 256) idx) [
      | inl l ↦ in_list_same start start (take idx xs ++ option_to_list lower) xs i
          (ap (λ v. in_chunk v (i % 256)) (at-left (take idx xs) (option_to_list lower) (i / 256 - start / 256) (omega (arith, l, e, length-front xs idx (omega (arith, e)))) ∙ at-take xs idx (i / 256 - start / 256) l))
      | inr l ↦ in_list_same start start (take idx xs ++ option_to_list lower) xs i
          (kept_held xs idx at (i / 256 - start / 256) (i % 256) lower (omega (arith, e)) (which l) (λ q m z. omega (arith, q, m, z, e, h, k)) (λ m. omega (arith, m, l, e, h, k)) low)
    ]
  where
    which : idx ≤ i / 256 - start / 256 → (i / 256 - start / 256 ≡ idx) ⊎ (length xs ≤ i / 256 - start / 256)
    which l = elim (cases_lt idx (length xs)) [ inl m ↦ inl (omega (arith, m, l, e, h, k)) | inr m ↦ inr (omega (arith, m, l)) ]

pub kept_between : (start at end i idx : ℕ) (xs : List Chunk) (lower : Option Chunk) → at ≤ end → idx ≡ min (at / 256 - start / 256) (length xs) → LowerIs xs idx at lower → between start at i (in_list start (take idx xs ++ option_to_list lower) i) ≡ cond (nat_lt i at) (between start end i (in_list start xs i)) None
kept_between start at end i idx xs lower h e low =
    elim (cases_lt i at) [
      | inr k ↦ between_past start at i _ k ∙ sym (ap (λ b. cond b (between start end i (in_list start xs i)) None) (le-ltb i at k))
      | inl k ↦ inside k ∙ sym (ap (λ b. cond b (between start end i (in_list start xs i)) None) (lt-ltb i at k))
    ]
  where
    inside : i < at → between start at i (in_list start (take idx xs ++ option_to_list lower) i) ≡ between start end i (in_list start xs i)
    inside k = elim (cases_lt i start) [
      | inl l ↦ between_before start at i _ l ∙ sym (between_before start end i _ l)
      | inr l ↦ between_in start at i _ l k ∙ kept_in start at i idx xs lower l k e low ∙ sym (between_in start end i _ l (omega (arith, k, h)))
    ]

given_in : (start at i idx : ℕ) (xs : List Chunk) → start ≤ at → at ≤ i → idx ≡ min (at / 256 - start / 256) (length xs) → in_list at (drop idx xs) i ≡ in_list start xs i
given_in start at i idx xs h k e =
    in_list_same at start (drop idx xs) xs i (ap (λ v. in_chunk v (i % 256)) (at-drop xs idx (i / 256 - at / 256) ∙ place))
  where
    place : slice_get xs (idx + (i / 256 - at / 256)) ≡ slice_get xs (i / 256 - start / 256)
    place = elim (cases_lt (at / 256 - start / 256) (length xs)) [
      | inl m ↦ let q : idx + (i / 256 - at / 256) ≡ i / 256 - start / 256 = omega (arith, m, e, h, k) in ap (slice_get xs) q
      | inr m ↦ slice_get_past xs _ (omega (arith, m, e, h, k)) ∙ sym (slice_get_past xs _ (omega (arith, m, e, h, k)))
    ]

pub given_between : (start at end i idx : ℕ) (xs : List Chunk) → start ≤ at → idx ≡ min (at / 256 - start / 256) (length xs) → between at end i (in_list at (drop idx xs) i) ≡ cond (nat_lt i at) None (between start end i (in_list start xs i))
given_between start at end i idx xs h e =
    elim (cases_lt i at) [
      | inl k ↦ between_before at end i _ k ∙ sym (ap (λ b. cond b None (between start end i (in_list start xs i))) (lt-ltb i at k))
      | inr k ↦ inside k ∙ sym (ap (λ b. cond b None (between start end i (in_list start xs i))) (le-ltb i at k))
    ]
  where
    inside : at ≤ i → between at end i (in_list at (drop idx xs) i) ≡ between start end i (in_list start xs i)
    inside k = elim (cases_lt i end) [
      | inl l ↦ between_in at end i _ k l ∙ given_in start at i idx xs h k e ∙ sym (between_in start end i _ (omega (arith, h, k)) l)
      | inr l ↦ between_past at end i _ l ∙ sym (between_past start end i _ l)
    ]

pub between_nothing : (low high i : ℕ) (v : Option ℤ) → high ≤ low → between low high i v ≡ None
between_nothing low high i v h = elim (cases_lt i low) [ inl k ↦ between_before low high i v k | inr k ↦ between_past low high i v (omega (arith, h, k)) ]

-- a run of cells and one that goes on where it ends
pub joined_between : (start mid end i : ℕ) (u v w : Option ℤ) → start ≤ mid → mid ≤ end → (start ≤ i → i < mid → u ≡ v) → (mid ≤ i → u ≡ w) → (between start end i u ≡ or_else (between start mid i v) (between mid end i w)) × (count (between start end i u) ≡ count (between start mid i v) + count (between mid end i w))
joined_between start mid end i u v w h k f g =
    elim (cases_lt i mid) [
      | inl l ↦ let none = between_before mid end i w l in (
        lower l ∙ sym (or_else-none (between start mid i v)) ∙ ap (or_else (between start mid i v)) (sym none),
        omega (arith, ap count (lower l), ap count none),
      )
      | inr l ↦ let none = between_past start mid i v l in (
        upper l ∙ ap (λ o. or_else o (between mid end i w)) (sym none),
        omega (arith, ap count (upper l), ap count none),
      )
    ]
  where
    lower : i < mid → between start end i u ≡ between start mid i v
    lower l = elim (cases_lt i start) [
      | inl m ↦ between_before start end i u m ∙ sym (between_before start mid i v m)
      | inr m ↦ between_in start end i u m (omega (arith, l, k)) ∙ f m l ∙ sym (between_in start mid i v m l)
    ]

    upper : mid ≤ i → between start end i u ≡ between mid end i w
    upper l = elim (cases_lt i end) [
      | inl m ↦ between_in start end i u (omega (arith, h, l)) m ∙ g l ∙ sym (between_in mid end i w l m)
      | inr m ↦ between_past start end i u m ∙ sym (between_past mid end i w m)
    ]

-- boxes behind others, where the lower ones end between two
pub next_below : (start end i : ℕ) (xs ys : List Chunk) → start ≤ i → i < end → end ≤ (start / 256 + length xs) * 256 → in_list start (xs ++ ys) i ≡ in_list start xs i
next_below start end i xs ys h k l =
    in_list_same start start (xs ++ ys) xs i (ap (λ v. in_chunk v (i % 256)) (at-left xs ys (i / 256 - start / 256) (omega (arith, h, k, l))))

pub next_above : (start end i : ℕ) (xs ys : List Chunk) → start ≤ end → end ≤ i → end / 256 - start / 256 ≡ length xs → in_list start (xs ++ ys) i ≡ in_list end ys i
next_above start end i xs ys h k l =
    in_list_same start end (xs ++ ys) ys i (ap (λ v. in_chunk v (i % 256)) (at-right xs ys (i / 256 - start / 256) (omega (arith, h, k, l)) ∙ place))
  where
    place : slice_get ys (i / 256 - start / 256 - length xs) ≡ slice_get ys (i / 256 - end / 256)
    place = let e : i / 256 - start / 256 - length xs ≡ i / 256 - end / 256 = omega (arith, h, k, l) in ap (slice_get ys) e

-- the first upper box with lower cells in it
pub blended_above : (end i : ℕ) (ys : List Chunk) (d y : Chunk) → 0 < length ys → end ≤ i → ((j : ℕ) → end % 256 ≤ j → number y.value j ≡ number (get_or ys 0 d).value j) → in_list end (set ys 0 y) i ≡ in_list end ys i
blended_above end i ys d y h k f =
    in_list_same end end (set ys 0 y) ys i (elim (cases_eq (i / 256 - end / 256) 0) [
      | inl e ↦
          ap (λ m. in_chunk (slice_get (set ys 0 y) m) (i % 256)) e ∙ ap (λ v. in_chunk v (i % 256)) (at-set ys 0 y h)
          ∙ ap Some (f (i % 256) (omega (arith, e, k)))
          ∙ sym (ap (λ v. in_chunk v (i % 256)) (slice_get-get_or ys 0 d h))
          ∙ sym (ap (λ m. in_chunk (slice_get ys m) (i % 256)) e)
      | inr n ↦ ap (λ v. in_chunk v (i % 256)) (at-set_other ys 0 (i / 256 - end / 256) y (λ e. n (sym e)))
    ])

pub blended_below : (start end i : ℕ) (xs ys : List Chunk) (c d y : Chunk) → start ≤ i → i < end → 0 < end % 256 → length xs ≡ end / 256 - start / 256 + 1 → 0 < length ys → ((j : ℕ) → j < end % 256 → number y.value j ≡ number (get_or xs (end / 256 - start / 256) c).value j) → in_list start (take (end / 256 - start / 256) xs ++ set ys 0 y) i ≡ in_list start xs i
blended_below start end i xs ys c d y h k z l m f =
    let n : length (take (end / 256 - start / 256) xs) ≡ end / 256 - start / 256 = length-front xs _ (omega (arith, l)) in
    in_list_same start start (take (end / 256 - start / 256) xs ++ set ys 0 y) xs i (elim (cases_lt (i / 256 - start / 256) (end / 256 - start / 256)) [
      | inl q ↦ ap (λ v. in_chunk v (i % 256)) (at-left (take (end / 256 - start / 256) xs) (set ys 0 y) (i / 256 - start / 256) (omega (arith, q, n)) ∙ at-take xs _ _ q)
      | inr q ↦
          let e : i / 256 - start / 256 ≡ end / 256 - start / 256 = omega (arith, q, h, k) in
          let zero_at : i / 256 - start / 256 - length (take (end / 256 - start / 256) xs) ≡ 0 = omega (arith, n, e) in
          ap (λ v. in_chunk v (i % 256)) (at-right (take (end / 256 - start / 256) xs) (set ys 0 y) (i / 256 - start / 256) (omega (arith, q, n)) ∙ ap (slice_get (set ys 0 y)) zero_at ∙ at-set ys 0 y m)
          ∙ ap Some (f (i % 256) (omega (arith, q, h, k, z)))
          ∙ sym (ap (λ v. in_chunk v (i % 256)) (slice_get-get_or xs (end / 256 - start / 256) c (omega (arith, l))))
          ∙ sym (ap (λ v. in_chunk (slice_get xs v) (i % 256)) e)
    ])

some_held : (xs : List Chunk) (k j : ℕ) → k < length xs → IsSome (in_chunk (slice_get xs k) j)
some_held [] k j h = absurd (omega arith)
some_held (x ∷ xs) zero j h = refl
some_held (x ∷ xs) (suc k) j h = some_held xs k j (omega arith)

some_in_list : (start i : ℕ) (xs : List Chunk) → i / 256 - start / 256 < length xs → IsSome (in_list start xs i)
unfolding in_list
some_in_list start i xs h = some_held xs (i / 256 - start / 256) (i % 256) h

-- a position between the ends that has a box
pub chunks_some : (start end i : ℕ) (xs : List Chunk) → start ≤ i → i < end → i / 256 - start / 256 < length xs → IsSome (between start end i (in_list start xs i))
chunks_some start end i xs h k l = subst IsSome (sym (between_in start end i _ h k)) (some_in_list start i xs l)

-- a part of the boxes
pub copied_in : (start other last i : ℕ) (xs cs : List Chunk) (from to : ℕ) → start ≤ other → other ≤ i → i ≤ last → from ≡ min (other / 256 - start / 256) (length xs) → to ≡ min (last / 256 - start / 256 + 1) (length xs) → ((k j : ℕ) → held_in cs k j ≡ held_in (take (to - from) (drop from xs)) k j) → in_list other cs i ≡ in_list start xs i
copied_in start other last i xs cs from to h k l e f same =
    in_list_same other start cs xs i (same (i / 256 - other / 256) (i % 256) ∙ ap (λ v. in_chunk v (i % 256)) place)
  where
    short : (to - from ≤ i / 256 - other / 256) → length (take (to - from) (drop from xs)) ≤ i / 256 - other / 256
    short q = omega (arith, q, length-take (to - from) (drop from xs))

    place : slice_get (take (to - from) (drop from xs)) (i / 256 - other / 256) ≡ slice_get xs (i / 256 - start / 256)
    place = elim (cases_lt (i / 256 - start / 256) (length xs)) [
      | inl m ↦
          let q : from + (i / 256 - other / 256) ≡ i / 256 - start / 256 = omega (arith, h, k, l, e, m) in
          at-take (drop from xs) (to - from) (i / 256 - other / 256) (omega (arith, h, k, l, e, f, m)) ∙ at-drop xs from (i / 256 - other / 256) ∙ ap (slice_get xs) q
      | inr m ↦ slice_get_past (take (to - from) (drop from xs)) (i / 256 - other / 256) (short (omega (arith, h, k, l, e, f, m))) ∙ sym (slice_get_past xs (i / 256 - start / 256) m)
    ]

-- between the inner ends of two
pub between_both : (low high start end i : ℕ) (u v : Option ℤ) → (max low start ≤ i → i < min high end → u ≡ v) → between (max low start) (min high end) i u ≡ between low high i (between start end i v)
between_both low high start end i u v f =
    elim (cases_lt i low) [
      | inl h ↦ between_before (max low start) (min high end) i u (omega (arith, h)) ∙ sym (between_before low high i _ h)
      | inr h ↦ elim (cases_lt i high) [
        | inr k ↦ between_past_max (omega (arith, k)) ∙ sym (between_past low high i _ k)
        | inl k ↦ elim (cases_lt i start) [
          | inl l ↦ between_before (max low start) (min high end) i u (omega (arith, l)) ∙ sym (nowhere (between_before start end i v l))
          | inr l ↦ elim (cases_lt i end) [
            | inr m ↦ between_past_max (omega (arith, m)) ∙ sym (nowhere (between_past start end i v m))
            | inl m ↦
                between_in (max low start) (min high end) i u (omega (arith, h, l)) (omega (arith, k, m)) ∙ f (omega (arith, h, l)) (omega (arith, k, m))
                ∙ sym (between_in low high i _ h k ∙ between_in start end i v l m)
          ]
        ]
      ]
    ]
  where
    between_past_max : min high end ≤ i → between (max low start) (min high end) i u ≡ None
    between_past_max = between_past (max low start) (min high end) i u

    nowhere : between start end i v ≡ None → between low high i (between start end i v) ≡ None
    nowhere e = ap (between low high i) e ∙ between_none low high i

-- the boxes filled so far, and one more
pub filled_more : (start done n i : ℕ) (xs : List Chunk) (c : Chunk) (cells : List ℤ) → length xs ≡ (start + done) / 256 - start / 256 → (0 < done → (start + done) % 256 ≡ 0) → (start + done) % 256 + n ≤ 256 → ((j : ℕ) → j < n → number c.value ((start + done) % 256 + j) ≡ number cells (done + j)) → (i < start + done → in_list start xs i ≡ Some (number cells (i - start))) → start ≤ i → i < start + (done + n) → in_list start (xs ++ c ∷ []) i ≡ Some (number cells (i - start))
unfolding in_list
filled_more start done n i xs c cells e a room f before h k =
    elim (cases_lt i (start + done)) [
      | inl l ↦ in_list_same start start (xs ++ c ∷ []) xs i (ap (λ v. in_chunk v (i % 256)) (at-left xs (c ∷ []) (i / 256 - start / 256) (omega (arith, e, h, l, a (omega (arith, h, l)))))) ∙ before l
      | inr l ↦ here l
    ]
  where
    here : start + done ≤ i → in_list start (xs ++ c ∷ []) i ≡ Some (number cells (i - start))
    here l =
        let z : i / 256 - start / 256 - length xs ≡ 0 = omega (arith, e, h, k, l, room) in
        let q : i % 256 ≡ (start + done) % 256 + (i - (start + done)) = omega (arith, k, l, room) in
        let r : done + (i - (start + done)) ≡ i - start = omega (arith, l) in
        ap (λ v. in_chunk v (i % 256)) (at-right xs (c ∷ []) (i / 256 - start / 256) (omega (arith, e, h, l)) ∙ ap (slice_get (c ∷ [])) z)
        ∙ ap (λ j. Some (number c.value j)) q
        ∙ ap Some (f (i - (start + done)) (omega (arith, k, l)) ∙ ap (number cells) r)

-- all boxes filled
pub filled : (start end i : ℕ) (xs : List Chunk) (cells : List ℤ) → end ≡ start + length cells → (start ≤ i → i < end → in_list start xs i ≡ Some (number cells (i - start))) → between start end i (in_list start xs i) ≡ slot start cells i
filled start end i xs cells e f =
    elim (cases_lt i start) [
      | inl h ↦ between_before start end i _ h ∙ sym (slot_before start cells i h)
      | inr h ↦ elim (cases_lt i end) [
        | inr k ↦ between_past start end i _ k ∙ sym (slot_past start cells i (omega (arith, e, k)))
        | inl k ↦ between_in start end i _ h k ∙ f h k ∙ sym (slot_inside start cells i (pos 0) h (omega (arith, e, k)))
      ]
    ]
