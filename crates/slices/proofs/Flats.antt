-- What one flat span that begins at position 0 holds at a position.
use Rattle.std.proofs.Common.{◌≡◌, ℕ, ◌+◌, ◌-◌, ◌<◌, ◌≤◌, inl, inr, Bool, cond, is_some, [], ◌∷◌}
use Rattle.std.proofs.Common.{length, set, get_or, Option, None, Some, sym, ◌∙◌, ap, subst}
use Rattle.std.proofs.Common.{arith}
use Rattle.std.proofs.lemmas.Option.{slice_get-get_or, slice_get_past}
use Rattle.std.proofs.lemmas.Bool.{cases_lt, cases_eq, eq-eqb, ne_eqb, lt-leb, le-leb}
use Rattle.std.specs.Bool.{OnTrue, OnFalse}
use Rattle.std.specs.Prelude.{ℤ, pos, Vec, IsSome, nat_eq, nat_le}
use Rattle.std.specs.Global.{Global}
use Rattle.slices.specs.Spans.{flat_span, slot, count, spans_at, holders, AreApart}
use Rattle.slices.proofs.Slots.{slot-zero, slot-set}
use Rattle.slices.proofs.SpanLists.{or_else-none}
use Rattle.slices.proofs.Cuts.{holders_none}

abbrev Cells : Type 0
Cells = Vec ℤ Global

pub flat_within : (cells : Cells) (i : ℕ) (d : ℤ)
    → i < length cells.items
    → spans_at (flat_span cells ∷ []) i ≡ Some (get_or cells.items i d)
flat_within cells i d h =
    or_else-none _ ∙ slot-zero cells.items i ∙ slice_get-get_or cells.items i d h

pub flat_past : (cells : Cells) (i : ℕ)
    → length cells.items ≤ i
    → spans_at (flat_span cells ∷ []) i ≡ None
flat_past cells i h = or_else-none _ ∙ slot-zero cells.items i ∙ slice_get_past cells.items i h

flat_slot : (cells new : Cells) (at i : ℕ) (value : ℤ)
    → at < length cells.items
    → new.items ≡ set cells.items at value
    → slot 0 new.items i ≡ cond (nat_eq i at) (Some value) (slot 0 cells.items i)
flat_slot cells new at i value h e =
    ap (λ xs. slot 0 xs i) e
    ∙ subst Set t (slot-set 0 cells.items at i value (omega arith) (omega (arith, h)))
  where
    Set : ℕ → Type 0
    Set k =
        slot 0 (set cells.items k value) i
        ≡ cond (nat_eq i at) (Some value) (slot 0 cells.items i)

    t : at - 0 ≡ at
    t = omega arith

pub flat_set : (cells new : Cells) (at i : ℕ) (value : ℤ)
    → at < length cells.items
    → new.items ≡ set cells.items at value
    → spans_at (flat_span new ∷ []) i
    ≡ cond (nat_eq i at) (Some value) (spans_at (flat_span cells ∷ []) i)
flat_set cells new at i value h e =
    or_else-none _
    ∙ flat_slot cells new at i value h e
    ∙ ap (λ v. cond (nat_eq i at) (Some value) v) (sym (or_else-none (slot 0 cells.items i)))

-- a number that is set was there
pub flat_count : (cells new : Cells) (at i : ℕ) (value : ℤ)
    → at < length cells.items
    → new.items ≡ set cells.items at value
    → holders (flat_span new ∷ []) i ≡ holders (flat_span cells ∷ []) i
flat_count cells new at i value h e =
    ap (λ v. count v + 0) (flat_slot cells new at i value h e)
    ∙ elim (cases_eq i at) [
      | inl q ↦ ap counted (eq-eqb i at q) ∙ sym (ap (λ v. count v + 0) (there q))
      | inr n ↦ ap counted (ne_eqb i at n)
    ]
  where
    counted : Bool → ℕ
    counted b = count (cond b (Some value) (slot 0 cells.items i)) + 0

    there : i ≡ at → slot 0 cells.items i ≡ Some (get_or cells.items i (pos 0))
    there q =
        slot-zero cells.items i ∙ slice_get-get_or cells.items i (pos 0) (omega (arith, h, q))

-- whether each of the first n positions is there
pub flat_full : (n len : ℕ) (cells : Cells)
    → len ≡ length cells.items
    → OnTrue (nat_le n len) ((i : ℕ) → i < n → IsSome (spans_at (flat_span cells ∷ []) i))
    × OnFalse (nat_le n len) ((i : ℕ) × (i < n) × (spans_at (flat_span cells ∷ []) i ≡ None))
flat_full n len cells e =
    elim (cases_lt len n) [
      | inl h ↦
          subst Told (sym (lt-leb n len h)) (tt, (len, h, flat_past cells len (omega (arith, e))))
      | inr h ↦ subst Told (sym (le-leb n len h)) (λ i k. ap (λ v. is_some v) (all h i k), tt)
    ]
  where
    Told : Bool → Type 0
    Told b =
        OnTrue b ((i : ℕ) → i < n → IsSome (spans_at (flat_span cells ∷ []) i))
        × OnFalse b ((i : ℕ) × (i < n) × (spans_at (flat_span cells ∷ []) i ≡ None))

    all : n ≤ len
        → (i : ℕ)
        → i < n
        → spans_at (flat_span cells ∷ []) i ≡ Some (get_or cells.items i (pos 0))
    all h i k = flat_within cells i (pos 0) (omega (arith, e, h, k))

pub flat_apart : (n : ℕ) (cells : Cells)
    → length cells.items ≤ n
    → AreApart n (flat_span cells ∷ [])
flat_apart n cells h i = (
  one (slot 0 cells.items i),
  λ k. holders_none (flat_span cells ∷ []) i (flat_past cells i (omega (arith, h, k))),
)
  where
    one : (v : Option ℤ) → count v + 0 ≤ 1
    one None = omega arith
    one (Some x) = omega arith
