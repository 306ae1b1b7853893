-- Where a span begins.
use Rattle.std.proofs.Common.{◌≡◌, ℕ, ◌-◌, ◌/◌, ◌<◌, ◌≤◌, ◌⊎◌, inl, inr, max, cond, length, None}
use Rattle.std.proofs.Common.{sym, ◌∙◌, ap, subst, arith}
use Rattle.std.proofs.lemmas.Bool.{cases_lt, false≢true, lt-ltb, le-ltb}
use Rattle.std.specs.Prelude.{IsSome, nat_lt}
use Rattle.slices.specs.Spans.{span_at, span_start, between}
use Rattle.slices.specs.declared.spans.Span.{Span}
use Rattle.slices.specs.declared.spans.Span.TheVariants.{Flat, Cut}
use Rattle.slices.proofs.Slots.{slot_before, slot_reaches, slot_some, between_before, between_past}
use Rattle.slices.proofs.Slots.{between_none}
use Rattle.slices.proofs.Places.{in_list_none, chunks_some}

pub before_start : (s : Span) (i : ℕ) → i < span_start s → span_at s i ≡ None
before_start (Flat stretch) i h = slot_before stretch.start stretch.cells.items i h
before_start (Cut chunks) i h = between_before chunks.start chunks.end i _ h

-- nothing is missing between its beginning and a position that it reaches
pub reaches_from_start : (s : Span) (j i : ℕ) → span_start s ≤ j → j ≤ i → IsSome (span_at s i) → IsSome (span_at s j)
reaches_from_start (Flat stretch) j i h k t =
    let r = slot_reaches stretch.start stretch.cells.items i t in
    slot_some stretch.start stretch.cells.items j h (omega (arith, k, r.1))
reaches_from_start (Cut chunks) j i h k t =
    elim (cases_lt i chunks.end) [
      | inr m ↦ absurd (false≢true (subst IsSome (between_past chunks.start chunks.end i _ m) t))
      | inl m ↦ elim (cases_lt (i / 256 - chunks.start / 256) (length chunks.list.items)) [
        | inr n ↦ absurd (false≢true (subst IsSome (ap (between chunks.start chunks.end i) (in_list_none chunks.start chunks.list.items i n) ∙ between_none chunks.start chunks.end i) t))
        | inl n ↦ chunks_some chunks.start chunks.end j chunks.list.items h (omega (arith, k, m)) (omega (arith, k, n))
      ]
    ]

from_start : (s : Span) (i : ℕ) → IsSome (span_at s i) → span_start s ≤ i
from_start s i t = elim (cases_lt i (span_start s)) [ inl h ↦ absurd (false≢true (subst IsSome (before_start s i h) t)) | inr h ↦ h ]

-- two spans of which one has no cell where the later begins
pub never_meet : (s t : Span) (low : ℕ) → low ≡ max (span_start s) (span_start t) → (span_at s low ≡ None) ⊎ (span_at t low ≡ None) → (i : ℕ) → IsSome (span_at s i) → IsSome (span_at t i) → ⊥
never_meet s t low e (inl n) i a b = false≢true (subst IsSome n (reaches_from_start s low i (omega (arith, e)) (omega (arith, e, from_start s i a, from_start t i b)) a))
never_meet s t low e (inr n) i a b = false≢true (subst IsSome n (reaches_from_start t low i (omega (arith, e)) (omega (arith, e, from_start s i a, from_start t i b)) b))

-- a span that begins at a position or after it
pub moved_kept : (s : Span) (at i : ℕ) → at ≤ span_start s → None ≡ cond (nat_lt i at) (span_at s i) None
moved_kept s at i h =
    elim (cases_lt i at) [
      | inl k ↦ sym (ap (λ b. cond b (span_at s i) None) (lt-ltb i at k) ∙ before_start s i (omega (arith, h, k)))
      | inr k ↦ sym (ap (λ b. cond b (span_at s i) None) (le-ltb i at k))
    ]

pub moved_given : (s : Span) (at i : ℕ) → at ≤ span_start s → span_at s i ≡ cond (nat_lt i at) None (span_at s i)
moved_given s at i h =
    elim (cases_lt i at) [
      | inl k ↦ before_start s i (omega (arith, h, k)) ∙ sym (ap (λ b. cond b None (span_at s i)) (lt-ltb i at k))
      | inr k ↦ sym (ap (λ b. cond b None (span_at s i)) (le-ltb i at k))
    ]
