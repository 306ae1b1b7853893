-- Cells that are all here below a position, so that they are found with no test.
use Rattle.std.proofs.Common.{◌≡◌, ℕ, ◌*◌, ◌/◌, ◌%◌, ◌<◌, ◌≤◌, inl, inr, true, false, cond, List, [], ◌∷◌}
use Rattle.std.proofs.Common.{Option, None, Some, sym, ◌∙◌, ap, subst, arith, is_some, length, get_or}
use Rattle.std.proofs.lemmas.Bool.{cases_eq, eq-eqb, ne_eqb, false≢true}
use Rattle.std.specs.Prelude.{ℤ, pos, IsSome, nat_eq}
use Rattle.std.specs.Arc.{arc_value}
use Rattle.slices.specs.Spans.{count, span_at, spans_at, slot, between, in_list, or_else, number}
use Rattle.slices.specs.Spans.{HasAll}
use Rattle.slices.specs.declared.stretches.Stretch.{Stretch}
use Rattle.slices.specs.declared.chunks.Chunks.{Chunks}
use Rattle.slices.specs.declared.spans.Span.{Span}
use Rattle.slices.specs.declared.spans.Span.TheVariants.{Flat, Cut}
use Rattle.slices.specs.Stored.{store_at, is_open, full_span, HasBelow, IsSound}
use Rattle.slices.specs.declared.full.Full.{Full}
use Rattle.slices.specs.declared.store.Store.{Store}
use Rattle.slices.specs.declared.store.Store.TheVariants.{Whole, Boxed, Parted}
use Rattle.slices.specs.declared.store.Parts.TheVariants.{Owned, Shared}
use Rattle.slices.specs.declared.store.First.TheVariants as first
use Rattle.std.proofs.lemmas.Option.{slice_get-get_or}
use Rattle.slices.proofs.Slots.{slot-zero, between_in}
use Rattle.slices.proofs.Flats.{flat_within}
use Rattle.slices.proofs.Places.{Chunk, chunks_some, in_front_some}
use Rattle.slices.proofs.SpanLists.{or_else-none, count_some}

all_less : (m n : ℕ) (s : Span) → m ≤ n → HasAll n s → HasAll m s
all_less m n (Flat stretch) h (e, k) = (e, omega (arith, h, k))
all_less m n (Cut chunks) h (e, k, l) = (e, omega (arith, h, k), omega (arith, h, l))

pub sound_less : (m n : ℕ) (s : Store) → m ≤ n → IsSound n s → IsSound m s
sound_less m n (Whole cells) h k = omega (arith, h, k)
sound_less m n (Boxed full) h (k, l) = (omega (arith, h, k), omega (arith, h, l))
sound_less m n (Parted (Owned pieces)) h k = tt
sound_less m n (Parted (Shared pieces first.Open)) h k = tt
sound_less m n (Parted (Shared pieces first.Flat)) h (f, k) = (f, all_less m n (arc_value pieces).first h k)
sound_less m n (Parted (Shared pieces first.Boxed)) h (f, k) = (f, all_less m n (arc_value pieces).first h k)

pub open_sound : (n : ℕ) (s : Store) → is_open s ≡ true → IsSound n s
open_sound n (Whole cells) e = absurd (false≢true e)
open_sound n (Boxed full) e = absurd (false≢true e)
open_sound n (Parted (Owned pieces)) e = tt
open_sound n (Parted (Shared pieces first.Open)) e = tt
open_sound n (Parted (Shared pieces first.Flat)) e = absurd (false≢true e)
open_sound n (Parted (Shared pieces first.Boxed)) e = absurd (false≢true e)

pub boxed_there : (n : ℕ) (full : Full) (i : ℕ)
    → HasBelow n full
    → i < n
    → IsSome (spans_at (full_span full ∷ []) i)
boxed_there n full i (h, k) l =
    subst IsSome (sym (or_else-none _))
    (chunks_some 0 full.end i full.list.items (omega arith) (omega (arith, h, l))
    (omega (arith, k, l)))

-- a flat span from position 0 on
pub flat_there : (s : Stretch) (i : ℕ) (d : ℤ)
    → s.start ≡ 0
    → i < length s.cells.items
    → span_at (Flat s) i ≡ Some (get_or s.cells.items i d)
flat_there s i d e h =
    ap (λ z. slot z s.cells.items i) e
    ∙ slot-zero s.cells.items i
    ∙ slice_get-get_or s.cells.items i d h

-- boxes from position 0 on
pub cut_there : (chunks : Chunks) (i : ℕ) (d : Chunk)
    → chunks.start ≡ 0
    → i < chunks.end
    → i < 256 * length chunks.list.items
    → span_at (Cut chunks) i
    ≡ Some (number (get_or chunks.list.items (i / 256) d).value (i % 256))
cut_there chunks i d e h k =
    ap (λ z. between z chunks.end i (in_list z chunks.list.items i)) e
    ∙ between_in 0 chunks.end i _ (omega arith) h
    ∙ in_front_some chunks.list.items i d (omega (arith, k))

-- a span that has all cells below a position
pub all_there : (n : ℕ) (s : Span) (i : ℕ) → HasAll n s → i < n → IsSome (span_at s i)
all_there n (Flat stretch) i (e, h) k =
    ap is_some (flat_there stretch i (pos 0) e (omega (arith, h, k, stretch.cells.ok.0)))
all_there n (Cut chunks) i (e, h, l) k =
    subst (λ z. IsSome (between z chunks.end i (in_list z chunks.list.items i))) (sym e)
    (chunks_some 0 chunks.end i chunks.list.items (omega arith) (omega (arith, h, k))
    (omega (arith, k, l)))

-- the same among others
pub first_there : (n : ℕ) (s : Span) (rest : List Span) (i : ℕ)
    → HasAll n s
    → i < n
    → IsSome (spans_at (s ∷ rest) i)
first_there n s rest i h k = or_else_there (span_at s i) (spans_at rest i) (all_there n s i h k)
  where
    or_else_there : (u v : Option ℤ) → IsSome u → IsSome (or_else u v)
    or_else_there None v t = absurd (false≢true t)
    or_else_there (Some x) v t = t

pub sound_there : (n : ℕ) (s : Store) (i : ℕ)
    → is_open s ≡ false
    → IsSound n s
    → i < n
    → IsSome (store_at s i)
sound_there n (Whole cells) i e h k =
    ap is_some (flat_within cells i (pos 0) (omega (arith, h, k, cells.ok.0)))
sound_there n (Boxed full) i e h k = boxed_there n full i h k
sound_there n (Parted (Owned pieces)) i e h k = absurd (false≢true (sym e))
sound_there n (Parted (Shared pieces first.Open)) i e h k = absurd (false≢true (sym e))
sound_there n (Parted (Shared pieces first.Flat)) i e (f, h) k =
    first_there n (arc_value pieces).first (arc_value pieces).more.items i h k
sound_there n (Parted (Shared pieces first.Boxed)) i e (f, h) k =
    first_there n (arc_value pieces).first (arc_value pieces).more.items i h k

-- a number that is set was there
pub count_set : (at i : ℕ) (value : ℤ) (u v : Option ℤ)
    → u ≡ cond (nat_eq i at) (Some value) v
    → (i ≡ at → IsSome v)
    → count u ≡ count v
count_set at i value u v e h =
    elim (cases_eq i at) [
      | inl q ↦
          ap count (e ∙ ap (λ b. cond b (Some value) v) (eq-eqb i at q)) ∙ sym (count_some v (h q))
      | inr n ↦ ap count (e ∙ ap (λ b. cond b (Some value) v) (ne_eqb i at n))
    ]
