-- The pieces of one value, owned by it or shared with others.
use Rattle.std.specs.Prelude.{◌≡◌, ◌≤◌, ◌*◌, ℤ, ℕ, Bool, true, false, Option, List, [], ◌∷◌, length}
use Rattle.std.specs.Prelude.{⊤}
use Rattle.std.specs.Arc.{arc_value}
use Rattle.std.specs.Vec.{vec_len}
use Rattle.slices.specs.Spans.{spans_at, holders, flat_span, is_flat, HasAll}
use Rattle.slices.specs.Pieces.{spans_of}
use Rattle.slices.specs.declared.full.Full.{Full}
use Rattle.slices.specs.declared.spans.Span.{Span}
use Rattle.slices.specs.declared.spans.Span.TheVariants.{Cut}
use Rattle.slices.specs.declared.store.Store.{Store}
use Rattle.slices.specs.declared.store.Store.TheVariants.{Whole, Boxed, Parted}
use Rattle.slices.specs.declared.store.Parts.TheVariants.{Owned, Shared}
use Rattle.slices.specs.declared.store.First.TheVariants as first

-- boxes from the table's first position on, as a span
abbrev pub full_span : Full → Span
full_span full = Cut (record { start = 0; end = full.end; list = full.list })

-- the boxes have all cells below a position
abbrev pub HasBelow : ℕ → Full → Type 0
HasBelow n full = (n ≤ full.end) × (n ≤ 256 * length full.list.items)

abbrev pub stored : Store → List Span
stored (Whole cells) = flat_span cells ∷ []
stored (Boxed full) = full_span full ∷ []
stored (Parted (Owned pieces)) = spans_of pieces
stored (Parted (Shared pieces known)) = spans_of (arc_value pieces)

-- how many spans it has beside the first
abbrev pub further_spans : Store → ℕ
further_spans (Whole cells) = 0
further_spans (Boxed full) = 0
further_spans (Parted (Owned pieces)) = vec_len pieces.more
further_spans (Parted (Shared pieces known)) = vec_len (arc_value pieces).more

abbrev pub store_at : Store → ℕ → Option ℤ
store_at store i = spans_at (stored store) i

abbrev pub reaching_in : Store → ℕ → ℕ
reaching_in store i = holders (stored store) i

abbrev pub is_owned : Store → Bool
is_owned (Whole cells) = true
is_owned (Boxed full) = true
is_owned (Parted (Owned pieces)) = true
is_owned (Parted (Shared pieces known)) = false

-- the cells are in pieces, of which none is known to have all
abbrev pub is_open : Store → Bool
is_open (Whole cells) = false
is_open (Boxed full) = false
is_open (Parted (Owned pieces)) = true
is_open (Parted (Shared pieces first.Flat)) = false
is_open (Parted (Shared pieces first.Boxed)) = false
is_open (Parted (Shared pieces first.Open)) = true

-- one span has all cells below a position, flat or in boxes
abbrev pub IsAll : ℕ → Bool → Span → Type 0
IsAll n flat span = (is_flat span ≡ flat) × HasAll n span

-- cells that are not in such pieces are all here below a position, so that they are found with no
-- test
abbrev pub IsSound : ℕ → Store → Type 0
IsSound n (Whole cells) = n ≤ vec_len cells
IsSound n (Boxed full) = HasBelow n full
IsSound n (Parted (Owned pieces)) = ⊤
IsSound n (Parted (Shared pieces first.Flat)) = IsAll n true (arc_value pieces).first
IsSound n (Parted (Shared pieces first.Boxed)) = IsAll n false (arc_value pieces).first
IsSound n (Parted (Shared pieces first.Open)) = ⊤

-- the same cells, owned or shared as before
pub record SameStored (old new : Store) : Type 0 where
  pub cells : (i : ℕ) → store_at new i ≡ store_at old i
  pub reaching : (i : ℕ) → reaching_in new i ≡ reaching_in old i
  pub owned : is_owned new ≡ is_owned old
