-- Cells kept in stretches that follow one another row by row, each counted from its first position.
use Rattle.std.specs.Prelude.{◌≡◌, ℕ, ◌+◌, ◌-◌, ◌/◌, ◌%◌, ◌≤◌, nat_le, nat_lt, ◌&&◌, if◌then◌else◌}
use Rattle.std.specs.Prelude.{ℤ, pos, Option, None, Some, List, [], ◌∷◌, slice_get, slice_index_or}
use Rattle.std.specs.Prelude.{Box, Vec, Bool, true, false, length, ◌*◌}
use Rattle.std.specs.Vec.{vec_len}
use Rattle.std.specs.Global.{Global}
use Rattle.slices.specs.declared.stretches.Stretch.{Stretch}
use Rattle.slices.specs.declared.chunks.Chunks.{Chunks}
use Rattle.slices.specs.declared.spans.Span.{Span}
use Rattle.slices.specs.declared.spans.Span.TheVariants.{Flat, Cut}

-- the number at a position of a list that is counted from `start`
unfoldable pub slot : ℕ → List ℤ → ℕ → Option ℤ
slot start numbers i = if nat_le start i then slice_get numbers (i - start) else None

-- the first number that is there
abbrev pub or_else : Option ℤ → Option ℤ → Option ℤ
or_else None other = other
or_else (Some number) other = Some number

-- 1 where a number is there
abbrev pub count : Option ℤ → ℕ
count None = 0
count (Some number) = 1

-- a value at the positions from `low` to `high`, the latter not included
abbrev pub between : ℕ → ℕ → ℕ → Option ℤ → Option ℤ
between low high i value = if nat_le low i && nat_lt i high then value else None

-- what a flat stretch holds at a position
abbrev pub stretch_at : Stretch → ℕ → Option ℤ
stretch_at stretch i = slot stretch.start stretch.cells.items i

-- the number at an index of a box
abbrev pub number : List ℤ → ℕ → ℤ
number numbers j = slice_index_or numbers j (pos 0)

-- the number at an index of a box that may be there
abbrev pub in_chunk : Option (Box (List ℤ) Global) → ℕ → Option ℤ
in_chunk None j = None
in_chunk (Some chunk) j = Some (number chunk.value j)

-- the number at an index of the k-th box
abbrev pub held_in : List (Box (List ℤ) Global) → ℕ → ℕ → Option ℤ
held_in list k j = in_chunk (slice_get list k) j

-- the number at a position in boxes, of which the first has position `start`
unfoldable pub in_list : ℕ → List (Box (List ℤ) Global) → ℕ → Option ℤ
in_list start list i = held_in list (i / 256 - start / 256) (i % 256)

-- what cells in boxes hold at a position
abbrev pub chunks_at : Chunks → ℕ → Option ℤ
chunks_at chunks i = between chunks.start chunks.end i (in_list chunks.start chunks.list.items i)

-- what a span holds at a position
abbrev pub span_at : Span → ℕ → Option ℤ
span_at (Flat stretch) i = stretch_at stretch i
span_at (Cut chunks) i = chunks_at chunks i

-- all cells of a table, row by row
abbrev pub flat_span : Vec ℤ Global → Span
flat_span cells = Flat (record { start = 0; cells = cells })

-- where a span's cells begin, if it has any
abbrev pub span_start : Span → ℕ
span_start (Flat stretch) = stretch.start
span_start (Cut chunks) = chunks.start

-- what the first span that reaches a position holds there
abbrev pub spans_at : List Span → ℕ → Option ℤ
spans_at [] i = None
spans_at (span ∷ rest) i = or_else (span_at span i) (spans_at rest i)

-- how many spans reach a position
abbrev pub holders : List Span → ℕ → ℕ
holders [] i = 0
holders (span ∷ rest) i = count (span_at span i) + holders rest i

-- no two spans reach the same position, and none reaches past the first n
abbrev pub AreApart : ℕ → List Span → Type 0
AreApart n spans = (i : ℕ) → (holders spans i ≤ 1) × (n ≤ i → holders spans i ≡ 0)

-- flat, not in boxes
abbrev pub is_flat : Span → Bool
is_flat (Flat stretch) = true
is_flat (Cut chunks) = false

-- all cells below a position, from the table's first on
abbrev pub HasAll : ℕ → Span → Type 0
HasAll n (Flat stretch) = (stretch.start ≡ 0) × (n ≤ vec_len stretch.cells)
HasAll n (Cut chunks) =
    (chunks.start ≡ 0) × (n ≤ chunks.end) × (n ≤ 256 * length chunks.list.items)
