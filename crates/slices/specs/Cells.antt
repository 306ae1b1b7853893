-- The cells of a table: a finite map from (row, column) to a number. Equal maps are equal values.
use Rattle.std.specs.Prelude.{◌≡◌, ◌<◌, ℕ, suc, zero, ℤ, pos, negsuc, ◌+◌, ◌*◌, ◌/◌, ◌%◌, ◌&&◌}
use Rattle.std.specs.Prelude.{if◌then◌else◌, nat_lt, Option, None, Some, List, [], ◌∷◌, slice_get}
use Rattle.std.specs.declared.cmp.Ordering.{Ordering}
use Rattle.std.specs.Ordering.{ordering_then, int_cmp}
use Rattle.std.specs.FinMap.{FinMap, empty, insert, entries}

-- rows first, then columns
abbrev pub place_cmp : ℤ × ℤ → ℤ × ℤ → Ordering
place_cmp p q = ordering_then (int_cmp p.0 q.0) (int_cmp p.1 q.1)

abbrev pub Cells : Type 0
Cells = FinMap place_cmp ℤ

-- the place of the i-th cell of a table with this many columns, counted from 0 row by row
abbrev pub place_of : ℕ → ℕ → ℤ × ℤ
place_of cols i = (pos (i / cols), pos (i % cols))

-- what the row by row counting gives at a place of a table of this size
abbrev pub at_place : ℕ → ℕ → (ℕ → Option ℤ) → ℤ → ℤ → Option ℤ
at_place rows cols value (pos row) (pos col) =
    if nat_lt row rows && nat_lt col cols then value (row * cols + col) else None
at_place rows cols value (pos row) (negsuc col) = None
at_place rows cols value (negsuc row) (pos col) = None
at_place rows cols value (negsuc row) (negsuc col) = None

-- the cell at a place is the i-th of a table of this size, counted row by row
abbrev pub StandsAt : ℕ → ℕ → ℤ → ℤ → ℕ → Type 0
StandsAt rows cols row col i =
    (r : ℕ) × (c : ℕ) × (row ≡ pos r) × (col ≡ pos c) × (r < rows) × (c < cols) × (i ≡ r * cols + c)

-- the number at a place of a table whose numbers are listed row by row
abbrev pub listed : ℕ → ℕ → List ℤ → ℤ → ℤ → Option ℤ
listed rows cols numbers = at_place rows cols (slice_get numbers)

-- the map with one more entry, where there is a number for it
abbrev pub with_number : Option ℤ → ℤ × ℤ → Cells → Cells
with_number None place cells = cells
with_number (Some number) place cells = insert cells place number

-- the map of the first n cells, counted row by row
unfoldable pub first_cells : (cols : ℕ) → (ℕ → Option ℤ) → (n : ℕ) → Cells
first_cells cols value zero = empty
first_cells cols value (suc n) = with_number (value n) (place_of cols n) (first_cells cols value n)

-- the entries of a list over those of a map
unfoldable pub over : List ((ℤ × ℤ) × ℤ) → Cells → Cells
over [] cells = cells
over (entry ∷ rest) cells = insert (over rest cells) entry.0 entry.1

-- the union of two maps
abbrev pub union : Cells → Cells → Cells
union cells others = over (entries cells) others
