-- What a held table is seen as, and what each call makes of it.
use Rattle.std.specs.Prelude.{◌≡◌, ℕ, ℤ, pos, ◌<◌, Bool, true, false, not, ◌&&◌, int_lt, Option}
use Rattle.std.specs.Prelude.{IsSome, refl}
use Rattle.std.specs.Ordering.{int_eq}
use Rattle.std.specs.FinMap.{get, insert, retain_keys, code}
use Rattle.std.specs.Coded.{Coded, code_by, coded×, coded_ℕ, coded_ℤ, coded_bool}
use Rattle.slices.specs.declared.table.HeldFault.{HeldFault}
use Rattle.slices.specs.declared.table.HeldFault.TheVariants.{Sizes, Overlap, NoMemory}
use Rattle.slices.specs.Cells.{Cells, union}

-- a table's size, the cells that are held, and whether they are written without asking for memory
pub record Holding : Type 0 where
  pub rows : ℕ
  pub cols : ℕ
  pub cells : Cells
  pub owned : Bool

abbrev pub holding_code : Coded Holding
holding_code =
    code_by (ℕ × (ℕ × (Cells × Bool)))
    (coded× coded_ℕ
    (coded× coded_ℕ (coded× (code (coded× coded_ℤ coded_ℤ) coded_ℤ) coded_bool)))
    (λ h. (h.rows, (h.cols, (h.cells, h.owned))))
    (λ p. record { rows = p.0; cols = p.1.0; cells = p.1.1.0; owned = p.1.1.1 }) (λ _. refl)

-- the number that is held for a place
abbrev pub cell_at : Holding → ℤ → ℤ → Option ℤ
cell_at h row col = get h.cells (row, col)

-- every cell of the table is held
abbrev pub IsWhole : Holding → Type 0
IsWhole h = (row col : ℕ) → row < h.rows → col < h.cols → IsSome (cell_at h (pos row) (pos col))

-- the held cells whose place passes the test, owned
abbrev pub held_where : (ℤ × ℤ → Bool) → Holding → Holding
held_where test h =
    record { rows = h.rows; cols = h.cols; cells = retain_keys h.cells test; owned = true }

abbrev pub rows_below : Holding → ℤ → Holding
rows_below h at = held_where (λ place. int_lt place.0 at) h

abbrev pub rows_from : Holding → ℤ → Holding
rows_from h at = held_where (λ place. not (int_lt place.0 at)) h

abbrev pub without_row : Holding → ℤ → Holding
without_row h row = held_where (λ place. not (int_eq place.0 row)) h

abbrev pub row_below : Holding → ℤ → ℤ → Holding
row_below h row at = held_where (λ place. int_eq place.0 row && int_lt place.1 at) h

abbrev pub row_from : Holding → ℤ → ℤ → Holding
row_from h row at = held_where (λ place. int_eq place.0 row && not (int_lt place.1 at)) h

-- one cell set, owned
abbrev pub with_cell : Holding → ℤ → ℤ → ℤ → Holding
with_cell h row col value =
    record { rows = h.rows; cols = h.cols; cells = insert h.cells (row, col) value; owned = true }

-- the cells of both, owned
abbrev pub together : Holding → Holding → Holding
together h upper =
    record { rows = h.rows; cols = h.cols; cells = union h.cells upper.cells; owned = true }

abbrev pub shared : Holding → Holding
shared h = record { rows = h.rows; cols = h.cols; cells = h.cells; owned = false }

abbrev pub own : Holding → Holding
own h = record { rows = h.rows; cols = h.cols; cells = h.cells; owned = true }

-- the same size and cells, owned or not
abbrev pub SameCells : Holding → Holding → Type 0
SameCells h other = (other.rows ≡ h.rows) × (other.cols ≡ h.cols) × (other.cells ≡ h.cells)

abbrev pub SameSize : Holding → Holding → Type 0
SameSize h upper = (h.rows ≡ upper.rows) × (h.cols ≡ upper.cols)

-- a cell that both hold
abbrev pub CommonCell : Holding → Holding → Type 0
CommonCell h upper =
    (row : ℤ) × (col : ℤ) × IsSome (cell_at h row col) × IsSome (cell_at upper row col)

-- when two held tables are refused to be put together
abbrev pub CauseOf : HeldFault → Holding → Holding → Type 0
CauseOf Sizes h upper = SameSize h upper → ⊥
CauseOf Overlap h upper = SameSize h upper × CommonCell h upper
CauseOf NoMemory h upper = SameSize h upper × (CommonCell h upper → ⊥)
