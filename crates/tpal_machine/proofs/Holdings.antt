-- Held tables that are equal.
use Rattle.std.proofs.Common.{◌≡◌, ℕ, Bool}
use Rattle.slices.specs.Cells.{Cells}
use Rattle.slices.specs.Holding.{Holding}

-- a held table is what its parts are
pub holding_is : (h : Holding) (rows cols : ℕ) (cells : Cells) (owned : Bool) → h.rows ≡ rows → h.cols ≡ cols → h.cells ≡ cells → h.owned ≡ owned → h ≡ record { rows = rows; cols = cols; cells = cells; owned = owned }
holding_is h rows cols cells owned r c e o = λ i. record { rows = r i; cols = c i; cells = e i; owned = o i }
