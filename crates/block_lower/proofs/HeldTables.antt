-- What is held of a given table, where its cells are held whole.
use Rattle.std.proofs.Common.{◌≡◌, ℕ, ◌+◌, ◌*◌, ◌<◌, Bool, true, false, cond, ◌&&◌, List, length}
use Rattle.std.proofs.Common.{Some, None, refl, ap, ◌∙◌, arith, ltb-true, mul_comm}
use Rattle.std.proofs.lemmas.Bool.{false≢true}
use Rattle.std.specs.Prelude.{ℤ, pos, negsuc, nat_lt, slice_get}
use Rattle.std.proofs.lemmas.Nat.{mul-add-lt}
use Rattle.std.proofs.lemmas.Option.{slice_get-get_or}
use Rattle.slices.specs.Cells.{listed}
use Rattle.slices.specs.Holding.{Holding, cell_at}
use Rattle.tp_value.specs.declared.values.Table.{Table}
use Rattle.loop_meaning.specs.State.{has_cell, cell_of}
use Rattle.scene_laws.specs.Tables.{IsWholeOf}

both : (a b : Bool) → (a && b) ≡ true → (a ≡ true) × (b ≡ true)
both true b h = (refl, h)
both false b h = cc

-- a cell of a table is listed at its place, with its number
listed_is : (rows cols : ℕ) (cells : List ℤ) (name : List ℕ) (i j : ℤ) → length cells ≡ rows * cols → has_cell (record { name = name; rows = rows; cols = cols; cells = cells }) i j ≡ true → listed rows cols cells i j ≡ Some (cell_of (record { name = name; rows = rows; cols = cols; cells = cells }) i j)
listed_is rows cols cells name (pos r) (pos k) full here =
    let within = both (nat_lt r rows) (nat_lt k cols) here in
    let row : r < rows = ltb-true r rows within.0 in
    let col : k < cols = ltb-true k cols within.1 in
    let place : r * cols + k < length cells = omega (arith, mul-add-lt r cols k rows row col, mul_comm cols rows, full) in
    ap (λ (b : Bool). cond b (slice_get cells (r * cols + k)) None) here ∙ slice_get-get_or cells (r * cols + k) (pos 0) place
listed_is rows cols cells name (pos r) (negsuc k) full here = absurd (false≢true (both (nat_lt r rows) false here).1)
listed_is rows cols cells name (negsuc r) j full here = cc

-- a cell that a table hasn't is listed nowhere
unlisted : (t : Table) (i j : ℤ) → has_cell t i j ≡ false → listed t.rows t.cols t.cells i j ≡ None
unlisted t (pos r) (pos k) none = rw none refl
unlisted t (pos r) (negsuc k) none = refl
unlisted t (negsuc r) (pos k) none = refl
unlisted t (negsuc r) (negsuc k) none = refl

-- the cells of a table are held whole, where they are listed in a held table of its size
pub whole_of : (h : Holding) (t : Table) → h.rows ≡ t.rows → h.cols ≡ t.cols → length t.cells ≡ t.rows * t.cols → ((i j : ℤ) → cell_at h i j ≡ listed t.rows t.cols t.cells i j) → IsWholeOf h t
whole_of h t rows cols full cells = record {
  rows = rows;
  cols = cols;
  full = full;
  cells = λ i j here. cells i j ∙ listed_is t.rows t.cols t.cells t.name i j full here;
  outside = λ i j none. cells i j ∙ unlisted t i j none;
}
