-- Rows as the code makes them: cell by cell, each row from the state at which it begins.
use Rattle.std.proofs.Common.{◌≡◌, ◌∙◌, ℕ, ◌+◌, ◌*◌, ℤ, List, ◌∷◌, [], ◌++◌, map, ap, sym}
use Rattle.std.proofs.Common.{add_assoc, zero-add, add-one, suc-mul}
use Rattle.std.specs.List.{range_with_len, flat_map}
use Rattle.std.proofs.lemmas.List.{flat_map_more}
use Rattle.std.proofs.lemmas.List.FromFn.{map-range_with_len_more}
use Rattle.table_text.specs.RowText.{row_text}
use Rattle.sample_gen.specs.Cells.{cell_of, state_after, row_cells, sample_rows}
use Rattle.sample_gen.proofs.States.{after_both}

-- the first cells from a state on
abbrev pub cells_from : ℕ → ℕ → List ℤ
cells_from start cols = map (λ col. cell_of (state_after start (col + 1))) (range_with_len 0 cols)

-- one more cell
pub cell_more : (start cols state : ℕ) (cells : List ℤ) (cell : ℤ) →
    cells ≡ cells_from start cols → state ≡ state_after start (cols + 1) → cell ≡ cell_of state →
    cells ++ cell ∷ [] ≡ cells_from start (cols + 1)
cell_more start cols state cells cell so_far stands gives =
    ap (λ (x : List ℤ). x ++ cell ∷ []) so_far
    ∙ ap (λ (x : ℤ). cells_from start cols ++ x ∷ []) (gives ∙ ap (λ (x : ℕ). cell_of x) stands)
    ∙ sym (map-range_with_len_more (λ (col : ℕ). cell_of (state_after start (col + 1))) 0 cols cols
    (zero-add cols))

-- a row by the state at which it begins
row_from : (seed cols row : ℕ) →
    cells_from (state_after seed (row * cols)) cols ≡ row_cells seed cols row
row_from seed cols row =
    let same : map (λ col. cell_of (state_after (state_after seed (row * cols)) (col + 1))) (range_with_len 0 cols)
    ≡ map (λ col. cell_of (state_after seed (row * cols + col + 1))) (range_with_len 0 cols)
    = simp (after_both, add_assoc) in
    same

pub row_is : (seed cols row state : ℕ) (cells : List ℤ) →
    cells ≡ cells_from state cols → state ≡ state_after seed (row * cols) →
    cells ≡ row_cells seed cols row
row_is seed cols row state cells made begins =
    made ∙ ap (λ (x : ℕ). cells_from x cols) begins ∙ row_from seed cols row

-- the state behind a row
pub behind_row : (seed cols row : ℕ) →
    state_after (state_after seed (row * cols)) cols ≡ state_after seed ((row + 1) * cols)
behind_row seed cols row = after_both seed (row * cols) cols ∙ simp (add-one, suc-mul)

-- one more line
pub line_more : (head text : List ℕ) (seed rows cols : ℕ) (cells : List ℤ) →
    text ≡ head ++ flat_map row_text (sample_rows seed rows cols) → cells ≡ row_cells seed cols rows →
    text ++ row_text cells ≡ head ++ flat_map row_text (sample_rows seed (rows + 1) cols)
line_more head text seed rows cols cells so_far row =
    ap (λ (x : List ℕ). x ++ row_text cells) so_far
    ∙ ap (λ (x : List ℤ). (head ++ flat_map row_text (sample_rows seed rows cols)) ++ row_text x) row
    ∙ flat_map_more row_text head (sample_rows seed rows cols) (row_cells seed cols rows)
    ∙ ap (λ (x : List (List ℤ)). head ++ flat_map row_text x)
    (sym (map-range_with_len_more (row_cells seed cols) 0 rows rows (zero-add rows)))
