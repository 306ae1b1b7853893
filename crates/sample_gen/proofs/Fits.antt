-- How long the texts of samples are.
use Rattle.std.proofs.Common.{◌≡◌, ◌≤◌, ◌<◌, ℕ, ◌+◌, ◌*◌, ◌/◌, ◌%◌, List, [], ◌∷◌}
use Rattle.std.proofs.Common.{map, length, arith, length-append, lit<, lit≤}
use Rattle.std.proofs.Math.Nat.{mul-add, mul_left_comm, mul-one, suc-mul}
use Rattle.std.specs.List.{range_with_len, flat_map, join_with_byte}
use Rattle.std.specs.Fmt.{decimal, signed_decimal}
use Rattle.std.proofs.lemmas.Fmt.{length-decimal-le}
use Rattle.std.proofs.lemmas.List.FromFn.{length-range_with_len}
use Rattle.std.proofs.lemmas.List.Folds.{flat_map-map}
use Rattle.std.proofs.lemmas.Nat.{mod_below}
use Rattle.std.proofs.lemmas.Simd.{map-map}
use Rattle.tp_value.specs.declared.limits.TheConstants.{MAX_SIDE, MAX_SOURCE_BYTES}
use Rattle.tp_value.specs.declared.limits.TheConstants.{MAX_TABLES_BYTES}
use Rattle.table_text.specs.RowText.{row_text}
use Rattle.sample_gen.specs.declared.sampling.TheConstants.{MAX_SAMPLE_CELLS}
use Rattle.sample_gen.specs.Cells.{cell_of, sample_cell, row_cells}
use Rattle.sample_gen.specs.Texts.{head_line, sample_source, sample_tables}

cell_is_short : (state : ℕ) → length (signed_decimal (cell_of state)) ≤ 3
cell_is_short state =
    let below : state / 65536 % 1000 < 1000 = mod_below (state / 65536) 1000 (lit< tt) in
    length-decimal-le 3 (state / 65536 % 1000) (lit< tt) below (omega arith)

-- pieces of at most three bytes, with one byte between each two
joined_is_short : {X : Type 0} (piece : X → List ℕ) → ((x : X) → length (piece x) ≤ 3) →
    (xs : List X) → length (join_with_byte 32 (map piece xs)) ≤ 4 * length xs
joined_is_short piece short [] = lit≤ tt
joined_is_short piece short (x ∷ []) = let first : length (piece x) ≤ 3 = short x in omega arith
joined_is_short piece short (x ∷ y ∷ xs) =
    let first : length (piece x) ≤ 3 = short x in
    let others : length (join_with_byte 32 (map piece (y ∷ xs))) ≤ 4 * length (y ∷ xs)
    = joined_is_short piece short (y ∷ xs) in
    rw (length-append (piece x)) (omega arith)

row_is_short : (seed cols row : ℕ) → length (row_text (row_cells seed cols row)) ≤ 4 * cols + 1
row_is_short seed cols row =
    let cell = λ (col : ℕ). signed_decimal (sample_cell seed cols row col) in
    let joined : length (join_with_byte 32 (map cell (range_with_len 0 cols))) ≤ 4 * length (range_with_len 0 cols)
    = joined_is_short cell (λ col. cell_is_short _) (range_with_len 0 cols) in
    rw (map-map signed_decimal (sample_cell seed cols row) (range_with_len 0 cols), length-append)
    (omega (arith, length-range_with_len 0 cols))

-- lines of at most so many bytes
lines_are_short : {X : Type 0} (line : X → List ℕ) (most : ℕ) → ((x : X) → length (line x) ≤ most) →
    (xs : List X) → length (flat_map line xs) ≤ length xs * most
lines_are_short line most short [] = omega arith
lines_are_short line most short (x ∷ xs) =
    let first : length (line x) ≤ most = short x in
    let others : length (flat_map line xs) ≤ length xs * most = lines_are_short line most short xs in
    rw (length-append (line x), suc-mul) (omega arith)

head_is_short : (rows cols : ℕ) → rows ≤ MAX_SIDE → cols ≤ MAX_SIDE → length (head_line rows cols) ≤ 24
head_is_short rows cols tall wide =
    let of_rows : length (decimal rows) ≤ 7 = length-decimal-le 7 rows (lit< tt) (omega arith) (omega arith) in
    let of_cols : length (decimal cols) ≤ 7 = length-decimal-le 7 cols (lit< tt) (omega arith) (omega arith) in
    simp length-append (omega arith)

cells_and_ends : (rows cols : ℕ) → rows * (4 * cols + 1) ≡ 4 * (rows * cols) + rows
cells_and_ends rows cols = simp (mul-add, mul_left_comm rows 4 cols, mul-one)

pub tables_fit : (seed rows cols : ℕ) → rows ≤ MAX_SIDE → cols ≤ MAX_SIDE →
    rows * cols ≤ MAX_SAMPLE_CELLS → length (sample_tables seed rows cols) ≤ MAX_TABLES_BYTES
unfolding sample_tables
tables_fit seed rows cols tall wide few =
    let line = λ (row : ℕ). row_text (row_cells seed cols row) in
    let lines : length (flat_map line (range_with_len 0 rows)) ≤ length (range_with_len 0 rows) * (4 * cols + 1)
    = lines_are_short line (4 * cols + 1) (row_is_short seed cols) (range_with_len 0 rows) in
    let within = rw (length-range_with_len 0 rows, cells_and_ends rows cols) at lines in
    let head = head_is_short rows cols tall wide in
    rw (length-append, flat_map-map row_text (row_cells seed cols) (range_with_len 0 rows)) (omega arith)

pub source_fits : length sample_source ≤ MAX_SOURCE_BYTES
unfolding sample_source
source_fits = lit≤ tt
