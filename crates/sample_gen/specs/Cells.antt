-- The cells that follow from a seed.
use Rattle.std.specs.Prelude.{ℕ, zero, suc, ◌+◌, ◌*◌, ◌/◌, ◌%◌, ◌^◌, ℤ, pos, List, map}
use Rattle.std.specs.List.{range_with_len}

-- the generator's state after one step more
abbrev pub next_state : ℕ → ℕ
next_state state = (1664525 * state + 1013904223) % 2 ^ 32

-- the state after that many steps from the seed
unfoldable pub state_after : ℕ → ℕ → ℕ
state_after seed zero = seed
state_after seed (suc steps) = next_state (state_after seed steps)

-- the cell that a state gives
abbrev pub cell_of : ℕ → ℤ
cell_of state = pos (state / 65536 % 1000)

-- the cell of a row and a column, where each row has `cols` cells: row by row, each cell comes
-- after one step more
abbrev pub sample_cell : ℕ → ℕ → ℕ → ℕ → ℤ
sample_cell seed cols row col = cell_of (state_after seed (row * cols + col + 1))

-- the cells of a row
abbrev pub row_cells : ℕ → ℕ → ℕ → List ℤ
row_cells seed cols row = map (sample_cell seed cols row) (range_with_len 0 cols)

-- the rows, from the first on
abbrev pub sample_rows : ℕ → ℕ → ℕ → List (List ℤ)
sample_rows seed rows cols = map (row_cells seed cols) (range_with_len 0 rows)
