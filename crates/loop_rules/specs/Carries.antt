-- The rules on tables inside `par` loops: C4 on writes, C5 on reads, C6 on carry lists.
use Rattle.std.specs.Prelude.{ℕ, ℤ, Bool, true, false, ◌&&◌, ◌||◌, not, List, [], ◌∷◌, ◌++◌, Option}
use Rattle.std.specs.Prelude.{Some, None, bytes_eq}
use Rattle.std.specs.Ordering.{int_eq}
use Rattle.tp_value.specs.declared.Place.{Place}
use Rattle.loop_syntax.specs.declared.Expr.{Expr}
use Rattle.loop_syntax.specs.declared.Expr.TheVariants.{Int, Var}
use Rattle.loop_syntax.specs.declared.RowAt.{RowAt}
use Rattle.loop_syntax.specs.declared.RowAt.TheVariants as row
use Rattle.loop_syntax.specs.declared.Carry.{Carry}
use Rattle.loop_syntax.specs.declared.Carry.TheVariants as carry
use Rattle.loop_rules.specs.Names.{is_in, table_name, item_of}
use Rattle.loop_rules.specs.Sites.{Loop, Act, ReadsCell, WritesCell, Parallel, Spot}
use Rattle.loop_rules.specs.Scopes.{at}
use Rattle.loop_rules.specs.Reductions.{any_loop, reduced}

abbrev pub is_some_item : Option Carry → Bool
is_some_item None = false
is_some_item (Some item) = true

-- whether a `par` carries that table
abbrev pub carries : List ℕ → Loop → Bool
carries table loop = is_some_item (item_of loop.carries table)

-- ---- shapes

-- whether an index is that bare name
abbrev pub is_var : Expr → List ℕ → Bool
is_var (Var variable) name = bytes_eq variable.text.items name
is_var _ name = false

-- whether an index is that bare literal, by its value
abbrev pub is_int : Expr → ℤ → Bool
is_int (Int number place) other = int_eq number other
is_int _ other = false

abbrev pub is_row : RowAt → Expr → Bool
is_row (row.Var variable) index = is_var index variable.text.items
is_row (row.Int number) index = is_int index number

-- whether a cell has the shape of a carry item: `t[i][..]` of `t[i]`, and `t[k][j]` of `t[k][j]`
abbrev pub fits : Carry → Expr → Expr → Bool
fits (carry.Rows table variable) row_index column_index = is_var row_index variable.text.items
fits (carry.Cells table fixed column) row_index column_index =
    is_row fixed row_index && is_var column_index column.text.items

abbrev pub fits_some : Option Carry → Expr → Expr → Bool
fits_some None row_index column_index = false
fits_some (Some item) row_index column_index = fits item row_index column_index

-- whether a `par` carries that table, and the cell has the shape of that item
abbrev pub has_shape : Loop → List ℕ → Expr → Expr → Bool
has_shape loop table row_index column_index =
    fits_some (item_of loop.carries table) row_index column_index

-- ---- writes and reads

abbrev pub bad_write : List Loop → List ℕ → Expr → Expr → Bool
bad_write [] table row_index column_index = false
bad_write (loop ∷ loops) table row_index column_index =
    any_loop (λ other. not (carries table other)) (loop ∷ loops)
    || not (has_shape loop table row_index column_index)

-- a write inside `par` loops that don't all carry the table, or without the nearest one's shape
abbrev pub miswritten : Act → Spot → List Place
miswritten (WritesCell table row_index column_index) spot =
    at table (bad_write spot.rounds table.text.items row_index column_index)
miswritten _ spot = []

abbrev pub bad_read : List Loop → List ℕ → Expr → Expr → Bool
bad_read [] table row_index column_index = false
bad_read (loop ∷ loops) table row_index column_index =
    any_loop (carries table) (loop ∷ loops) && not (has_shape loop table row_index column_index)

-- a read of a table that a `par` round carries, where the nearest doesn't, or without its shape
abbrev pub misread : Act → Spot → List Place
misread (ReadsCell table row_index column_index) spot =
    at table (bad_read spot.rounds table.text.items row_index column_index)
misread _ spot = []

-- ---- carry lists

abbrev pub last_index : Carry → List ℕ
last_index (carry.Rows table row_variable) = row_variable.text.items
last_index (carry.Cells table fixed column) = column.text.items

-- whether the item's row is a variable that the loop reduces
abbrev pub row_reduced : Loop → Carry → Bool
row_reduced loop (carry.Rows table row_variable) = false
row_reduced loop (carry.Cells table (row.Var row_variable) column) =
    reduced row_variable.text.items loop
row_reduced loop (carry.Cells table (row.Int number) column) = false

-- whether that item is `t[i]` with the row i
abbrev pub is_rows_item : Option Carry → RowAt → Bool
is_rows_item (Some (carry.Rows table row_variable)) (row.Var variable) =
    bytes_eq row_variable.text.items variable.text.items
is_rows_item _ _ = false

-- whether an item is `t[i][j]` where that `par` carries `t[i]`
abbrev pub is_within : Loop → Carry → Bool
is_within loop (carry.Rows table row_variable) = false
is_within loop (carry.Cells table fixed column) =
    is_rows_item (item_of loop.carries table.text.items) fixed

abbrev pub outside_nearest : List Loop → Carry → Bool
outside_nearest [] item = false
outside_nearest (loop ∷ loops) item = not (is_within loop item)

abbrev pub bad_item : List Loop → Loop → Carry → Bool
bad_item rounds loop item =
    not (bytes_eq (last_index item) loop.var) || row_reduced loop item
    || outside_nearest rounds item

abbrev pub bad_items : List (List ℕ) → List Carry → Loop → List Loop → List Place
bad_items before [] loop rounds = []
bad_items before (item ∷ items) loop rounds =
    at (table_name item) (bad_item rounds loop item || is_in before (table_name item).text.items)
    ++ bad_items ((table_name item).text.items ∷ before) items loop rounds

-- an item whose last index isn't the loop's variable, whose row the loop reduces, or that isn't
-- `t[i][j]` inside a `par` that carries `t[i]`; a table twice in one list
abbrev pub miscarried : Act → Spot → List Place
miscarried (Parallel place carry_place loop) spot = bad_items [] loop.carries loop spot.rounds
miscarried _ spot = []
