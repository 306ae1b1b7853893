-- The part of each carried table that an iteration may touch, and the variables that it leaves.
use Rattle.std.specs.Prelude.{◌≡◌, true, ℕ, ℤ, List, Some, None, Contains, map}
use Rattle.loop_syntax.specs.declared.RowAt.TheVariants as row
use Rattle.loop_syntax.specs.declared.Carry.{Carry}
use Rattle.loop_syntax.specs.declared.Carry.TheVariants as carry
use Rattle.loop_syntax.specs.declared.Program.{Program}
use Rattle.loop_rules.specs.Names.{is_in, operator_of, item_of}
use Rattle.loop_meaning.specs.declared.value.Variable.{Variable}
use Rattle.loop_meaning.specs.State.{State, Note, lookup}
use Rattle.loop_meaning.specs.Cells.{Cell, read_cells, write_cells, Body, bodies_of, run_of}

-- the cell at row a, column b is in iteration i's part of an item, where the loop is entered in
-- that state: row i of `t[i]`, and column i of the row k of `t[k][i]`, where a variable k has the
-- value that it has at the entry
abbrev pub InPart : State → ℤ → Carry → ℤ → ℤ → Type 0
InPart state i (carry.Rows table variable) row_number column = row_number ≡ i
InPart state i (carry.Cells table (row.Var fixed) variable) row_number column =
    (row_number ≡ lookup state.vars fixed.text.items) × (column ≡ i)
InPart state i (carry.Cells table (row.Int number) variable) row_number column =
    (row_number ≡ number) × (column ≡ i)

-- the state has just the variables that are declared outside the body
abbrev pub Enters : Body → State → Type 0
Enters body state = map (λ (v : Variable). v.name) state.vars ≡ body.loop.outside

-- the notes of iteration i from that state
abbrev pub notes_of : Program → ℕ → ℕ → Body → ℤ → State → List Note
notes_of program fuel depth body i state = (run_of program fuel depth body i state).notes

-- what the iterations of a `par` keep to
pub record KeepsTo (program : Program) (body : Body) : Type 0 where
  -- each cell that one writes is of a carried table, and in its part
  pub writes : (fuel depth : ℕ) (state : State)
      → Enters body state
      → (i : ℤ) (cell : Cell)
      → Contains (write_cells (notes_of program fuel depth body i state)) cell
      → (item : Carry) × (item_of body.loop.carries cell.table ≡ Some item)
      × InPart state i item cell.row cell.col
  -- each cell of a carried table that one reads is in its part
  pub reads : (fuel depth : ℕ) (state : State)
      → Enters body state
      → (i : ℤ) (cell : Cell)
      → Contains (read_cells (notes_of program fuel depth body i state)) cell
      → (item : Carry)
      → item_of body.loop.carries cell.table ≡ Some item
      → InPart state i item cell.row cell.col
  -- a variable that is declared outside the body and isn't reduced keeps its value, however the
  -- iteration ends
  pub stays : (fuel depth : ℕ) (state : State)
      → Enters body state
      → (i : ℤ) (variable : List ℕ)
      → is_in body.loop.outside variable ≡ true
      → operator_of body.loop.reduces variable ≡ None
      → lookup (run_of program fuel depth body i state).state.vars variable
      ≡ lookup state.vars variable

-- each `par` of a program keeps to that
pub record Parted (program : Program) : Type 0 where
  pub each : (body : Body) → Contains (bodies_of program) body → KeepsTo program body
