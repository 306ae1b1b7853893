-- How a task holds variables and tables.
use Rattle.std.specs.Prelude.{◌≡◌, ℕ, ◌≤◌, ℤ, pos, ◌+ℤ◌, ⊤, List, Option, Some, None, length}
use Rattle.std.specs.List.{AllByRecursion}
use Rattle.tp_value.specs.declared.limits.TheConstants.{REGISTERS}
use Rattle.expr_lower.specs.Registers.{base_register, last_variable, value_registers}
use Rattle.slices.specs.Holding.{cell_at}
use Rattle.stack_marks.specs.Stacks.{word_at}
use Rattle.tp_value.specs.declared.Table.{Table}
use Rattle.loop_meaning.specs.declared.value.Variable.{Variable}
use Rattle.loop_meaning.specs.State.{lookup, table_of, cell_of, Note, Reads, Writes, Emits, Chance}
use Rattle.tpal_syntax.specs.declared.words.Word.TheVariants.{Int}
use Rattle.tpal_machine.specs.Reading.{register, table_at}
use Rattle.tpal_machine.specs.State.{State}
use Rattle.expr_lower.specs.declared.scope.Scope.{Scope}
use Rattle.expr_lower.specs.Scopes.{offset_of, register_of, table_number, HasVariable, HasTable}

-- a cell that is read is held, with its number
abbrev pub IsHeld : Scope → List Table → State → Note → Type 0
IsHeld scope tables state (Reads t i j) =
    cell_at (table_at state.tables (table_number scope t)) i j
    ≡ Some (cell_of (table_of tables t) i j)
IsHeld scope tables state (Writes t i j) = ⊤
IsHeld scope tables state (Emits t) = ⊤
IsHeld scope tables state Chance = ⊤

-- A number stands in its register, where it has one of those behind the registers of values, else
-- in a cell of the activation that begins at a position.
abbrev pub HasNumber : State → ℤ → Option ℕ → ℕ → ℤ → Type 0
HasNumber state base (Some r) off n =
    (value_registers ≤ r) × (r ≤ last_variable) × (register state.registers r ≡ Int n)
HasNumber state base None off n = word_at state.stack (base +ℤ pos off) ≡ Some (Int n)

-- A task holds the variables of a scope in their registers, or in the cells of its activation,
-- which begins at the position in the base register. It holds the sizes of the scope's tables, and
-- of their cells those that are read by these notes. A side may hold no more than these.
pub record Holds (scope : Scope) (vars : List Variable) (tables : List Table) (notes : List Note)
    (state : State) : Type 0 where
  pub registers : length state.registers ≡ REGISTERS
  pub base : ℤ
  pub is_base : register state.registers base_register ≡ Int base
  pub variables : (x : List ℕ)
      → HasVariable scope x
      → HasNumber state base (register_of scope x) (offset_of scope x) (lookup vars x)
  pub rows : (t : List ℕ)
      → HasTable scope t
      → (table_at state.tables (table_number scope t)).rows ≡ (table_of tables t).rows
  pub cols : (t : List ℕ)
      → HasTable scope t
      → (table_at state.tables (table_number scope t)).cols ≡ (table_of tables t).cols
  pub cells : AllByRecursion (IsHeld scope tables state) notes
