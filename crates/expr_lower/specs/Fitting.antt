-- The conditions of a code on the code of expressions, and what they ask of an expression and of a
-- scope.
use Rattle.std.specs.Prelude.{ℕ, ◌<◌, ◌≤◌, IsTrue, ⊤, List, length}
use Rattle.std.specs.List.{AllByRecursion, list_all}
use Rattle.loop_syntax.specs.declared.Expr.{Expr}
use Rattle.loop_syntax.specs.declared.Expr.TheVariants.{Int, Var, Cell', Rows, Cols, Neg', Bin'}
use Rattle.tpal_syntax.specs.Conditions.{IsBlock}
use Rattle.tpal_syntax.specs.Parts.{is_instr, is_place}
use Rattle.tpal_syntax.specs.declared.blocks.Block.{Block}
use Rattle.tpal_syntax.specs.declared.blocks.CodeTable.{CodeTable}
use Rattle.tpal_syntax.specs.declared.instructions.Instr.{Instr}
use Rattle.expr_lower.specs.declared.scope.Scope.{Scope}
use Rattle.expr_lower.specs.Scopes.{IsIn}

-- these blocks meet the conditions on those of a code with such tables and blocks
abbrev pub AreBlocksOf : List CodeTable → List Block → List Block → Type 0
AreBlocksOf tables all blocks = AllByRecursion (IsBlock tables all) blocks

-- these instructions are ones of a code with so many tables and blocks
abbrev pub AreInstrsOf : ℕ → ℕ → List Instr → Type 0
AreInstrsOf tables blocks instrs = IsTrue (list_all (is_instr tables blocks) instrs)

-- each place at which an expression may trap has a line and a column
abbrev pub IsPlaced : Expr → Type 0
IsPlaced (Int n place) = ⊤
IsPlaced (Var x) = ⊤
IsPlaced (Cell' t p a q b) = IsTrue (is_place t.place) × IsPlaced a × IsPlaced b
IsPlaced (Rows t) = ⊤
IsPlaced (Cols t) = ⊤
IsPlaced (Neg' p a place) = IsPlaced a
IsPlaced (Bin' o place p a q b) = IsTrue (is_place place) × IsPlaced a × IsPlaced b

-- a scope's cells and registers are ones that a code can name, and it has at most so many tables
pub record CanBeNamed (tables : ℕ) (scope : Scope) : Type 0 where
  pub cells : AllByRecursion (λ c. c.1 ≤ 511) scope.cells.items
  pub registers : AllByRecursion (λ r. r.1 < 32) scope.regs.items
  pub few_tables : length scope.tables.items ≤ tables

-- an expression whose code may stand in one with so many tables
pub record CanStand (tables : ℕ) (scope : Scope) (e : Expr) : Type 0 where
  pub named : CanBeNamed tables scope
  pub inside : IsIn scope e
  pub placed : IsPlaced e
