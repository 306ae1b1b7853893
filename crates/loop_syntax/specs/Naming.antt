-- The names that parts of the tree have, and what stands under a name.
use Rattle.std.specs.Prelude.{ℕ, cond, List, [], ◌∷◌, Option, Some, None, bytes_eq}
use Rattle.tp_value.specs.declared.values.Op.{Op}
use Rattle.loop_syntax.specs.declared.expression.Name.{Name}
use Rattle.loop_syntax.specs.declared.statement.Carry.{Carry}
use Rattle.loop_syntax.specs.declared.statement.Carry.TheVariants as carry
use Rattle.loop_syntax.specs.declared.statement.Reduce.{Reduce}
use Rattle.loop_syntax.specs.declared.program.Func.{Func}
use Rattle.loop_syntax.specs.declared.program.TableDecl.{TableDecl}
use Rattle.loop_syntax.specs.declared.program.TableDecl.TheVariants.{Input, Made}

-- the table that is declared
abbrev pub table_of_decl : TableDecl → Name
table_of_decl (Input table) = table
table_of_decl (Made table rows columns) = table

-- the table of a carry item
abbrev pub table_name : Carry → Name
table_name (carry.Rows table variable) = table
table_name (carry.Cells table fixed column) = table

-- the function of that name, the first where two have it
abbrev pub func_of : List Func → List ℕ → Option Func
func_of [] name = None
func_of (func ∷ funcs) name =
    cond (bytes_eq func.name.text.items name) (Some func) (func_of funcs name)

-- the operator that a reduce list gives to a name, the first where it has the name twice
abbrev pub operator_of : List Reduce → List ℕ → Option Op
operator_of [] name = None
operator_of (reduce ∷ reduces) name =
    cond (bytes_eq reduce.target.text.items name) (Some reduce.op) (operator_of reduces name)
