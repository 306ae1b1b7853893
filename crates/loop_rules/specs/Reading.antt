-- The rule on calls inside `par` loops, C8.
use Rattle.std.specs.Prelude.{◌≡◌, ℕ, true, List, Some, Contains}
use Rattle.tp_value.specs.declared.Place.{Place}
use Rattle.loop_syntax.specs.declared.Name.{Name}
use Rattle.loop_syntax.specs.declared.Expr.{Expr}
use Rattle.loop_syntax.specs.declared.Func.{Func}
use Rattle.loop_syntax.specs.declared.Program.{Program}
use Rattle.loop_rules.specs.Names.{func_of}
use Rattle.loop_rules.specs.Sites.{ReadsCell, Calls, Spot, Site, in_func}
use Rattle.loop_rules.specs.Reductions.{any_loop}
use Rattle.loop_rules.specs.Carries.{carries}

-- a function reads a cell of a table, itself or through calls
pub data ReadsTable (program : Program) : List ℕ → List ℕ → Type 0 where
  itself : (caller : List ℕ) (func : Func) (spot : Spot) (table : Name)
      (row_index column_index : Expr) →
      func_of program.funcs.items caller ≡ Some func →
      Contains (in_func program func)
      (record { act = ReadsCell table row_index column_index; spot = spot }) →
      ReadsTable program caller table.text.items
  through : (caller : List ℕ) (func : Func) (spot : Spot) (callee : Name) (arguments : ℕ)
      (table : List ℕ) →
      func_of program.funcs.items caller ≡ Some func →
      Contains (in_func program func) (record { act = Calls callee arguments; spot = spot }) →
      ReadsTable program callee.text.items table → ReadsTable program caller table

-- a call inside a `par` to a function that reads a table which a `par` round the call carries
pub record CallsReader (program : Program) (site : Site) (place : Place) : Type 0 where
  pub callee : Name
  pub arguments : ℕ
  pub is_call : site.act ≡ Calls callee arguments
  pub table : List ℕ
  pub reads : ReadsTable program callee.text.items table
  pub carried : any_loop (carries table) site.spot.rounds ≡ true
  pub here : place ≡ callee.place
