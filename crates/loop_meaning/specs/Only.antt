-- What statements may do beyond their variables.
use Rattle.std.specs.Prelude.{◌≡◌, ⊤, Bool, true, false, List, [], None}
use Rattle.std.specs.List.{All}
use Rattle.loop_syntax.specs.declared.Stmt.{Stmt, Row_of-Stmt, end_of-Stmt, more_of-Stmt}
use Rattle.loop_syntax.specs.declared.Stmt.TheVariants.{Put, If', While', Loop', Par', Print, Emit}
use Rattle.loop_syntax.specs.declared.Func.{Func}
use Rattle.loop_meaning.specs.State.{State, Ran}
use Rattle.loop_meaning.specs.Leaving.{left_list}
use Rattle.loop_meaning.specs.Cells.{write_cells}

-- a statement that writes cells only where the first is true, and prints only where the second is
abbrev mutual
  pub StmtOnly : Bool → Bool → Stmt → Type 0
  StmtOnly writes prints (Put t a b e) = writes ≡ true
  StmtOnly writes prints (If' e p body q other) =
      BlockOnly writes prints body × BlockOnly writes prints other
  StmtOnly writes prints (While' e p body) = BlockOnly writes prints body
  StmtOnly writes prints (Loop' x a b p body) = BlockOnly writes prints body
  StmtOnly writes prints (Par' place x a b carry_place carries reduces p body) =
      BlockOnly writes prints body
  StmtOnly writes prints (Print place e) = prints ≡ true
  StmtOnly writes prints (Emit place t) = prints ≡ true
  StmtOnly writes prints _ = ⊤

  pub BlockOnly : {m : _} → Bool → Bool → Row_of-Stmt m → Type 0
  BlockOnly writes prints end_of-Stmt = ⊤
  BlockOnly writes prints (more_of-Stmt first rest) =
      StmtOnly writes prints first × BlockOnly writes prints rest

-- a statement with no `print` and no `emit` in it
abbrev pub PrintsNothing : Stmt → Type 0
PrintsNothing = StmtOnly true false

-- a function whose body has no `print`, no `emit` and no write to a cell in it
abbrev pub OnlyCounts : Func → Type 0
OnlyCounts f = All (StmtOnly false false) f.body.items

-- a run from that state that leaves the tables as they are, and notes no write
pub record Untouched (s : State) (r : Ran) : Type 0 where
  pub tables : r.state.tables ≡ s.tables
  pub writes : write_cells r.notes ≡ []

-- statements with no `leave` but in a `par` of theirs, which it leaves
abbrev pub LeavesNothing : List Stmt → Type 0
LeavesNothing body = left_list body ≡ None

-- a function with such a body
abbrev pub IsNeverLeft : Func → Type 0
IsNeverLeft f = LeavesNothing f.body.items
