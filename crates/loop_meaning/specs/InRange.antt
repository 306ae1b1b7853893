-- Numbers in the range of 64 bits: those of a state, and the literals of a program.
use Rattle.std.specs.Prelude.{ℤ, pos, ⊤, FitsSigned}
use Rattle.std.specs.Int.{w64}
use Rattle.std.specs.List.{All}
use Rattle.tp_value.specs.declared.Table.{Table}
use Rattle.loop_syntax.specs.declared.Expr.{Expr}
use Rattle.loop_syntax.specs.declared.Expr.TheVariants.{Int, Var, Cell', Rows, Cols, Neg', Bin'}
use Rattle.loop_syntax.specs.declared.Stmt.{Stmt, Row_of-Stmt, end_of-Stmt, more_of-Stmt}
use Rattle.loop_syntax.specs.declared.Stmt.TheVariants.{Let, Set, Put, If', While', Loop', Par'}
use Rattle.loop_syntax.specs.declared.Stmt.TheVariants.{Fold, Call, Both, Print, Emit, Leave, Fill}
use Rattle.loop_syntax.specs.declared.Func.{Func}
use Rattle.loop_syntax.specs.declared.TableDecl.{TableDecl}
use Rattle.loop_syntax.specs.declared.TableDecl.TheVariants.{Input, Made}
use Rattle.loop_syntax.specs.declared.Program.{Program}
use Rattle.loop_meaning.specs.declared.value.Variable.{Variable}
use Rattle.loop_meaning.specs.State.{State}

abbrev pub InRange : ℤ → Type 0
InRange n = FitsSigned w64 n

-- ---- a state

abbrev pub VariableInRange : Variable → Type 0
VariableInRange v = InRange v.value

-- the cells of a table, and its numbers of rows and columns
pub record TableInRange (t : Table) : Type 0 where
  pub cells : All InRange t.cells
  pub rows : InRange (pos t.rows)
  pub cols : InRange (pos t.cols)

pub record StateInRange (s : State) : Type 0 where
  pub vars : All VariableInRange s.vars
  pub tables : All TableInRange s.tables

-- ---- literals

abbrev pub ExprInRange : Expr → Type 0
ExprInRange (Int n place) = InRange n
ExprInRange (Var x) = ⊤
ExprInRange (Cell' t p a q b) = ExprInRange a × ExprInRange b
ExprInRange (Rows t) = ⊤
ExprInRange (Cols t) = ⊤
ExprInRange (Neg' p a place) = ExprInRange a
ExprInRange (Bin' o place p a q b) = ExprInRange a × ExprInRange b

abbrev mutual
  pub StmtInRange : Stmt → Type 0
  StmtInRange (Let x e) = ExprInRange e
  StmtInRange (Set x e) = ExprInRange e
  StmtInRange (Put t a b e) = ExprInRange a × ExprInRange b × ExprInRange e
  StmtInRange (If' e p body q other) = ExprInRange e × BlockInRange body × BlockInRange other
  StmtInRange (While' e p body) = ExprInRange e × BlockInRange body
  StmtInRange (Loop' x a b p body) = ExprInRange a × ExprInRange b × BlockInRange body
  StmtInRange (Par' place x a b carry_place carries reduces p body) =
      ExprInRange a × ExprInRange b × BlockInRange body
  StmtInRange (Fold x e) = ExprInRange e
  StmtInRange (Call x f) = All ExprInRange f.args.items
  StmtInRange (Both x f y g) = All ExprInRange f.args.items × All ExprInRange g.args.items
  StmtInRange (Print place e) = ExprInRange e
  StmtInRange (Emit place t) = ⊤
  StmtInRange (Leave x e) = ExprInRange e
  StmtInRange (Fill f t r es) = ⊤

  pub BlockInRange : {m : _} → Row_of-Stmt m → Type 0
  BlockInRange end_of-Stmt = ⊤
  BlockInRange (more_of-Stmt first rest) = StmtInRange first × BlockInRange rest

abbrev pub FuncInRange : Func → Type 0
FuncInRange f = All StmtInRange f.body.items × ExprInRange f.result

abbrev pub DeclInRange : TableDecl → Type 0
DeclInRange (Input x) = ⊤
DeclInRange (Made x a b) = ExprInRange a × ExprInRange b

pub record ProgramInRange (p : Program) : Type 0 where
  pub tables : All DeclInRange p.tables.items
  pub funcs : All FuncInRange p.funcs.items
  pub main : All StmtInRange p.main.items
