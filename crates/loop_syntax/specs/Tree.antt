-- Trees without where they lie in memory, and the tree that each value is.
use Rattle.std.specs.Prelude.{ℕ, ℤ, List, [], ◌∷◌, map}
use Rattle.tp_value.specs.declared.values.Place.{Place}
use Rattle.tp_value.specs.declared.values.Op.{Op}
use Rattle.loop_syntax.specs.declared.expression.Name.{Name}
use Rattle.loop_syntax.specs.declared.expression.BinOp.{BinOp}
use Rattle.loop_syntax.specs.declared.expression.Expr.{Expr}
use Rattle.loop_syntax.specs.declared.expression.Expr.TheVariants.{Int, Var, Cell', Rows, Cols}
use Rattle.loop_syntax.specs.declared.expression.Expr.TheVariants.{Neg', Bin'}
use Rattle.loop_syntax.specs.declared.statement.RowAt.{RowAt}
use Rattle.loop_syntax.specs.declared.statement.RowAt.TheVariants as rows
use Rattle.loop_syntax.specs.declared.statement.Carry.{Carry}
use Rattle.loop_syntax.specs.declared.statement.Carry.TheVariants as carries
use Rattle.loop_syntax.specs.declared.statement.Reduce.{Reduce}
use Rattle.loop_syntax.specs.declared.statement.App.{App}
use Rattle.loop_syntax.specs.declared.statement.Stmt.{Stmt}
use Rattle.loop_syntax.specs.declared.statement.Stmt.TheOpen.{Stmt-F, ParLoop-F}
use Rattle.loop_syntax.specs.declared.statement.Stmt.TheOpen as layers
use Rattle.loop_syntax.specs.declared.statement.Stmt.TheFolds.{fold-Stmt}
use Rattle.loop_syntax.specs.declared.program.TableDecl.{TableDecl}
use Rattle.loop_syntax.specs.declared.program.TableDecl.TheVariants as tables
use Rattle.loop_syntax.specs.declared.program.Func.{Func}
use Rattle.loop_syntax.specs.declared.program.Program.{Program}

-- a name where it stands
pub record Spelled : Type 0 where
  pub text : List ℕ
  pub place : Place

abbrev pub spelled : Name → Spelled
spelled x = record { text = x.text.items; place = x.place }

-- expressions
pub data Tree : Type 0 where
  TInt : ℤ → Place → Tree
  TVar : Spelled → Tree
  TCell : Spelled → Tree → Tree → Tree
  TRows : Spelled → Tree
  TCols : Spelled → Tree
  TNeg : Tree → Place → Tree
  TBin : BinOp → Place → Tree → Tree → Tree

abbrev pub tree_of : Expr → Tree
tree_of (Int n p) = TInt n p
tree_of (Var x) = TVar (spelled x)
tree_of (Cell' x p a q b) = TCell (spelled x) (tree_of a) (tree_of b)
tree_of (Rows x) = TRows (spelled x)
tree_of (Cols x) = TCols (spelled x)
tree_of (Neg' p a at) = TNeg (tree_of a) at
tree_of (Bin' op at p a q b) = TBin op at (tree_of a) (tree_of b)

-- the fixed row of a carry item of cells
pub data RowTree : Type 0 where
  RVar : Spelled → RowTree
  RInt : ℤ → RowTree

abbrev pub row_of : RowAt → RowTree
row_of (rows.Var x) = RVar (spelled x)
row_of (rows.Int n) = RInt n

-- what a parallel loop carries of a table
pub data CarryTree : Type 0 where
  CRows : Spelled → Spelled → CarryTree
  CCells : Spelled → RowTree → Spelled → CarryTree

abbrev pub carry_of : Carry → CarryTree
carry_of (carries.Rows t i) = CRows (spelled t) (spelled i)
carry_of (carries.Cells t k j) = CCells (spelled t) (row_of k) (spelled j)

-- a reduced variable
pub record ReduceTree : Type 0 where
  pub target : Spelled
  pub op : Op

abbrev pub reduce_of : Reduce → ReduceTree
reduce_of r = record { target = spelled r.target; op = r.op }

-- a function with its arguments
pub record AppTree : Type 0 where
  pub callee : Spelled
  pub args : List Tree

abbrev pub app_of : App → AppTree
app_of a = record { callee = spelled a.callee; args = map tree_of a.args.items }

-- what stands before the body of a parallel loop
pub record ParHead : Type 0 where
  pub place : Place
  pub var : Spelled
  pub from : Tree
  pub to : Tree
  pub carry_place : Place
  pub carries : List CarryTree
  pub reduces : List ReduceTree

-- statements, and lists of them
mutual
  pub data Node : Type 0 where
    NLet : Spelled → Tree → Node
    NSet : Spelled → Tree → Node
    NPut : Spelled → Tree → Tree → Tree → Node
    NIf : Tree → Nodes → Nodes → Node
    NWhile : Tree → Nodes → Node
    NLoop : Spelled → Tree → Tree → Nodes → Node
    NPar : ParHead → Nodes → Node
    NFold : Spelled → Tree → Node
    NCall : Spelled → AppTree → Node
    NBoth : Spelled → AppTree → Spelled → AppTree → Node
    NPrint : Place → Tree → Node
    NEmit : Place → Spelled → Node
    NLeave : Spelled → Tree → Node
    NFill : Spelled → Spelled → Spelled → List Tree → Node

  pub data Nodes : Type 0 where
    Last : Nodes
    Then : Node → Nodes → Nodes

-- a list of statements
abbrev pub nodes : List Node → Nodes
nodes [] = Last
nodes (n ∷ ns) = Then n (nodes ns)

-- one statement, with the trees of those inside it in their place
abbrev pub stmt_step : Stmt-F Node (ParHead × Nodes) → Node
stmt_step (layers.Let x e) = NLet (spelled x) (tree_of e)
stmt_step (layers.Set x e) = NSet (spelled x) (tree_of e)
stmt_step (layers.Put t i j e) = NPut (spelled t) (tree_of i) (tree_of j) (tree_of e)
stmt_step (layers.If e taken other) = NIf (tree_of e) (nodes taken.items) (nodes other.items)
stmt_step (layers.While e inside) = NWhile (tree_of e) (nodes inside.items)
stmt_step (layers.Loop i a b inside) =
    NLoop (spelled i) (tree_of a) (tree_of b) (nodes inside.items)
stmt_step (layers.Par p) = NPar p.0 p.1
stmt_step (layers.Fold x e) = NFold (spelled x) (tree_of e)
stmt_step (layers.Call x f) = NCall (spelled x) (app_of f)
stmt_step (layers.Both x f y g) = NBoth (spelled x) (app_of f) (spelled y) (app_of g)
stmt_step (layers.Print p e) = NPrint p (tree_of e)
stmt_step (layers.Emit p t) = NEmit p (spelled t)
stmt_step (layers.Leave x e) = NLeave (spelled x) (tree_of e)
stmt_step (layers.Fill f t r es) =
    NFill (spelled f) (spelled t) (spelled r) (map tree_of es.items)

abbrev pub par_step : ParLoop-F Node (ParHead × Nodes) → ParHead × Nodes
par_step p = (
  record {
    place = p.place;
    var = spelled p.var;
    from = tree_of p.from;
    to = tree_of p.to;
    carry_place = p.carry_place;
    carries = map carry_of p.carries.items;
    reduces = map reduce_of p.reduces.items;
  },
  nodes p.body.items,
)

abbrev pub node_of : Stmt → Node
node_of = fold-Stmt Node (ParHead × Nodes) stmt_step par_step

abbrev pub nodes_of : List Stmt → Nodes
nodes_of ss = nodes (map node_of ss)

-- statements and what comes after them
abbrev pub follow : List Stmt → Nodes → Nodes
follow [] rest = rest
follow (s ∷ ss) rest = Then (node_of s) (follow ss rest)

-- declarations
pub data TableTree : Type 0 where
  TInput : Spelled → TableTree
  TMade : Spelled → Tree → Tree → TableTree

abbrev pub table_of : TableDecl → TableTree
table_of (tables.Input x) = TInput (spelled x)
table_of (tables.Made x a b) = TMade (spelled x) (tree_of a) (tree_of b)

pub record FuncTree : Type 0 where
  pub name : Spelled
  pub params : List Spelled
  pub body : Nodes
  pub value : Tree

abbrev pub func_of : Func → FuncTree
func_of f = record {
  name = spelled f.name;
  params = map spelled f.params.items;
  body = nodes_of f.body.items;
  value = tree_of f.result;
}

-- a whole program
pub record ProgramTree : Type 0 where
  pub tables : List TableTree
  pub funcs : List FuncTree
  pub main : Nodes

abbrev pub program_of : Program → ProgramTree
program_of p = record {
  tables = map table_of p.tables.items;
  funcs = map func_of p.funcs.items;
  main = nodes_of p.main.items;
}
