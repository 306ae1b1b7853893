-- How many blocks the code of a program may have: a sum over its tree.
use Rattle.std.specs.Prelude.{ℕ, ◌+◌, ◌*◌, List}
use Rattle.std.specs.List.{sum_by}
use Rattle.loop_syntax.specs.declared.Expr.{Expr}
use Rattle.loop_syntax.specs.declared.Expr.TheVariants.{Int, Var, Cell', Rows, Cols, Neg', Bin'}
use Rattle.loop_syntax.specs.declared.Stmt.{Stmt, Row_of-Stmt, end_of-Stmt, more_of-Stmt}
use Rattle.loop_syntax.specs.declared.Stmt.TheVariants.{Let, Set, Put, If', While', Loop', Par'}
use Rattle.loop_syntax.specs.declared.Stmt.TheVariants.{Fold, Call, Both, Print, Emit, Leave, Fill}
use Rattle.loop_syntax.specs.declared.Func.{Func}
use Rattle.loop_syntax.specs.declared.TableDecl.{TableDecl}
use Rattle.loop_syntax.specs.declared.TableDecl.TheVariants.{Input, Made}
use Rattle.loop_syntax.specs.declared.Program.{Program}

-- blocks for a `par` and for a `both`
abbrev pub for_parallel : ℕ
for_parallel = 64

-- blocks for another statement
abbrev pub for_statement : ℕ
for_statement = 16

-- blocks for a node of an expression
abbrev pub for_node : ℕ
for_node = 8

-- blocks for main, for a function and for a table
abbrev pub for_part : ℕ
for_part = 8

-- the nodes of an expression
abbrev pub nodes : Expr → ℕ
nodes (Int n place) = 1
nodes (Var x) = 1
nodes (Cell' t p a q b) = 1 + nodes a + nodes b
nodes (Rows t) = 1
nodes (Cols t) = 1
nodes (Neg' p a place) = 1 + nodes a
nodes (Bin' o place p a q b) = 1 + nodes a + nodes b

-- so many for each node of an expression
abbrev pub blocks_of_expr : Expr → ℕ
blocks_of_expr e = for_node * nodes e

abbrev pub blocks_of_exprs : List Expr → ℕ
blocks_of_exprs es = sum_by blocks_of_expr es

-- a `par` or a `both` counts most; behind each statement come the nodes of its expressions and the
-- statements inside
abbrev mutual
  pub blocks : Stmt → ℕ
  blocks (Let x e) = for_statement + blocks_of_expr e
  blocks (Set x e) = for_statement + blocks_of_expr e
  blocks (Put t a b e) = for_statement + blocks_of_expr a + blocks_of_expr b + blocks_of_expr e
  blocks (If' e p body q other) =
      for_statement + blocks_of_expr e + blocks_of_all body + blocks_of_all other
  blocks (While' e p body) = for_statement + blocks_of_expr e + blocks_of_all body
  blocks (Loop' x a b p body) =
      for_statement + blocks_of_expr a + blocks_of_expr b + blocks_of_all body
  blocks (Par' place x a b carry_place carries reduces p body) =
      for_parallel + blocks_of_expr a + blocks_of_expr b + blocks_of_all body
  blocks (Fold x e) = for_statement + blocks_of_expr e
  blocks (Call x f) = for_statement + blocks_of_exprs f.args.items
  blocks (Both x f y g) = for_parallel + blocks_of_exprs f.args.items + blocks_of_exprs g.args.items
  blocks (Print place e) = for_statement + blocks_of_expr e
  blocks (Emit place t) = for_statement
  blocks (Leave x e) = for_statement + blocks_of_expr e
  blocks (Fill f t r es) = for_statement + blocks_of_exprs es.items

  pub blocks_of_all : {m : _} → Row_of-Stmt m → ℕ
  blocks_of_all end_of-Stmt = 0
  blocks_of_all (more_of-Stmt first rest) = blocks first + blocks_of_all rest

abbrev pub blocks_of_list : List Stmt → ℕ
blocks_of_list body = sum_by blocks body

-- so many for a function, and what its statements and its result have
abbrev pub blocks_of_func : Func → ℕ
blocks_of_func f = for_part + blocks_of_list f.body.items + blocks_of_expr f.result

-- so many for a table, and what its size has
abbrev pub blocks_of_decl : TableDecl → ℕ
blocks_of_decl (Input t) = for_part
blocks_of_decl (Made t a b) = for_part + blocks_of_expr a + blocks_of_expr b

-- so many for main, and what its statements, the tables and the functions have
abbrev pub blocks_of_program : Program → ℕ
blocks_of_program p =
    for_part + sum_by blocks_of_decl p.tables.items + sum_by blocks_of_func p.funcs.items
    + blocks_of_list p.main.items
