-- The number of blocks that a program is counted with, by its tree alone.
use Rattle.std.proofs.Common.{◌≡◌, ◌∷◌, [], ℕ, ◌+◌, ◌*◌, List, map, refl, sym, ap, ◌∙◌}
use Rattle.std.specs.List.{sum_by}
use Rattle.std.proofs.lemmas.List.Sums.{sum_by-cons}
use Rattle.loop_syntax.specs.declared.expression.Expr.{Expr}
use Rattle.loop_syntax.specs.declared.expression.Expr.TheVariants.{Int, Var, Cell', Rows, Cols}
use Rattle.loop_syntax.specs.declared.expression.Expr.TheVariants.{Neg', Bin'}
use Rattle.loop_syntax.specs.declared.statement.Stmt.{Stmt, Row_of-Stmt, end_of-Stmt, more_of-Stmt}
use Rattle.loop_syntax.specs.declared.statement.Stmt.TheVariants.{Let, Set, Put, If', While', Loop'}
use Rattle.loop_syntax.specs.declared.statement.Stmt.TheVariants.{Par', Fold, Call, Both, Print}
use Rattle.loop_syntax.specs.declared.statement.Stmt.TheVariants.{Emit, Leave, Fill}
use Rattle.loop_syntax.specs.declared.program.Func.{Func}
use Rattle.loop_syntax.specs.declared.program.Program.{Program}
use Rattle.loop_syntax.specs.declared.program.TableDecl.{TableDecl}
use Rattle.loop_syntax.specs.declared.program.TableDecl.TheVariants.{Input, Made}
use Rattle.loop_syntax.specs.Tree.{Tree, TInt, TVar, TCell, TRows, TCols, TNeg, TBin, tree_of, Node}
use Rattle.loop_syntax.specs.Tree.{NLet, NSet, NPut, NIf, NWhile, NLoop, NPar, NFold, NCall, NBoth}
use Rattle.loop_syntax.specs.Tree.{NPrint, NEmit, NLeave, NFill, Nodes, Last, Then, nodes_of}
use Rattle.loop_syntax.specs.Tree.{TableTree, TInput}
use Rattle.loop_syntax.specs.Tree.{TMade, table_of, FuncTree, func_of, ProgramTree, program_of}
use Rattle.loop_rules.proofs.TreeNodes.{node_rows, rows_of, row_nodes}
use Rattle.scene_laws.specs.Count.{nodes, blocks_of_expr, blocks_of_exprs, blocks, blocks_of_all}
use Rattle.scene_laws.specs.Count.{blocks_of_list, blocks_of_func, blocks_of_decl}
use Rattle.scene_laws.specs.Count.{blocks_of_program}

-- a sum is that of the same numbers
two_same : {a b c d : ℕ} → a ≡ c → b ≡ d → a + b ≡ c + d
two_same {b = b} {c = c} p q = ap (λ n. n + b) p ∙ ap (λ n. c + n) q

-- ---- expressions

abbrev pub nodes_tree : Tree → ℕ
nodes_tree (TInt n place) = 1
nodes_tree (TVar x) = 1
nodes_tree (TCell t a b) = 1 + nodes_tree a + nodes_tree b
nodes_tree (TRows t) = 1
nodes_tree (TCols t) = 1
nodes_tree (TNeg a place) = 1 + nodes_tree a
nodes_tree (TBin o place a b) = 1 + nodes_tree a + nodes_tree b

nodes_same : (e : Expr) → nodes e ≡ nodes_tree (tree_of e)
nodes_same (Int n place) = refl
nodes_same (Var x) = refl
nodes_same (Cell' t p a q b) =
    ap (λ n. 1 + n + nodes b) (nodes_same a)
    ∙ ap (λ n. 1 + nodes_tree (tree_of a) + n) (nodes_same b)
nodes_same (Rows t) = refl
nodes_same (Cols t) = refl
nodes_same (Neg' p a place) = ap (λ n. 1 + n) (nodes_same a)
nodes_same (Bin' o place p a q b) =
    ap (λ n. 1 + n + nodes b) (nodes_same a)
    ∙ ap (λ n. 1 + nodes_tree (tree_of a) + n) (nodes_same b)

abbrev pub in_tree : Tree → ℕ
in_tree e = 8 * nodes_tree e

expr_same : (e : Expr) → blocks_of_expr e ≡ in_tree (tree_of e)
expr_same e = ap (λ n. 8 * n) (nodes_same e)

-- sums over lists whose items have the same numbers
sums_same : {X Y : Type 0} (f : X → ℕ) (g : Y → ℕ) (to : X → Y) → ((x : X) → f x ≡ g (to x)) →
    (xs : List X) → sum_by f xs ≡ sum_by g (map to xs)
sums_same f g to same [] = refl
sums_same f g to same (x ∷ xs) =
    sum_by-cons f x xs ∙ two_same (same x) (sums_same f g to same xs)
    ∙ sym (sum_by-cons g (to x) (map to xs))

abbrev pub in_trees : List Tree → ℕ
in_trees es = sum_by in_tree es

exprs_same : (es : List Expr) → blocks_of_exprs es ≡ in_trees (map tree_of es)
exprs_same es = sums_same blocks_of_expr in_tree tree_of expr_same es

-- ---- statements

abbrev mutual
  pub in_node : Node → ℕ
  in_node (NLet x e) = 16 + in_tree e
  in_node (NSet x e) = 16 + in_tree e
  in_node (NPut t a b e) = 16 + in_tree a + in_tree b + in_tree e
  in_node (NIf e body other) = 16 + in_tree e + in_nodes body + in_nodes other
  in_node (NWhile e body) = 16 + in_tree e + in_nodes body
  in_node (NLoop x a b body) = 16 + in_tree a + in_tree b + in_nodes body
  in_node (NPar head body) = 64 + in_tree head.from + in_tree head.to + in_nodes body
  in_node (NFold x e) = 16 + in_tree e
  in_node (NCall x f) = 16 + in_trees f.args
  in_node (NBoth x f y g) = 64 + in_trees f.args + in_trees g.args
  in_node (NPrint place e) = 16 + in_tree e
  in_node (NEmit place t) = 16
  in_node (NLeave x e) = 16 + in_tree e
  in_node (NFill f t r es) = 16 + in_trees es

  pub in_nodes : Nodes → ℕ
  in_nodes Last = 0
  in_nodes (Then n ns) = in_node n + in_nodes ns

mutual
  stmt_same : (s : Stmt) → blocks s ≡ in_node (node_rows s)
  stmt_same (Let x e) = ap (λ n. 16 + n) (expr_same e)
  stmt_same (Set x e) = ap (λ n. 16 + n) (expr_same e)
  stmt_same (Put t a b e) =
      two_same (two_same (ap (λ n. 16 + n) (expr_same a)) (expr_same b)) (expr_same e)
  stmt_same (If' e p body q other) =
      two_same (two_same (ap (λ n. 16 + n) (expr_same e)) (row_same body)) (row_same other)
  stmt_same (While' e p body) = two_same (ap (λ n. 16 + n) (expr_same e)) (row_same body)
  stmt_same (Loop' x a b p body) =
      two_same (two_same (ap (λ n. 16 + n) (expr_same a)) (expr_same b)) (row_same body)
  stmt_same (Par' place x a b carry_place carries reduces p body) =
      two_same (two_same (ap (λ n. 64 + n) (expr_same a)) (expr_same b)) (row_same body)
  stmt_same (Fold x e) = ap (λ n. 16 + n) (expr_same e)
  stmt_same (Call x f) = ap (λ n. 16 + n) (exprs_same f.args.items)
  stmt_same (Both x f y g) =
      two_same (ap (λ n. 64 + n) (exprs_same f.args.items)) (exprs_same g.args.items)
  stmt_same (Print place e) = ap (λ n. 16 + n) (expr_same e)
  stmt_same (Emit place t) = refl
  stmt_same (Leave x e) = ap (λ n. 16 + n) (expr_same e)
  stmt_same (Fill f t r es) = ap (λ n. 16 + n) (exprs_same es.items)

  row_same : {m : _} (row : Row_of-Stmt m) → blocks_of_all row ≡ in_nodes (row_nodes row)
  row_same end_of-Stmt = refl
  row_same (more_of-Stmt s rest) =
      two_same (stmt_same s ∙ ap in_node (sym (rows_of s))) (row_same rest)

list_same : (ss : List Stmt) → blocks_of_list ss ≡ in_nodes (nodes_of ss)
list_same [] = refl
list_same (s ∷ ss) =
    sum_by-cons blocks s ss ∙ two_same (stmt_same s ∙ ap in_node (sym (rows_of s))) (list_same ss)

-- ---- programs

abbrev pub in_func : FuncTree → ℕ
in_func f = 8 + in_nodes f.body + in_tree f.value

func_same : (f : Func) → blocks_of_func f ≡ in_func (func_of f)
func_same f = two_same (ap (λ n. 8 + n) (list_same f.body.items)) (expr_same f.result)

abbrev pub in_table : TableTree → ℕ
in_table (TInput x) = 8
in_table (TMade x a b) = 8 + in_tree a + in_tree b

decl_same : (d : TableDecl) → blocks_of_decl d ≡ in_table (table_of d)
decl_same (Input x) = refl
decl_same (Made x a b) = two_same (ap (λ n. 8 + n) (expr_same a)) (expr_same b)

abbrev pub in_program : ProgramTree → ℕ
in_program p = 8 + sum_by in_table p.tables + sum_by in_func p.funcs + in_nodes p.main

pub program_same : (p : Program) → blocks_of_program p ≡ in_program (program_of p)
program_same p =
    two_same (two_same (ap (λ n. 8 + n) (sums_same blocks_of_decl in_table table_of decl_same
    p.tables.items))
    (sums_same blocks_of_func in_func func_of func_same p.funcs.items))
    (list_same p.main.items)

-- programs with one tree are counted with as many blocks
pub blocks_of_tree : (p q : Program) → program_of p ≡ program_of q →
    blocks_of_program p ≡ blocks_of_program q
blocks_of_tree p q same = program_same p ∙ ap in_program same ∙ sym (program_same q)
