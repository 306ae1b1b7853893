-- Whether there is code for a program, by its tree alone.
use Rattle.std.proofs.Common.{◌≡◌, ◌∷◌, [], Bool, true, false, List, map, Vec, refl, sym, ap, ◌∙◌}
use Rattle.std.specs.Prelude.{◌&&◌}
use Rattle.std.specs.declared.alloc.Global.{Global}
use Rattle.loop_syntax.specs.declared.Stmt.{Stmt, Row_of-Stmt, end_of-Stmt, more_of-Stmt}
use Rattle.loop_syntax.specs.declared.Stmt.{items-the_row-Stmt, items_hidden-the_row-Stmt-0}
use Rattle.loop_syntax.specs.declared.Stmt.TheBlock.{hidden-the_row-Stmt-0}
use Rattle.loop_syntax.specs.declared.Stmt.TheVariants.{Let, Set, Put, If', While', Loop', Par'}
use Rattle.loop_syntax.specs.declared.Stmt.TheVariants.{Fold, Call, Both, Print, Emit, Leave, Fill}
use Rattle.loop_syntax.specs.declared.Func.{Func}
use Rattle.loop_syntax.specs.declared.Program.{Program}
use Rattle.loop_syntax.specs.Tree.{Node, NIf, NWhile, NLoop, NPar, NLeave, NFill, Nodes, Last, Then}
use Rattle.loop_syntax.specs.Tree.{nodes_of, FuncTree, func_of, ProgramTree, program_of}
use Rattle.loop_rules.proofs.TreeNodes.{node_rows, rows_of, row_nodes}
use Rattle.scene_laws.specs.Built.{is_built, all_are_built, list_is_built, functions_are_built}
use Rattle.scene_laws.specs.Built.{program_is_built}

-- ---- vectors

built_of_row : {m : _} (row : Row_of-Stmt m)
    → all_are_built row ≡ list_is_built (items-the_row-Stmt _ row)
built_of_row end_of-Stmt = refl
built_of_row (more_of-Stmt first rest) =
    ap (λ (b : Bool). is_built first && b) (built_of_row rest)

-- there is code for the statements of a vector where there is for its row
pub built_of_vec : (body : Vec Stmt Global)
    → all_are_built (hidden-the_row-Stmt-0 body) ≡ list_is_built body.items
built_of_vec body =
    built_of_row (hidden-the_row-Stmt-0 body)
    ∙ ap (λ (ss : List Stmt). list_is_built ss) (items_hidden-the_row-Stmt-0 body)

-- ---- trees

-- two answers together are those of the same two
both_same : {a b c d : Bool} → a ≡ c → b ≡ d → (a && b) ≡ (c && d)
both_same {b = b} {c = c} p q = ap (λ (x : Bool). x && b) p ∙ ap (λ (x : Bool). c && x) q

abbrev mutual
  built_node : Node → Bool
  built_node (NIf e body other) = built_nodes body && built_nodes other
  built_node (NWhile e body) = built_nodes body
  built_node (NLoop x a b body) = built_nodes body
  built_node (NPar head body) = built_nodes body
  built_node (NLeave x e) = false
  built_node (NFill f t r es) = false
  built_node _ = true

  built_nodes : Nodes → Bool
  built_nodes Last = true
  built_nodes (Then n ns) = built_node n && built_nodes ns

mutual
  stmt_same : (s : Stmt) → is_built s ≡ built_node (node_rows s)
  stmt_same (Let x e) = refl
  stmt_same (Set x e) = refl
  stmt_same (Put t a b e) = refl
  stmt_same (If' e p body q other) = both_same (row_same body) (row_same other)
  stmt_same (While' e p body) = row_same body
  stmt_same (Loop' x a b p body) = row_same body
  stmt_same (Par' place x a b carry_place carries reduces p body) = row_same body
  stmt_same (Fold x e) = refl
  stmt_same (Call x f) = refl
  stmt_same (Both x f y g) = refl
  stmt_same (Print place e) = refl
  stmt_same (Emit place t) = refl
  stmt_same (Leave x e) = refl
  stmt_same (Fill f t r es) = refl

  row_same : {m : _} (row : Row_of-Stmt m) → all_are_built row ≡ built_nodes (row_nodes row)
  row_same end_of-Stmt = refl
  row_same (more_of-Stmt s rest) =
      both_same (stmt_same s ∙ ap built_node (sym (rows_of s))) (row_same rest)

list_same : (ss : List Stmt) → list_is_built ss ≡ built_nodes (nodes_of ss)
list_same [] = refl
list_same (s ∷ ss) = both_same (stmt_same s ∙ ap built_node (sym (rows_of s))) (list_same ss)

abbrev built_funcs : List FuncTree → Bool
built_funcs [] = true
built_funcs (f ∷ fs) = built_nodes f.body && built_funcs fs

funcs_same : (fs : List Func) → functions_are_built fs ≡ built_funcs (map func_of fs)
funcs_same [] = refl
funcs_same (f ∷ fs) = both_same (list_same f.body.items) (funcs_same fs)

abbrev built_program : ProgramTree → Bool
built_program p = built_funcs p.funcs && built_nodes p.main

program_same : (p : Program) → program_is_built p ≡ built_program (program_of p)
program_same p = both_same (funcs_same p.funcs.items) (list_same p.main.items)

-- of programs with one tree, there is code for both or for neither
pub built_of_tree : (p q : Program) → program_of p ≡ program_of q
    → program_is_built p ≡ program_is_built q
built_of_tree p q same = program_same p ∙ ap built_program same ∙ sym (program_same q)
