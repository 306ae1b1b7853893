-- The tree of each statement, with rows of statements inside.
use Rattle.std.proofs.Common.{◌≡◌, List, [], ◌∷◌, refl, ap, sym, ◌∙◌}
use Rattle.std.specs.Prelude.{map}
use denote.Hole.Carrier
use Rattle.tp_value.specs.declared.values.Place.{Place}
use Rattle.loop_syntax.specs.declared.expression.Name.{Name}
use Rattle.loop_syntax.specs.declared.expression.Expr.{Expr}
use Rattle.loop_syntax.specs.declared.statement.App.{App}
use Rattle.loop_syntax.specs.declared.statement.Stmt.{Stmt, Row_of-Stmt, end_of-Stmt, more_of-Stmt}
use Rattle.loop_syntax.specs.declared.statement.Stmt.{items-the_row-Stmt, map-Stmt}
use Rattle.loop_syntax.specs.declared.statement.Stmt.TheViews.{out-Stmt}
use Rattle.loop_syntax.specs.declared.statement.Stmt.TheOpen as layers
use Rattle.loop_syntax.specs.declared.statement.Stmt.TheFolds.{fold-ParLoop, fold_out-Stmt}
use Rattle.loop_syntax.specs.declared.statement.Stmt.TheFolds.{fold-roll-ParLoop}
use Rattle.loop_syntax.specs.declared.statement.Stmt.TheVariants.{Let, Set, Put, If', While', Loop'}
use Rattle.loop_syntax.specs.declared.statement.Stmt.TheVariants.{Par', Fold, Call, Both, Print}
use Rattle.loop_syntax.specs.declared.statement.Stmt.TheVariants.{Emit, Leave, Fill}
use Rattle.loop_syntax.specs.declared.statement.Stmt.TheBlock.{shown-the_row-Stmt-0}
use Rattle.loop_syntax.specs.declared.Stmt.{items_shown-the_row-Stmt-0}
use Rattle.loop_syntax.specs.declared.statement.ParLoop.{ParLoop, roll-ParLoop}
use Rattle.loop_syntax.specs.Tree.{spelled, tree_of, app_of, carry_of, reduce_of, Node, NLet, NSet}
use Rattle.loop_syntax.specs.Tree.{NPut, NIf, NWhile, NLoop, NPar, NFold, NCall, NBoth, NPrint}
use Rattle.loop_syntax.specs.Tree.{NEmit, NLeave, NFill, Nodes, Last, Then, ParHead, stmt_step}
use Rattle.loop_syntax.specs.Tree.{par_step, nodes, node_of, nodes_of}

abbrev pub node_step : Stmt → Node
node_step s = stmt_step (map-Stmt Stmt (layers.ParLoop-F Stmt (Unit {0})) Node (ParHead × Nodes) node_of (fold-ParLoop Node (ParHead × Nodes) stmt_step par_step) (out-Stmt s))

pub node_of-step : (s : Stmt) → node_of s ≡ node_step s
node_of-step s = fold_out-Stmt Node (ParHead × Nodes) stmt_step par_step s

-- the trees of a row
abbrev pub row_nodes : {m : _} → Row_of-Stmt m → Nodes
row_nodes row = nodes (map node_of (items-the_row-Stmt _ row))

-- the tree of a statement, with the trees of its rows
abbrev pub node_rows : Stmt → Node
node_rows (Let x e) = NLet (spelled x) (tree_of e)
node_rows (Set x e) = NSet (spelled x) (tree_of e)
node_rows (Put t i j e) = NPut (spelled t) (tree_of i) (tree_of j) (tree_of e)
node_rows (If' e p body q other) = NIf (tree_of e) (row_nodes body) (row_nodes other)
node_rows (While' e p body) = NWhile (tree_of e) (row_nodes body)
node_rows (Loop' x a b p body) = NLoop (spelled x) (tree_of a) (tree_of b) (row_nodes body)
node_rows (Par' place x a b carry_place carries reduces p body) =
    NPar (record { place = place; var = spelled x; from = tree_of a; to = tree_of b; carry_place = carry_place; carries = map carry_of carries.items; reduces = map reduce_of reduces.items }) (row_nodes body)
node_rows (Fold x e) = NFold (spelled x) (tree_of e)
node_rows (Call x f) = NCall (spelled x) (app_of f)
node_rows (Both x f y g) = NBoth (spelled x) (app_of f) (spelled y) (app_of g)
node_rows (Print place e) = NPrint place (tree_of e)
node_rows (Emit place t) = NEmit place (spelled t)
node_rows (Leave x e) = NLeave (spelled x) (tree_of e)
node_rows (Fill f t r es) = NFill (spelled f) (spelled t) (spelled r) (map tree_of es.items)

par_rows : (l : layers.ParLoop-F Stmt ParLoop) → fold-ParLoop Node (ParHead × Nodes) stmt_step par_step (roll-ParLoop l)
    ≡ (record { place = l.place; var = spelled l.var; from = tree_of l.from; to = tree_of l.to; carry_place = l.carry_place; carries = map carry_of l.carries.items; reduces = map reduce_of l.reduces.items }, nodes_of l.body.items)
par_rows l = fold-roll-ParLoop Node (ParHead × Nodes) stmt_step par_step l

step_rows : (s : Stmt) → node_step s ≡ node_rows s
unfolding out-Stmt Carrier.out
step_rows (Let x e) = refl
step_rows (Set x e) = refl
step_rows (Put t i j e) = refl
step_rows (If' e p body q other) =
    ap (λ xs. NIf (tree_of e) (nodes (map node_of xs)) (nodes (map node_of (shown-the_row-Stmt-0 q other).items))) (items_shown-the_row-Stmt-0 p body)
    ∙ ap (λ ys. NIf (tree_of e) (row_nodes body) (nodes (map node_of ys))) (items_shown-the_row-Stmt-0 q other)
step_rows (While' e p body) = ap (λ xs. NWhile (tree_of e) (nodes (map node_of xs))) (items_shown-the_row-Stmt-0 p body)
step_rows (Loop' x a b p body) = ap (λ xs. NLoop (spelled x) (tree_of a) (tree_of b) (nodes (map node_of xs))) (items_shown-the_row-Stmt-0 p body)
step_rows (Par' place x a b carry_place carries reduces p body) =
    let head : ParHead = record { place = place; var = spelled x; from = tree_of a; to = tree_of b; carry_place = carry_place; carries = map carry_of carries.items; reduces = map reduce_of reduces.items } in
    ap (λ (r : ParHead × Nodes). NPar r.0 r.1)
    (par_rows (record { place = place; var = x; from = a; to = b; carry_place = carry_place; carries = carries; reduces = reduces; body = shown-the_row-Stmt-0 p body }))
    ∙ ap (λ xs. NPar head (nodes (map node_of xs))) (items_shown-the_row-Stmt-0 p body)
step_rows (Fold x e) = refl
step_rows (Call x f) = refl
step_rows (Both x f y g) = refl
step_rows (Print place e) = refl
step_rows (Emit place t) = refl
step_rows (Leave x e) = refl
step_rows (Fill f t r es) = refl

pub rows_of : (s : Stmt) → node_of s ≡ node_rows s
rows_of s = node_of-step s ∙ step_rows s
