-- The first broken rule of statements and of whole programs is that of their trees.
use Rattle.std.proofs.Common.{◌≡◌, ◌++◌, ◌∷◌, [], ℕ, suc, List, map, length, Option, refl, sym, ap}
use Rattle.std.proofs.Common.{◌∙◌}
use denote.Hole.Carrier
use Rattle.loop_syntax.specs.declared.expression.Name.{Name}
use Rattle.loop_syntax.specs.declared.statement.Stmt.{Stmt, Row_of-Stmt, end_of-Stmt, more_of-Stmt}
use Rattle.loop_syntax.specs.declared.statement.Stmt.TheViews.{out-Stmt}
use Rattle.loop_syntax.specs.declared.statement.Stmt.TheVariants.{Let, Set, Put, If', While', Loop'}
use Rattle.loop_syntax.specs.declared.statement.Stmt.TheVariants.{Par', Fold, Call, Both, Print}
use Rattle.loop_syntax.specs.declared.statement.Stmt.TheVariants.{Emit, Leave, Fill}
use Rattle.loop_syntax.specs.Tree.{spelled, tree_of, app_of, carry_of, reduce_of, ParHead, Node}
use Rattle.loop_syntax.specs.Tree.{Nodes, node_of, nodes_of}
use Rattle.loop_rules.specs.declared.fault.Fault.{Fault}
use Rattle.loop_rules.specs.Declarations.{declared_in, declared_all, declared_list}
use Rattle.loop_rules.specs.Search.{lowest_at, lowest_in, resolved_rules}
use Rattle.loop_rules.specs.Sites.{Site, Spot, site, the_loop, Assigns, Folds, AssignsBoth}
use Rattle.loop_rules.specs.Sites.{Declares, NamesTable, WritesCell, Shows, Parallel, Leaves}
use Rattle.loop_rules.specs.Sites.{LeavesAll, in_whole}
use Rattle.loop_rules.specs.Sites.{in_app, in_carries, in_stmt, in_all, in_list, in_loop, in_par}
use Rattle.loop_rules.specs.Sites.{spot_after, spot_of_list}
use Rattle.loop_rules.specs.Targets.{targets_all}
use Rattle.loop_rules.proofs.TreeParts.{spot_tree, chain, first, table_low, whole_low, app_low}
use Rattle.loop_rules.proofs.TreeParts.{carries_low, declares_low, par_low}
use Rattle.loop_rules.proofs.TreeNodes.{node_rows, rows_of, row_nodes}
use Rattle.loop_rules.proofs.TreeRules.{TreeSpot, low_uses, low_table, low_whole, low_app}
use Rattle.loop_rules.proofs.TreeRules.{low_carries}
use Rattle.loop_rules.proofs.TreeRules.{low_par, low_declares, low_assigns, low_both, low_put}
use Rattle.loop_rules.proofs.TreeRules.{low_shows, behind, behind_all, low_node, low_nodes}
use Rattle.loop_rules.proofs.TreeRules.{with_loop, with_par}

-- ---- where a statement ends

after_step : (w : Spot) (s : Stmt) → spot_tree (spot_after w s) ≡ behind (spot_tree w) (node_rows s)
after_step w (Let x e) = refl
after_step w (Set x e) = refl
after_step w (Put t a b e) = refl
after_step w (If' e p body q other) = refl
after_step w (While' e p body) = refl
after_step w (Loop' x a b p body) = refl
after_step w (Par' place x a b carry_place carries reduces p body) = refl
after_step w (Fold x e) = refl
after_step w (Call x f) = refl
after_step w (Both x f y g) = refl
after_step w (Print place e) = refl
after_step w (Emit place t) = refl
after_step w (Leave x e) = refl
after_step w (Fill f t r es) = refl

pub after_low : (w : Spot) (s : Stmt) → spot_tree (spot_after w s) ≡ behind (spot_tree w) (node_of s)
after_low w s = after_step w s ∙ ap (behind (spot_tree w)) (sym (rows_of s))

-- ---- statements

mutual
  step_low : (w : Spot) (b : Option Fault) (s : Stmt) → lowest_in resolved_rules b (in_stmt w s) ≡ low_node (spot_tree w) b (node_rows s)
  step_low w b (Let x e) = first b _ _ (site w (Declares x)) (in_whole w e) (declares_low w b x) (whole_low w _ e)
  step_low w b (Set x e) = first b _ _ (site w (Assigns x)) (in_whole w e) refl (whole_low w (low_assigns (spot_tree w) b (spelled x)) e)
  step_low w b (Put t a c e) =
      let one = low_table (spot_tree w) b (spelled t) in
      let two = low_put (spot_tree w) one (spelled t) in
      let three = low_whole (spot_tree w) two (tree_of a) in
      let four = low_whole (spot_tree w) three (tree_of c) in
      let five = low_whole (spot_tree w) four (tree_of e) in
      first b one five (site w (NamesTable t)) (site w (WritesCell t a c) ∷ in_whole w a ++ (in_whole w c ++ in_whole w e)) (table_low w b t)
      (first one two five (site w (WritesCell t a c)) (in_whole w a ++ (in_whole w c ++ in_whole w e)) refl
      (chain two three five (in_whole w a) (in_whole w c ++ in_whole w e) (whole_low w two a)
      (chain three four five (in_whole w c) (in_whole w e) (whole_low w three c) (whole_low w four e))))
  step_low w b (If' e p body q other) =
      let one = low_whole (spot_tree w) b (tree_of e) in
      let two = low_nodes (spot_tree w) one (row_nodes body) in
      let three = low_nodes (spot_tree w) two (row_nodes other) in
      chain b one three (in_whole w e) (in_all w body ++ in_all w other) (whole_low w b e)
      (chain one two three (in_all w body) (in_all w other) (row_low w one body) (row_low w two other))
  step_low w b (While' e p body) =
      let one = low_whole (spot_tree w) b (tree_of e) in
      chain b one _ (in_whole w e) (in_all w body) (whole_low w b e) (row_low w one body)
  step_low w b (Loop' x a c p body) =
      let one = low_declares (spot_tree w) b (spelled x) in
      let two = low_whole (spot_tree w) one (tree_of a) in
      let three = low_whole (spot_tree w) two (tree_of c) in
      let four = low_nodes (with_loop (spot_tree w) (spelled x)) three (row_nodes body) in
      first b one four (site w (Declares x)) (in_whole w a ++ (in_whole w c ++ in_all (in_loop w x) body)) (declares_low w b x)
      (chain one two four (in_whole w a) (in_whole w c ++ in_all (in_loop w x) body) (whole_low w one a)
      (chain two three four (in_whole w c) (in_all (in_loop w x) body) (whole_low w two c) (row_low (in_loop w x) three body)))
  step_low w b (Par' place x a c carry_place carries reduces p body) =
      let head : ParHead = record { place = place; var = spelled x; from = tree_of a; to = tree_of c; carry_place = carry_place; carries = map carry_of carries.items; reduces = map reduce_of reduces.items } in
      let v = in_par w x carries.items reduces.items in
      let par = site w (Parallel place carry_place (the_loop w x carries.items reduces.items)) in
      let zero = low_par (spot_tree w) b head in
      let one = low_declares (spot_tree w) zero (spelled x) in
      let two = low_whole (spot_tree w) one (tree_of a) in
      let three = low_whole (spot_tree w) two (tree_of c) in
      let four = low_carries (spot_tree w) three (map carry_of carries.items) in
      let five = low_nodes (with_par (spot_tree w) (spelled x)) four (row_nodes body) in
      let left = site w (LeavesAll (targets_all body)) in
      first b zero five par (left ∷ site w (Declares x) ∷ in_whole w a ++ (in_whole w c ++ (in_carries w carries.items ++ in_all v body)))
      (par_low w b place carry_place x (tree_of a) (tree_of c) carries.items reduces.items)
      (first zero zero five left (site w (Declares x) ∷ in_whole w a ++ (in_whole w c ++ (in_carries w carries.items ++ in_all v body))) refl
      (first zero one five (site w (Declares x)) (in_whole w a ++ (in_whole w c ++ (in_carries w carries.items ++ in_all v body))) (declares_low w zero x)
      (chain one two five (in_whole w a) (in_whole w c ++ (in_carries w carries.items ++ in_all v body)) (whole_low w one a)
      (chain two three five (in_whole w c) (in_carries w carries.items ++ in_all v body) (whole_low w two c)
      (chain three four five (in_carries w carries.items) (in_all v body) (carries_low w carries.items three) (row_low v four body))))))
  step_low w b (Fold x e) = first b _ _ (site w (Folds x)) (in_whole w e) refl (whole_low w (low_assigns (spot_tree w) b (spelled x)) e)
  step_low w b (Call x f) = first b _ _ (site w (Assigns x)) (in_app w f) refl (app_low w (low_assigns (spot_tree w) b (spelled x)) f)
  step_low w b (Both x f y g) =
      let one = low_assigns (spot_tree w) b (spelled x) in
      let two = low_app (spot_tree w) one (app_of f) in
      let three = low_assigns (spot_tree w) two (spelled y) in
      let four = low_both three (spelled x) (spelled y) in
      let five = low_app (spot_tree w) four (app_of g) in
      first b one five (site w (Assigns x)) (in_app w f ++ (site w (Assigns y) ∷ site w (AssignsBoth x y) ∷ in_app w g)) refl
      (chain one two five (in_app w f) (site w (Assigns y) ∷ site w (AssignsBoth x y) ∷ in_app w g) (app_low w one f)
      (first two three five (site w (Assigns y)) (site w (AssignsBoth x y) ∷ in_app w g) refl
      (first three four five (site w (AssignsBoth x y)) (in_app w g) refl (app_low w four g))))
  step_low w b (Print place e) = first b _ _ (site w (Shows place)) (in_whole w e) refl (whole_low w (low_shows (spot_tree w) b place) e)
  step_low w b (Emit place t) =
      first b (low_shows (spot_tree w) b place) _ (site w (Shows place)) (site w (NamesTable t) ∷ []) refl (table_low w (low_shows (spot_tree w) b place) t)
  step_low w b (Leave x e) = first b _ _ (site w (Leaves x)) (in_whole w e) refl (whole_low w (low_uses (spot_tree w) b (spelled x)) e)
  step_low w b (Fill f t r es) = refl

  row_low : {m : _} (w : Spot) (b : Option Fault) (row : Row_of-Stmt m) → lowest_in resolved_rules b (in_all w row) ≡ low_nodes (spot_tree w) b (row_nodes row)
  row_low w b end_of-Stmt = refl
  row_low w b (more_of-Stmt s rest) =
      chain b (low_node (spot_tree w) b (node_of s)) _ (in_stmt w s) (in_all (spot_after w s) rest) (step_low w b s ∙ ap (low_node (spot_tree w) b) (sym (rows_of s)))
      (row_low (spot_after w s) (low_node (spot_tree w) b (node_of s)) rest
      ∙ ap {A = TreeSpot} {B = Option Fault} (λ v. low_nodes v (low_node (spot_tree w) b (node_of s)) (row_nodes rest)) (after_low w s))

pub stmt_low : (w : Spot) (b : Option Fault) (s : Stmt) → lowest_in resolved_rules b (in_stmt w s) ≡ low_node (spot_tree w) b (node_of s)
stmt_low w b s = step_low w b s ∙ ap (low_node (spot_tree w) b) (sym (rows_of s))
