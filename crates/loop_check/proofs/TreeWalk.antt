-- The sites of a program are those of its tree.
use Rattle.std.proofs.Common.{◌≡◌, ◌++◌, ◌∷◌, [], ℕ, List, map, length, refl, sym, ap, ◌∙◌}
use Rattle.std.proofs.lemmas.List.{map-append}
use Rattle.loop_syntax.specs.declared.expression.Name.{Name}
use Rattle.loop_syntax.specs.declared.expression.Expr.{Expr}
use Rattle.loop_syntax.specs.declared.expression.Expr.TheVariants.{Int, Var, Cell', Rows, Cols}
use Rattle.loop_syntax.specs.declared.expression.Expr.TheVariants.{Neg', Bin'}
use Rattle.loop_syntax.specs.declared.statement.RowAt.TheVariants as row
use Rattle.loop_syntax.specs.declared.statement.Carry.{Carry}
use Rattle.loop_syntax.specs.declared.statement.Carry.TheVariants as carry
use Rattle.loop_syntax.specs.declared.statement.App.{App}
use Rattle.loop_syntax.specs.declared.statement.Stmt.{Stmt, Row_of-Stmt, end_of-Stmt, more_of-Stmt}
use Rattle.loop_syntax.specs.declared.statement.Stmt.TheVariants.{Let, Set, Put, If', While', Loop'}
use Rattle.loop_syntax.specs.declared.statement.Stmt.TheVariants.{Par', Fold, Call, Both, Print}
use Rattle.loop_syntax.specs.declared.statement.Stmt.TheVariants.{Emit, Leave, Fill}
use Rattle.loop_syntax.specs.declared.program.Func.{Func}
use Rattle.loop_syntax.specs.declared.program.TableDecl.{TableDecl}
use Rattle.loop_syntax.specs.declared.program.TableDecl.TheVariants.{Input, Made}
use Rattle.loop_syntax.specs.declared.program.Program.{Program}
use Rattle.loop_syntax.specs.Tree.{spelled, tree_of, carry_of, reduce_of, app_of, node_of, nodes_of}
use Rattle.loop_syntax.specs.Tree.{table_of, func_of, program_of}
use Rattle.loop_rules.specs.declared.part.Part.TheVariants.{OfSize, OfFunc}
use Rattle.loop_rules.specs.Declarations.{declared_list, table_of_decl}
use Rattle.loop_rules.specs.Sites as spots
use Rattle.loop_rules.specs.Sites.{Loop, Act, DeclaresTable, DeclaresFunc, DeclaresAll, Declares}
use Rattle.loop_rules.specs.Sites.{Uses, Assigns, Folds, AssignsBoth, NamesTable, ReadsCell}
use Rattle.loop_rules.specs.Sites.{WritesCell, Calls, Evaluates, Shows, Parallel, Leaves, LeavesAll, Spot, Site, site}
use Rattle.loop_rules.specs.Sites.{in_expr, in_whole, in_args, in_app, in_carries, declared_var}
use Rattle.loop_rules.specs.Sites.{in_loop, the_loop, in_par, spot_after, in_stmt, in_all, in_list}
use Rattle.loop_rules.specs.Sites.{spot_of_list, tables_of, in_decl, in_decls, in_params, func_spot}
use Rattle.loop_rules.specs.Sites.{in_func, in_funcs, main_spot, in_main, sites}
use Rattle.loop_rules.specs.Targets.{targets_in, targets_all}
use Rattle.loop_rules.proofs.TreeParts.{texts_same}
use Rattle.loop_rules.proofs.TreeNodes.{node_rows, rows_of, row_nodes}
use Rattle.loop_check.proofs.TreeSites.{LoopTree, ActTree, Declared, Used, Assigned, Folded, Read}
use Rattle.loop_check.proofs.TreeSites.{Written, Called, InParallel, Left, LeftAll, Other, SiteTree}
use Rattle.loop_check.proofs.TreeSites.{TreeSpot, stands, left_in, left_all, top}
use Rattle.loop_check.proofs.TreeSites.{expr_sites, whole_sites, arg_sites, app_sites, carry_sites}
use Rattle.loop_check.proofs.TreeSites.{behind, node_sites, nodes_sites, behind_all, table_sites}
use Rattle.loop_check.proofs.TreeSites.{tables_sites, param_sites, inside, func_sites, funcs_sites}
use Rattle.loop_check.proofs.TreeSites.{main_sites, tree_sites}

-- ---- sites

abbrev pub loop_tree : Loop → LoopTree
loop_tree r = record { outside = r.outside; var = r.var; carries = map carry_of r.carries; reduces = map reduce_of r.reduces }

abbrev pub rounds_tree : List Loop → List LoopTree
rounds_tree rs = map loop_tree rs

abbrev pub act_tree : Act → ActTree
act_tree (DeclaresTable t) = Other
act_tree (DeclaresFunc f) = Other
act_tree (DeclaresAll xs) = Other
act_tree (Declares x) = Declared (spelled x)
act_tree (Uses x) = Used (spelled x)
act_tree (Assigns x) = Assigned (spelled x)
act_tree (Folds x) = Folded (spelled x)
act_tree (AssignsBoth x y) = Other
act_tree (NamesTable t) = Other
act_tree (ReadsCell t a b) = Read (spelled t) (tree_of a) (tree_of b)
act_tree (WritesCell t a b) = Written (spelled t) (tree_of a) (tree_of b)
act_tree (Calls f n) = Called (spelled f)
act_tree (Evaluates e) = Other
act_tree (Shows place) = Other
act_tree (Parallel p q r) = InParallel (loop_tree r)
act_tree (Leaves x) = Left (spelled x)
act_tree (LeavesAll xs) = LeftAll (map spelled xs)

abbrev pub spot_tree : Spot → TreeSpot
spot_tree w = record { scope = w.scope; loops = w.loops; rounds = rounds_tree w.rounds }

abbrev pub site_tree : Site → SiteTree
site_tree s = record { act = act_tree s.act; spot = spot_tree s.spot }

abbrev trees : List Site → List SiteTree
trees ss = map site_tree ss

-- two parts, one after the other
chain : (xs ys : List Site) (ts us : List SiteTree) → trees xs ≡ ts → trees ys ≡ us → trees (xs ++ ys) ≡ ts ++ us
chain xs ys ts us p q = map-append site_tree xs ys ∙ ap (λ r. r ++ trees ys) p ∙ ap (λ r. ts ++ r) q

-- a site, and what comes after it
next : (s : Site) (xs : List Site) (ts : List SiteTree) → trees xs ≡ ts → trees (s ∷ xs) ≡ site_tree s ∷ ts
next s xs ts p = ap (λ r. site_tree s ∷ r) p

-- ---- expressions

module _ (w : Spot) where
  expr_same : (e : Expr) → trees (in_expr w e) ≡ expr_sites (spot_tree w) (tree_of e)
  expr_same (Int n p) = refl
  expr_same (Var x) = refl
  expr_same (Cell' t p a q b) =
      next (site w (NamesTable t)) (site w (ReadsCell t a b) ∷ in_expr w a ++ in_expr w b) _
      (next (site w (ReadsCell t a b)) (in_expr w a ++ in_expr w b) _ (chain (in_expr w a) (in_expr w b) _ _ (expr_same a) (expr_same b)))
  expr_same (Rows t) = refl
  expr_same (Cols t) = refl
  expr_same (Neg' p a place) = expr_same a
  expr_same (Bin' o place p a q b) = chain (in_expr w a) (in_expr w b) _ _ (expr_same a) (expr_same b)

  whole_same : (e : Expr) → trees (in_whole w e) ≡ whole_sites (spot_tree w) (tree_of e)
  whole_same e = next (site w (Evaluates e)) (in_expr w e) _ (expr_same e)

  args_same : (es : List Expr) → trees (in_args w es) ≡ arg_sites (spot_tree w) (map tree_of es)
  args_same [] = refl
  args_same (e ∷ es) = chain (in_whole w e) (in_args w es) _ _ (whole_same e) (args_same es)

  app_same : (f : App) → trees (in_app w f) ≡ app_sites (spot_tree w) (app_of f)
  app_same f = next (site w (Calls f.callee (length f.args.items))) (in_args w f.args.items) _ (args_same f.args.items)

  carries_same : (cs : List Carry) → trees (in_carries w cs) ≡ carry_sites (spot_tree w) (map carry_of cs)
  carries_same [] = refl
  carries_same (carry.Rows t i ∷ cs) = next (site w (NamesTable t)) (in_carries w cs) _ (carries_same cs)
  carries_same (carry.Cells t (row.Var k) j ∷ cs) =
      next (site w (NamesTable t)) (site w (Uses k) ∷ in_carries w cs) _ (next (site w (Uses k)) (in_carries w cs) _ (carries_same cs))
  carries_same (carry.Cells t (row.Int n) j ∷ cs) = next (site w (NamesTable t)) (in_carries w cs) _ (carries_same cs)

-- ---- statements

after_step : (w : Spot) (s : Stmt) → spot_tree (spot_after w s) ≡ behind (spot_tree w) (node_rows s)
after_step w (Let x e) = refl
after_step w (Set x e) = refl
after_step w (Put t a b e) = refl
after_step w (If' e p body q other) = refl
after_step w (While' e p body) = refl
after_step w (Loop' x a b p body) = refl
after_step w (Par' place x a b carry_place carries reduces p body) = refl
after_step w (Fold x e) = refl
after_step w (Call x f) = refl
after_step w (Both x f y g) = refl
after_step w (Print place e) = refl
after_step w (Emit place t) = refl
after_step w (Leave x e) = refl
after_step w (Fill f t r es) = refl

after_same : (w : Spot) (s : Stmt) → spot_tree (spot_after w s) ≡ behind (spot_tree w) (node_of s)
after_same w s = after_step w s ∙ ap (behind (spot_tree w)) (sym (rows_of s))

-- ---- the targets of `leave` statements

mutual
  left_step : (s : Stmt) → map spelled (targets_in s) ≡ left_in (node_rows s)
  left_step (Let x e) = refl
  left_step (Set x e) = refl
  left_step (Put t a b e) = refl
  left_step (If' e p body q other) =
      map-append spelled (targets_all body) (targets_all other) ∙ ap (λ r. r ++ map spelled (targets_all other)) (left_row body) ∙ ap (λ r. left_all (row_nodes body) ++ r) (left_row other)
  left_step (While' e p body) = left_row body
  left_step (Loop' x a b p body) = left_row body
  left_step (Par' place x a b carry_place carries reduces p body) = refl
  left_step (Fold x e) = refl
  left_step (Call x f) = refl
  left_step (Both x f y g) = refl
  left_step (Print place e) = refl
  left_step (Emit place t) = refl
  left_step (Leave x e) = refl
  left_step (Fill f t r es) = refl

  left_row : {m : _} (row : Row_of-Stmt m) → map spelled (targets_all row) ≡ left_all (row_nodes row)
  left_row end_of-Stmt = refl
  left_row (more_of-Stmt s rest) =
      map-append spelled (targets_in s) (targets_all rest) ∙ ap (λ r. r ++ map spelled (targets_all rest)) (left_step s ∙ ap left_in (sym (rows_of s))) ∙ ap (λ r. left_in (node_of s) ++ r) (left_row rest)

-- ---- statements in order

mutual
  step_same : (w : Spot) (s : Stmt) → trees (in_stmt w s) ≡ node_sites (spot_tree w) (node_rows s)
  step_same w (Let x e) = next (site w (Declares x)) (in_whole w e) _ (whole_same w e)
  step_same w (Set x e) = next (site w (Assigns x)) (in_whole w e) _ (whole_same w e)
  step_same w (Put t a b e) =
      next (site w (NamesTable t)) (site w (WritesCell t a b) ∷ in_whole w a ++ (in_whole w b ++ in_whole w e)) _
      (next (site w (WritesCell t a b)) (in_whole w a ++ (in_whole w b ++ in_whole w e)) _
      (chain (in_whole w a) (in_whole w b ++ in_whole w e) _ _ (whole_same w a)
      (chain (in_whole w b) (in_whole w e) _ _ (whole_same w b) (whole_same w e))))
  step_same w (If' e p body q other) =
      chain (in_whole w e) (in_all w body ++ in_all w other) _ _ (whole_same w e)
      (chain (in_all w body) (in_all w other) _ _ (row_same w body) (row_same w other))
  step_same w (While' e p body) = chain (in_whole w e) (in_all w body) _ _ (whole_same w e) (row_same w body)
  step_same w (Loop' x a b p body) =
      next (site w (Declares x)) (in_whole w a ++ (in_whole w b ++ in_all (in_loop w x) body)) _
      (chain (in_whole w a) (in_whole w b ++ in_all (in_loop w x) body) _ _ (whole_same w a)
      (chain (in_whole w b) (in_all (in_loop w x) body) _ _ (whole_same w b) (row_same (in_loop w x) body)))
  step_same w (Par' place x a b carry_place carries reduces p body) =
      let v = in_par w x carries.items reduces.items in
      let par = site w (Parallel place carry_place (the_loop w x carries.items reduces.items)) in
      let left = site w (LeavesAll (targets_all body)) in
      next par (left ∷ site w (Declares x) ∷ in_whole w a ++ (in_whole w b ++ (in_carries w carries.items ++ in_all v body))) _
      (ap (λ xs. stands (spot_tree w) (LeftAll xs) ∷ trees (site w (Declares x) ∷ in_whole w a ++ (in_whole w b ++ (in_carries w carries.items ++ in_all v body)))) (left_row body)
      ∙ ap (λ r. stands (spot_tree w) (LeftAll (left_all (row_nodes body))) ∷ r)
      (next (site w (Declares x)) (in_whole w a ++ (in_whole w b ++ (in_carries w carries.items ++ in_all v body))) _
      (chain (in_whole w a) (in_whole w b ++ (in_carries w carries.items ++ in_all v body)) _ _ (whole_same w a)
      (chain (in_whole w b) (in_carries w carries.items ++ in_all v body) _ _ (whole_same w b)
      (chain (in_carries w carries.items) (in_all v body) _ _ (carries_same w carries.items) (row_same v body))))))
  step_same w (Fold x e) = next (site w (Folds x)) (in_whole w e) _ (whole_same w e)
  step_same w (Call x f) = next (site w (Assigns x)) (in_app w f) _ (app_same w f)
  step_same w (Both x f y g) =
      next (site w (Assigns x)) (in_app w f ++ (site w (Assigns y) ∷ site w (AssignsBoth x y) ∷ in_app w g)) _
      (chain (in_app w f) (site w (Assigns y) ∷ site w (AssignsBoth x y) ∷ in_app w g) _ _ (app_same w f)
      (next (site w (Assigns y)) (site w (AssignsBoth x y) ∷ in_app w g) _ (next (site w (AssignsBoth x y)) (in_app w g) _ (app_same w g))))
  step_same w (Print place e) = next (site w (Shows place)) (in_whole w e) _ (whole_same w e)
  step_same w (Emit place t) = refl
  step_same w (Leave x e) = next (site w (Leaves x)) (in_whole w e) _ (whole_same w e)
  step_same w (Fill f t r es) = refl

  row_same : {m : _} (w : Spot) (row : Row_of-Stmt m) → trees (in_all w row) ≡ nodes_sites (spot_tree w) (row_nodes row)
  row_same w end_of-Stmt = refl
  row_same w (more_of-Stmt s rest) =
      chain (in_stmt w s) (in_all (spot_after w s) rest) _ _ (step_same w s ∙ ap (node_sites (spot_tree w)) (sym (rows_of s)))
      (row_same (spot_after w s) rest ∙ ap {A = TreeSpot} {B = List SiteTree} (λ v. nodes_sites v (row_nodes rest)) (after_same w s))

stmt_same : (w : Spot) (s : Stmt) → trees (in_stmt w s) ≡ node_sites (spot_tree w) (node_of s)
stmt_same w s = step_same w s ∙ ap (node_sites (spot_tree w)) (sym (rows_of s))

list_same : (w : Spot) (ss : List Stmt) → trees (in_list w ss) ≡ nodes_sites (spot_tree w) (nodes_of ss)
list_same w [] = refl
list_same w (s ∷ ss) =
    chain (in_stmt w s) (in_list (spot_after w s) ss) _ _ (stmt_same w s)
    (list_same (spot_after w s) ss ∙ ap {A = TreeSpot} {B = List SiteTree} (λ v. nodes_sites v (nodes_of ss)) (after_same w s))

list_after : (w : Spot) (ss : List Stmt) → spot_tree (spot_of_list w ss) ≡ behind_all (spot_tree w) (nodes_of ss)
list_after w [] = refl
list_after w (s ∷ ss) = list_after (spot_after w s) ss ∙ ap {A = TreeSpot} {B = TreeSpot} (λ v. behind_all v (nodes_of ss)) (after_same w s)

-- ---- programs

decl_same : (fs : List Func) (before : List Name) (d : TableDecl) → trees (in_decl fs before d) ≡ table_sites (table_of d)
decl_same fs before (Input t) = refl
decl_same fs before (Made t a b) =
    let w = spots.top OfSize before fs in
    next (site w (DeclaresTable t)) (in_whole w a ++ in_whole w b) _ (chain (in_whole w a) (in_whole w b) _ _ (whole_same w a) (whole_same w b))

decls_same : (fs : List Func) (before : List Name) (ds : List TableDecl) → trees (in_decls fs before ds) ≡ tables_sites (map table_of ds)
decls_same fs before [] = refl
decls_same fs before (d ∷ ds) =
    chain (in_decl fs before d) (in_decls fs (before ++ table_of_decl d ∷ []) ds) _ _ (decl_same fs before d) (decls_same fs (before ++ table_of_decl d ∷ []) ds)

params_same : (w : Spot) (xs : List Name) → trees (in_params w xs) ≡ param_sites (spot_tree w) (map spelled xs)
params_same w [] = refl
params_same w (x ∷ xs) = next (site w (Declares x)) (in_params (declared_var w x) xs) _ (params_same (declared_var w x) xs)

module _ (p : Program) where
  inside_same : (f : Func) → spot_tree (func_spot p f) ≡ inside (func_of f)
  inside_same f = ap {A = List (List ℕ)} {B = TreeSpot} (λ sc. record { scope = sc; loops = []; rounds = [] }) (texts_same f.params.items)

  pub func_same : (f : Func) → trees (in_func p f) ≡ func_sites (func_of f)
  func_same f =
      let outer = spots.top OfFunc (tables_of p) p.funcs.items in
      let w = func_spot p f in
      let body = nodes_of f.body.items in
      let rest = in_list w f.body.items ++ in_whole (spot_of_list w f.body.items) f.result in
      next (site w (DeclaresAll (f.params.items ++ declared_list f.body.items))) (in_params outer f.params.items ++ rest) _
      (chain (in_params outer f.params.items) rest _ _ (params_same outer f.params.items)
      (chain (in_list w f.body.items) (in_whole (spot_of_list w f.body.items) f.result) _ _
      (list_same w f.body.items ∙ ap {A = TreeSpot} {B = List SiteTree} (λ u. nodes_sites u body) (inside_same f))
      (whole_same (spot_of_list w f.body.items) f.result
      ∙ ap {A = TreeSpot} {B = List SiteTree} (λ u. whole_sites u (tree_of f.result))
      (list_after w f.body.items ∙ ap {A = TreeSpot} {B = TreeSpot} (λ u. behind_all u body) (inside_same f)))))
      ∙ ap {A = TreeSpot} {B = List SiteTree}
      (λ u. stands u Other ∷ param_sites top (map spelled f.params.items) ++ (nodes_sites (inside (func_of f)) body ++ whole_sites (behind_all (inside (func_of f)) body) (tree_of f.result)))
      (inside_same f)

  funcs_same : (before fs : List Func) → trees (in_funcs p before fs) ≡ funcs_sites (map func_of fs)
  funcs_same before [] = refl
  funcs_same before (f ∷ fs) =
      next (site (spots.top OfFunc (tables_of p) before) (DeclaresFunc f)) (in_func p f ++ in_funcs p (before ++ f ∷ []) fs) _
      (chain (in_func p f) (in_funcs p (before ++ f ∷ []) fs) _ _ (func_same f) (funcs_same (before ++ f ∷ []) fs))

  main_same : trees (in_main p) ≡ main_sites (nodes_of p.main.items)
  main_same = next (site (main_spot p) (DeclaresAll (declared_list p.main.items))) (in_list (main_spot p) p.main.items) _ (list_same (main_spot p) p.main.items)

  pub program_same : trees (sites p) ≡ tree_sites (program_of p)
  program_same =
      chain (in_decls p.funcs.items [] p.tables.items) (in_funcs p [] p.funcs.items ++ in_main p) _ _ (decls_same p.funcs.items [] p.tables.items)
      (chain (in_funcs p [] p.funcs.items) (in_main p) _ _ (funcs_same [] p.funcs.items) main_same)
