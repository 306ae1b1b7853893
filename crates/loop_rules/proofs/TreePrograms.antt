-- The first broken rule of a whole program is that of its tree.
use Rattle.std.proofs.Common.{◌≡◌, ◌++◌, ◌∷◌, [], ℕ, suc, Bool, ◌||◌, List, map, length, Option}
use Rattle.std.proofs.Common.{None, refl, sym, ap, ◌∙◌}
use Rattle.std.specs.Prelude.{nat_eq}
use Rattle.std.proofs.lemmas.List.{length-map, map-append}
use denote.Hole.Carrier
use Rattle.tp_value.specs.declared.values.Place.{Place}
use Rattle.tp_value.specs.declared.limits.TheConstants.{MAX_TABLES, MAX_FUNCTIONS, MAX_PARAMETERS}
use Rattle.tp_value.specs.declared.limits.TheConstants.{MAX_DECLARED_VARIABLES}
use Rattle.loop_syntax.specs.declared.expression.Name.{Name}
use Rattle.loop_syntax.specs.declared.expression.Expr.{Expr}
use Rattle.loop_syntax.specs.declared.statement.Stmt.{Stmt, Row_of-Stmt, end_of-Stmt, more_of-Stmt}
use Rattle.loop_syntax.specs.declared.statement.Stmt.TheViews.{out-Stmt}
use Rattle.loop_syntax.specs.declared.statement.Stmt.TheVariants.{Let, Set, Put, If', While', Loop'}
use Rattle.loop_syntax.specs.declared.statement.Stmt.TheVariants.{Par', Fold, Call, Both, Print}
use Rattle.loop_syntax.specs.declared.statement.Stmt.TheVariants.{Emit, Leave, Fill}
use Rattle.loop_syntax.specs.declared.program.Func.{Func}
use Rattle.loop_syntax.specs.declared.program.TableDecl.{TableDecl}
use Rattle.loop_syntax.specs.declared.program.TableDecl.TheVariants.{Input, Made}
use Rattle.loop_syntax.specs.declared.program.Program.{Program}
use Rattle.loop_syntax.specs.Tree.{Spelled, spelled, tree_of, Nodes, node_of, nodes_of, table_of}
use Rattle.loop_syntax.specs.Tree.{func_of, ProgramTree, program_of}
use Rattle.loop_rules.specs.declared.rule.Rule.TheVariants.{Names, Limits}
use Rattle.loop_rules.specs.declared.fault.Fault.{Fault}
use Rattle.loop_rules.specs.declared.part.Part.TheVariants.{OfSize, OfFunc, OfMain}
use Rattle.loop_rules.specs.Declarations.{declared_in, declared_all, declared_list, table_of_decl}
use Rattle.loop_rules.specs.Declarations.{tables_of_decls}
use Rattle.loop_rules.specs.Limits.{past}
use Rattle.loop_rules.specs.Names.{is_in, texts, func_names, first_named}
use Rattle.loop_rules.specs.Names as names
use Rattle.loop_rules.specs.Scopes.{is_func_before, is_table_by}
use Rattle.loop_rules.specs.Search.{lowest, lowest_at, lowest_in, resolved_rules}
use Rattle.loop_rules.specs.Sites.{Spot, site, top, tables_of, Declares, DeclaresTable}
use Rattle.loop_rules.specs.Sites.{DeclaresFunc, DeclaresAll, declared_var, in_stmt, in_whole}
use Rattle.loop_rules.specs.Sites.{in_list, in_params, in_decl, in_decls, in_func, in_funcs}
use Rattle.loop_rules.specs.Sites.{in_main, func_spot, main_spot, sites, spot_after, spot_of_list}
use Rattle.loop_rules.proofs.TreeParts.{sig_in, spot_tree, texts_same, names_same, before_same}
use Rattle.loop_rules.proofs.TreeParts.{by_same, past_same, chain, first, whole_low, declares_low}
use Rattle.loop_rules.proofs.TreeNodes.{node_rows, rows_of, row_nodes}
use Rattle.loop_rules.proofs.TreeStatements.{stmt_low, after_low}
use Rattle.loop_rules.proofs.TreeRules.{Sig, TreeSpot, at_name, texts_of, sig_names, sig_of}
use Rattle.loop_rules.proofs.TreeRules.{is_sig_before, is_name_by, first_of, past_of, low_whole}
use Rattle.loop_rules.proofs.TreeRules.{low_declares, low_node, low_nodes, behind_all, vars_of}
use Rattle.loop_rules.proofs.TreeRules.{vars_in, outside, name_of, sig, low_new_table, low_decl}
use Rattle.loop_rules.proofs.TreeRules.{low_decls, low_new_func, low_params, inside, low_vars}
use Rattle.loop_rules.proofs.TreeRules.{low_func, low_funcs, low_main, low_program}

-- ---- variables that are declared

mutual
  vars_step : (s : Stmt) → map spelled (declared_in s) ≡ vars_of (node_rows s)
  vars_step (Let x e) = refl
  vars_step (Set x e) = refl
  vars_step (Put t a b e) = refl
  vars_step (If' e p body q other) =
      map-append spelled (declared_all body) (declared_all other) ∙ ap (λ r. r ++ map spelled (declared_all other)) (vars_row body) ∙ ap (λ r. vars_in (row_nodes body) ++ r) (vars_row other)
  vars_step (While' e p body) = vars_row body
  vars_step (Loop' x a b p body) = ap (λ r. spelled x ∷ r) (vars_row body)
  vars_step (Par' place x a b carry_place carries reduces p body) = ap (λ r. spelled x ∷ r) (vars_row body)
  vars_step (Fold x e) = refl
  vars_step (Call x f) = refl
  vars_step (Both x f y g) = refl
  vars_step (Print place e) = refl
  vars_step (Emit place t) = refl
  vars_step (Leave x e) = refl
  vars_step (Fill f t r es) = refl

  vars_row : {m : _} (row : Row_of-Stmt m) → map spelled (declared_all row) ≡ vars_in (row_nodes row)
  vars_row end_of-Stmt = refl
  vars_row (more_of-Stmt s rest) =
      map-append spelled (declared_in s) (declared_all rest) ∙ ap (λ r. r ++ map spelled (declared_all rest)) (vars_step s ∙ ap vars_of (sym (rows_of s))) ∙ ap (λ r. vars_of (node_of s) ++ r) (vars_row rest)

vars_stmt : (s : Stmt) → map spelled (declared_in s) ≡ vars_of (node_of s)
vars_stmt s = vars_step s ∙ ap vars_of (sym (rows_of s))

vars_list : (ss : List Stmt) → map spelled (declared_list ss) ≡ vars_in (nodes_of ss)
vars_list [] = refl
vars_list (s ∷ ss) =
    map-append spelled (declared_in s) (declared_list ss) ∙ ap (λ r. r ++ map spelled (declared_list ss)) (vars_stmt s) ∙ ap (λ r. vars_of (node_of s) ++ r) (vars_list ss)

-- ---- lists of statements

list_low : (w : Spot) (b : Option Fault) (ss : List Stmt) → lowest_in resolved_rules b (in_list w ss) ≡ low_nodes (spot_tree w) b (nodes_of ss)
list_low w b [] = refl
list_low w b (s ∷ ss) =
    chain b (low_node (spot_tree w) b (node_of s)) _ (in_stmt w s) (in_list (spot_after w s) ss) (stmt_low w b s)
    (list_low (spot_after w s) (low_node (spot_tree w) b (node_of s)) ss
    ∙ ap {A = TreeSpot} {B = Option Fault} (λ v. low_nodes v (low_node (spot_tree w) b (node_of s)) (nodes_of ss)) (after_low w s))

list_after : (w : Spot) (ss : List Stmt) → spot_tree (spot_of_list w ss) ≡ behind_all (spot_tree w) (nodes_of ss)
list_after w [] = refl
list_after w (s ∷ ss) = list_after (spot_after w s) ss ∙ ap {A = TreeSpot} {B = TreeSpot} (λ v. behind_all v (nodes_of ss)) (after_low w s)

params_low : (w : Spot) (b : Option Fault) (xs : List Name) → lowest_in resolved_rules b (in_params w xs) ≡ low_params (spot_tree w) b (map spelled xs)
params_low w b [] = refl
params_low w b (x ∷ xs) =
    first b (low_declares (spot_tree w) b (spelled x)) _ (site w (Declares x)) (in_params (declared_var w x) xs) (declares_low w b x)
    (params_low (declared_var w x) (low_declares (spot_tree w) b (spelled x)) xs)

vars_low : (b : Option Fault) (xs : List Name) → lowest b Limits (past MAX_DECLARED_VARIABLES xs) ≡ lowest b Limits (past_of MAX_DECLARED_VARIABLES (map spelled xs))
vars_low b xs = ap (lowest b Limits) (past_same MAX_DECLARED_VARIABLES xs)

-- ---- tables

new_table_low : (fs : List Func) (before : List Name) (b : Option Fault) (t : Name)
    → lowest_at resolved_rules b (site (top OfSize before fs) (DeclaresTable t)) ≡ low_new_table (outside OfSize (map spelled before) (map sig_in fs)) b (spelled t)
new_table_low fs before b t =
    let found = λ (ts : List (List ℕ)) (earlier : Bool) (n : ℕ). lowest (lowest b Names (at_name (spelled t) (is_in ts t.text.items || earlier))) Limits (at_name (spelled t) (nat_eq n MAX_TABLES)) in
    ap (λ ts. found ts (is_func_before (names.func_of fs t.text.items) t) (length before)) (texts_same before)
    ∙ ap (λ e. found (texts_of (map spelled before)) e (length before)) (before_same fs t.text.items t)
    ∙ ap (λ n. found (texts_of (map spelled before)) (is_sig_before (sig_of (map sig_in fs) t.text.items) (spelled t)) n) (sym (length-map before spelled))

decl_low : (fs : List Func) (before : List Name) (b : Option Fault) (d : TableDecl)
    → lowest_in resolved_rules b (in_decl fs before d) ≡ low_decl (map sig_in fs) (map spelled before) b (table_of d)
decl_low fs before b (Input t) = new_table_low fs before b t
decl_low fs before b (Made t i j) =
    let w = top OfSize before fs in
    let one = low_new_table (spot_tree w) b (spelled t) in
    let two = low_whole (spot_tree w) one (tree_of i) in
    first b one _ (site w (DeclaresTable t)) (in_whole w i ++ in_whole w j) (new_table_low fs before b t)
    (chain one two _ (in_whole w i) (in_whole w j) (whole_low w one i) (whole_low w two j))

decl_name : (d : TableDecl) → spelled (table_of_decl d) ≡ name_of (table_of d)
decl_name (Input t) = refl
decl_name (Made t i j) = refl

decls_low : (fs : List Func) (before : List Name) (b : Option Fault) (ds : List TableDecl)
    → lowest_in resolved_rules b (in_decls fs before ds) ≡ low_decls (map sig_in fs) (map spelled before) b (map table_of ds)
decls_low fs before b [] = refl
decls_low fs before b (d ∷ ds) =
    let one = low_decl (map sig_in fs) (map spelled before) b (table_of d) in
    chain b one _ (in_decl fs before d) (in_decls fs (before ++ table_of_decl d ∷ []) ds) (decl_low fs before b d)
    (decls_low fs (before ++ table_of_decl d ∷ []) one ds
    ∙ ap (λ ts. low_decls (map sig_in fs) ts one (map table_of ds)) (map-append spelled before (table_of_decl d ∷ []) ∙ ap (λ x. map spelled before ++ x ∷ []) (decl_name d)))

-- ---- functions

sig_same : (f : Func) → sig_in f ≡ sig (func_of f)
sig_same f = ap {A = ℕ} {B = Sig} (λ n. record { name = spelled f.name; params = n }) (sym (length-map f.params.items spelled))

new_func_low : (tables : List Name) (before : List Func) (b : Option Fault) (f : Func)
    → lowest_at resolved_rules b (site (top OfFunc tables before) (DeclaresFunc f)) ≡ low_new_func (outside OfFunc (map spelled tables) (map sig_in before)) b (func_of f)
new_func_low tables before b f =
    let x = f.name.text.items in
    let found = λ (fs : List (List ℕ)) (by : Bool) (n : ℕ) (ps : List Place).
    lowest (lowest b Names (at_name (spelled f.name) (is_in fs x || by))) Limits (at_name (spelled f.name) (nat_eq n MAX_FUNCTIONS) ++ ps) in
    let by' = is_name_by (first_of (map spelled tables) x) (spelled f.name) in
    ap (λ fs. found fs (is_table_by (first_named tables x) f.name) (length before) (past MAX_PARAMETERS f.params.items)) (names_same before)
    ∙ ap (λ by. found (sig_names (map sig_in before)) by (length before) (past MAX_PARAMETERS f.params.items)) (by_same tables x f.name)
    ∙ ap (λ n. found (sig_names (map sig_in before)) by' n (past MAX_PARAMETERS f.params.items)) (sym (length-map before sig_in))
    ∙ ap (λ ps. found (sig_names (map sig_in before)) by' (length (map sig_in before)) ps) (past_same MAX_PARAMETERS f.params.items)

module _ (p : Program) where
  abbrev tables_in : List Spelled
  tables_in = map spelled (tables_of p)

  abbrev sigs_in : List Sig
  sigs_in = map sig_in p.funcs.items

  inside_same : (f : Func) → spot_tree (func_spot p f) ≡ inside tables_in sigs_in (func_of f)
  inside_same f = ap {A = List (List ℕ)} {B = TreeSpot} (λ sc. record (outside OfFunc tables_in sigs_in) { scope = sc }) (texts_same f.params.items)

  func_low : (b : Option Fault) (f : Func) → lowest_in resolved_rules b (in_func p f) ≡ low_func tables_in sigs_in b (func_of f)
  func_low b f =
      let outer = top OfFunc (tables_of p) p.funcs.items in
      let w = func_spot p f in
      let v = inside tables_in sigs_in (func_of f) in
      let all = f.params.items ++ declared_list f.body.items in
      let body = nodes_of f.body.items in
      let zero = low_vars b (map spelled f.params.items ++ vars_in body) in
      let one = low_params (outside OfFunc tables_in sigs_in) zero (map spelled f.params.items) in
      let two = low_nodes v one body in
      let three = low_whole (behind_all v body) two (tree_of f.result) in
      first b zero three (site w (DeclaresAll all)) (in_params outer f.params.items ++ (in_list w f.body.items ++ in_whole (spot_of_list w f.body.items) f.result))
      (vars_low b all ∙ ap (low_vars b) (map-append spelled f.params.items (declared_list f.body.items) ∙ ap (λ r. map spelled f.params.items ++ r) (vars_list f.body.items)))
      (chain zero one three (in_params outer f.params.items) (in_list w f.body.items ++ in_whole (spot_of_list w f.body.items) f.result) (params_low outer zero f.params.items)
      (chain one two three (in_list w f.body.items) (in_whole (spot_of_list w f.body.items) f.result)
      (list_low w one f.body.items ∙ ap {A = TreeSpot} {B = Option Fault} (λ u. low_nodes u one body) (inside_same f))
      (whole_low (spot_of_list w f.body.items) two f.result
      ∙ ap {A = TreeSpot} {B = Option Fault} (λ u. low_whole u two (tree_of f.result))
      (list_after w f.body.items ∙ ap {A = TreeSpot} {B = TreeSpot} (λ u. behind_all u body) (inside_same f)))))

  funcs_low : (before : List Func) (b : Option Fault) (fs : List Func)
      → lowest_in resolved_rules b (in_funcs p before fs) ≡ low_funcs tables_in sigs_in (map sig_in before) b (map func_of fs)
  funcs_low before b [] = refl
  funcs_low before b (f ∷ fs) =
      let w = top OfFunc (tables_of p) before in
      let one = low_new_func (outside OfFunc tables_in (map sig_in before)) b (func_of f) in
      let two = low_func tables_in sigs_in one (func_of f) in
      first b one _ (site w (DeclaresFunc f)) (in_func p f ++ in_funcs p (before ++ f ∷ []) fs) (new_func_low (tables_of p) before b f)
      (chain one two _ (in_func p f) (in_funcs p (before ++ f ∷ []) fs) (func_low one f)
      (funcs_low (before ++ f ∷ []) two fs
      ∙ ap (λ r. low_funcs tables_in sigs_in r two (map func_of fs)) (map-append sig_in before (f ∷ []) ∙ ap {A = Sig} {B = List Sig} (λ x. map sig_in before ++ x ∷ []) (sig_same f))))

  main_low : (b : Option Fault) → lowest_in resolved_rules b (in_main p) ≡ low_main tables_in sigs_in b (nodes_of p.main.items)
  main_low b =
      let w = main_spot p in
      let one = low_vars b (vars_in (nodes_of p.main.items)) in
      first b one _ (site w (DeclaresAll (declared_list p.main.items))) (in_list w p.main.items)
      (vars_low b (declared_list p.main.items) ∙ ap (low_vars b) (vars_list p.main.items)) (list_low w one p.main.items)

-- ---- programs

tables_same : (ds : List TableDecl) → map spelled (tables_of_decls ds) ≡ map name_of (map table_of ds)
tables_same [] = refl
tables_same (d ∷ ds) = ap (λ x. x ∷ map spelled (tables_of_decls ds)) (decl_name d) ∙ ap (λ r. name_of (table_of d) ∷ r) (tables_same ds)

sigs_same : (fs : List Func) → map sig_in fs ≡ map sig (map func_of fs)
sigs_same [] = refl
sigs_same (f ∷ fs) = ap {A = Sig} {B = List Sig} (λ x. x ∷ map sig_in fs) (sig_same f) ∙ ap (λ r. sig (func_of f) ∷ r) (sigs_same fs)

pub program_low : (b : Option Fault) (p : Program) → lowest_in resolved_rules b (sites p) ≡ low_program b (program_of p)
program_low b p =
    let found = λ (ts : List Spelled) (fs : List Sig).
    low_main ts fs (low_funcs ts fs [] (low_decls fs [] b (map table_of p.tables.items)) (map func_of p.funcs.items)) (nodes_of p.main.items) in
    let one = low_decls (sigs_in p) [] b (map table_of p.tables.items) in
    let two = low_funcs (tables_in p) (sigs_in p) [] one (map func_of p.funcs.items) in
    chain b one _ (in_decls p.funcs.items [] p.tables.items) (in_funcs p [] p.funcs.items ++ in_main p) (decls_low p.funcs.items [] b p.tables.items)
    (chain one two _ (in_funcs p [] p.funcs.items) (in_main p) (funcs_low p [] one p.funcs.items) (main_low p two))
    ∙ ap (λ ts. found ts (sigs_in p)) (tables_same p.tables.items)
    ∙ ap (λ fs. found (map name_of (map table_of p.tables.items)) fs) (sigs_same p.funcs.items)

-- programs with one tree have one first broken rule
pub found-tree : (p q : Program) → program_of p ≡ program_of q → lowest_in resolved_rules None (sites p) ≡ lowest_in resolved_rules None (sites q)
found-tree p q same = program_low None p ∙ ap (low_program None) same ∙ sym (program_low None q)
