-- The first broken rule of a program is that of its tree.
use Rattle.std.proofs.Common.{◌≡◌, ◌+◌, ◌++◌, ◌∷◌, [], ℕ, zero, suc, Bool, true, false, cond, ◌||◌}
use Rattle.std.proofs.Common.{not, List, map, drop, length, Option, Some, None, bytes_eq, nat_lt}
use Rattle.std.proofs.Common.{max, refl, sym, ap, ◌∙◌}
use Rattle.std.specs.Prelude.{nat_eq, nat_le}
use Rattle.std.proofs.lemmas.List.{length-map, map-append}
use Rattle.tp_value.specs.declared.values.Place.{Place}
use Rattle.tp_value.specs.declared.limits.TheConstants.{MAX_EXPRESSION_HEIGHT}
use Rattle.tp_value.specs.declared.limits.TheConstants.{MAX_DECLARED_VARIABLES, MAX_PARAMETERS}
use Rattle.tp_value.specs.declared.limits.TheConstants.{MAX_REDUCTIONS, MAX_CARRIES}
use Rattle.tp_value.specs.declared.limits.TheConstants.{MAX_PAR_NESTING, MAX_TABLES, MAX_FUNCTIONS}
use Rattle.loop_syntax.specs.declared.expression.Name.{Name}
use Rattle.loop_syntax.specs.declared.expression.Expr.{Expr}
use Rattle.loop_syntax.specs.declared.expression.Expr.TheVariants.{Int, Var, Cell', Rows, Cols}
use Rattle.loop_syntax.specs.declared.expression.Expr.TheVariants.{Neg', Bin'}
use Rattle.loop_syntax.specs.declared.statement.RowAt.TheVariants as row
use Rattle.loop_syntax.specs.declared.statement.Carry.{Carry}
use Rattle.loop_syntax.specs.declared.statement.Carry.TheVariants as carry
use Rattle.loop_syntax.specs.declared.statement.Reduce.{Reduce}
use Rattle.loop_syntax.specs.declared.statement.App.{App}
use Rattle.loop_syntax.specs.declared.program.Func.{Func}
use Rattle.loop_syntax.specs.Tree.{Spelled, spelled, Tree, tree_of, carry_of, reduce_of, app_of}
use Rattle.loop_rules.specs.declared.rule.Rule.TheVariants.{Names, Functions, LoopVariables, Limits}
use Rattle.loop_rules.specs.declared.fault.Fault.{Fault}
use Rattle.loop_rules.specs.declared.part.Part.{Part}
use Rattle.loop_rules.specs.Keeps.{in_function, carry_word}
use Rattle.loop_rules.specs.Limits.{height, first_place, earlier, past, first_name}
use Rattle.loop_rules.specs.Names.{is_in, texts, func_names, first_named, func_of, table_name}
use Rattle.loop_rules.specs.Scopes.{misfits, is_func_before, is_table_by, unseen_targets}
use Rattle.loop_rules.specs.Scopes.{loop_targets}
use Rattle.loop_rules.specs.Search.{lowest, lowest_at, lowest_in, resolved_rules}
use Rattle.loop_rules.specs.Sites.{Site, Spot, site, the_loop, Uses, NamesTable, ReadsCell, Calls}
use Rattle.loop_rules.specs.Sites.{Evaluates, Declares, Parallel, in_expr, in_whole, in_args}
use Rattle.loop_rules.specs.Sites.{in_app, in_carries}
use Rattle.loop_rules.proofs.Searching.{lowest_in_append}
use Rattle.loop_rules.proofs.TreeRules.{Sig, TreeSpot, at_name, texts_of, sig_names, sig_of}
use Rattle.loop_rules.proofs.TreeRules.{first_of, sig_misfits, is_sig_before, is_name_by}
use Rattle.loop_rules.proofs.TreeRules.{first_places, past_of, height_of, place_of, low_uses}
use Rattle.loop_rules.proofs.TreeRules.{low_table, low_expr, low_height, low_whole, low_args}
use Rattle.loop_rules.proofs.TreeRules.{low_call, low_app, low_carries, unseen, looped, word_of}
use Rattle.loop_rules.proofs.TreeRules.{carried, low_par, low_declares}

-- ---- names

abbrev pub sig_in : Func → Sig
sig_in f = record { name = spelled f.name; params = length f.params.items }

abbrev pub spot_tree : Spot → TreeSpot
spot_tree w = record { part = w.part; tables = map spelled w.tables; funcs = map sig_in w.funcs; scope = w.scope; loops = w.loops; depth = w.depth }

pub texts_same : (xs : List Name) → texts xs ≡ texts_of (map spelled xs)
texts_same [] = refl
texts_same (x ∷ xs) = ap (λ r. x.text.items ∷ r) (texts_same xs)

pub names_same : (fs : List Func) → func_names fs ≡ sig_names (map sig_in fs)
names_same [] = refl
names_same (f ∷ fs) = ap (λ r. f.name.text.items ∷ r) (names_same fs)

misfits_same : (fs : List Func) (x : List ℕ) (n : ℕ) → misfits (func_of fs x) n ≡ sig_misfits (sig_of (map sig_in fs) x) n
misfits_same [] x n = refl
misfits_same (f ∷ fs) x n = go (misfits_same fs x n) (bytes_eq f.name.text.items x)
  where
    go : misfits (func_of fs x) n ≡ sig_misfits (sig_of (map sig_in fs) x) n → (b : Bool) → misfits (cond b (Some f) (func_of fs x)) n ≡ sig_misfits (cond b (Some (sig_in f)) (sig_of (map sig_in fs) x)) n
    go h true = refl
    go h false = h

pub before_same : (fs : List Func) (t : List ℕ) (x : Name) → is_func_before (func_of fs t) x ≡ is_sig_before (sig_of (map sig_in fs) t) (spelled x)
before_same [] t x = refl
before_same (f ∷ fs) t x = go (before_same fs t x) (bytes_eq f.name.text.items t)
  where
    go : is_func_before (func_of fs t) x ≡ is_sig_before (sig_of (map sig_in fs) t) (spelled x) → (b : Bool) → is_func_before (cond b (Some f) (func_of fs t)) x ≡ is_sig_before (cond b (Some (sig_in f)) (sig_of (map sig_in fs) t)) (spelled x)
    go h true = refl
    go h false = h

pub by_same : (ts : List Name) (t : List ℕ) (x : Name) → is_table_by (first_named ts t) x ≡ is_name_by (first_of (map spelled ts) t) (spelled x)
by_same [] t x = refl
by_same (y ∷ ts) t x = go (by_same ts t x) (bytes_eq y.text.items t)
  where
    go : is_table_by (first_named ts t) x ≡ is_name_by (first_of (map spelled ts) t) (spelled x) → (b : Bool) → is_table_by (cond b (Some y) (first_named ts t)) x ≡ is_name_by (cond b (Some (spelled y)) (first_of (map spelled ts) t)) (spelled x)
    go h true = refl
    go h false = h

pub past_same : (n : ℕ) (xs : List Name) → past n xs ≡ past_of n (map spelled xs)
past_same zero [] = refl
past_same (suc n) [] = refl
past_same zero (x ∷ xs) = refl
past_same (suc n) (x ∷ xs) = past_same n xs

-- ---- expressions

height_same : (e : Expr) → height e ≡ height_of (tree_of e)
height_same (Int n p) = refl
height_same (Var x) = refl
height_same (Cell' t p a q b) = ap (λ h. suc (max h (height b))) (height_same a) ∙ ap (λ h. suc (max (height_of (tree_of a)) h)) (height_same b)
height_same (Rows t) = refl
height_same (Cols t) = refl
height_same (Neg' p a place) = ap suc (height_same a)
height_same (Bin' o place p a q b) = ap (λ h. suc (max h (height b))) (height_same a) ∙ ap (λ h. suc (max (height_of (tree_of a)) h)) (height_same b)

place_same : (e : Expr) → first_place e ≡ place_of (tree_of e)
place_same (Int n p) = refl
place_same (Var x) = refl
place_same (Cell' t p a q b) =
    ap (λ r. earlier (earlier t.place r) (first_place b)) (place_same a) ∙ ap (λ r. earlier (earlier t.place (place_of (tree_of a))) r) (place_same b)
place_same (Rows t) = refl
place_same (Cols t) = refl
place_same (Neg' p a place) = ap (earlier place) (place_same a)
place_same (Bin' o place p a q b) =
    ap (λ r. earlier (earlier place r) (first_place b)) (place_same a) ∙ ap (λ r. earlier (earlier place (place_of (tree_of a))) r) (place_same b)

-- two parts, one after the other
pub chain : (b c d : Option Fault) (xs ys : List Site) → lowest_in resolved_rules b xs ≡ c → lowest_in resolved_rules c ys ≡ d → lowest_in resolved_rules b (xs ++ ys) ≡ d
chain b c d xs ys p q = lowest_in_append resolved_rules b xs ys ∙ ap (λ r. lowest_in resolved_rules r ys) p ∙ q

-- a site, and what comes after it
pub first : (b c d : Option Fault) (s : Site) (xs : List Site) → lowest_at resolved_rules b s ≡ c → lowest_in resolved_rules c xs ≡ d → lowest_in resolved_rules b (s ∷ xs) ≡ d
first b c d s xs p q = ap (λ r. lowest_in resolved_rules r xs) p ∙ q

module _ (w : Spot) where
  pub table_low : (b : Option Fault) (t : Name) → lowest_at resolved_rules b (site w (NamesTable t)) ≡ low_table (spot_tree w) b (spelled t)
  table_low b t = ap (λ ts. lowest b Names (at_name (spelled t) (not (is_in ts t.text.items)))) (texts_same w.tables)

  expr_low : (b : Option Fault) (e : Expr) → lowest_in resolved_rules b (in_expr w e) ≡ low_expr (spot_tree w) b (tree_of e)
  expr_low b (Int n p) = refl
  expr_low b (Var x) = refl
  expr_low b (Cell' t p a q c) =
      first b (low_table (spot_tree w) b (spelled t)) _ (site w (NamesTable t)) (site w (ReadsCell t a c) ∷ in_expr w a ++ in_expr w c) (table_low b t)
      (chain (low_table (spot_tree w) b (spelled t)) _ _ (in_expr w a) (in_expr w c) (expr_low (low_table (spot_tree w) b (spelled t)) a) (expr_low _ c))
  expr_low b (Rows t) = table_low b t
  expr_low b (Cols t) = table_low b t
  expr_low b (Neg' p a place) = expr_low b a
  expr_low b (Bin' o place p a q c) = chain b _ _ (in_expr w a) (in_expr w c) (expr_low b a) (expr_low _ c)

  height_low : (b : Option Fault) (e : Expr) → lowest_at resolved_rules b (site w (Evaluates e)) ≡ low_height b (tree_of e)
  height_low b e =
      ap (λ h. lowest b Limits (cond (nat_lt MAX_EXPRESSION_HEIGHT h) (first_place e ∷ []) [])) (height_same e)
      ∙ ap (λ p. lowest b Limits (cond (nat_lt MAX_EXPRESSION_HEIGHT (height_of (tree_of e))) (p ∷ []) [])) (place_same e)

  pub whole_low : (b : Option Fault) (e : Expr) → lowest_in resolved_rules b (in_whole w e) ≡ low_whole (spot_tree w) b (tree_of e)
  whole_low b e = first b _ _ (site w (Evaluates e)) (in_expr w e) (height_low b e) (expr_low (low_height b (tree_of e)) e)

  args_low : (b : Option Fault) (es : List Expr) → lowest_in resolved_rules b (in_args w es) ≡ low_args (spot_tree w) b (map tree_of es)
  args_low b [] = refl
  args_low b (e ∷ es) = chain b _ _ (in_whole w e) (in_args w es) (whole_low b e) (args_low (low_whole (spot_tree w) b (tree_of e)) es)

  call_low : (b : Option Fault) (f : Name) (es : List Expr) → lowest_at resolved_rules b (site w (Calls f (length es))) ≡ low_call (spot_tree w) b (spelled f) (length (map tree_of es))
  call_low b f es =
      ap (λ t. lowest b Names (at_name (spelled f) t)) (misfits_same w.funcs f.text.items (length es))
      ∙ ap (λ n. lowest b Names (at_name (spelled f) (sig_misfits (sig_of (map sig_in w.funcs) f.text.items) n))) (sym (length-map es tree_of))

  pub app_low : (b : Option Fault) (f : App) → lowest_in resolved_rules b (in_app w f) ≡ low_app (spot_tree w) b (app_of f)
  app_low b f = first b _ _ (site w (Calls f.callee (length f.args.items))) (in_args w f.args.items) (call_low b f.callee f.args.items) (args_low _ f.args.items)

  pub carries_low : (cs : List Carry) (b : Option Fault) → lowest_in resolved_rules b (in_carries w cs) ≡ low_carries (spot_tree w) b (map carry_of cs)
  carries_low [] b = refl
  carries_low (carry.Rows t i ∷ cs) b =
      first b (low_table (spot_tree w) b (spelled t)) _ (site w (NamesTable t)) (in_carries w cs) (table_low b t) (carries_low cs (low_table (spot_tree w) b (spelled t)))
  carries_low (carry.Cells t (row.Var k) j ∷ cs) b =
      let one = low_table (spot_tree w) b (spelled t) in
      let two = low_uses (spot_tree w) one (spelled k) in
      first b one _ (site w (NamesTable t)) (site w (Uses k) ∷ in_carries w cs) (table_low b t) (first one two _ (site w (Uses k)) (in_carries w cs) refl (carries_low cs two))
  carries_low (carry.Cells t (row.Int n) j ∷ cs) b =
      first b (low_table (spot_tree w) b (spelled t)) _ (site w (NamesTable t)) (in_carries w cs) (table_low b t) (carries_low cs (low_table (spot_tree w) b (spelled t)))

  pub declares_low : (b : Option Fault) (x : Name) → lowest_at resolved_rules b (site w (Declares x)) ≡ low_declares (spot_tree w) b (spelled x)
  declares_low b x =
      ap (λ ts. lowest b Names (at_name (spelled x) (is_in w.scope x.text.items || (is_in ts x.text.items || is_in (func_names w.funcs) x.text.items)))) (texts_same w.tables)
      ∙ ap (λ fs. lowest b Names (at_name (spelled x) (is_in w.scope x.text.items || (is_in (texts_of (map spelled w.tables)) x.text.items || is_in fs x.text.items)))) (names_same w.funcs)

-- ---- clauses of a `par`

unseen_same : (vs : List (List ℕ)) (rs : List Reduce) → unseen_targets vs rs ≡ unseen vs (map reduce_of rs)
unseen_same vs [] = refl
unseen_same vs (r ∷ rs) = ap (λ ps. at_name (spelled r.target) (not (is_in vs r.target.text.items)) ++ ps) (unseen_same vs rs)

looped_same : (vs : List (List ℕ)) (rs : List Reduce) → loop_targets vs rs ≡ looped vs (map reduce_of rs)
looped_same vs [] = refl
looped_same vs (r ∷ rs) = ap (λ ps. at_name (spelled r.target) (is_in vs r.target.text.items) ++ ps) (looped_same vs rs)

word_same : (part : Part) (q : Place) (cs : List Carry) → carry_word part q cs ≡ word_of part q (map carry_of cs)
word_same part q [] = refl
word_same part q (c ∷ cs) = refl

targets_same : (rs : List Reduce) → map spelled (map (λ d. d.target) rs) ≡ map (λ r. r.target) (map reduce_of rs)
targets_same [] = refl
targets_same (r ∷ rs) = ap (λ xs. spelled r.target ∷ xs) (targets_same rs)

carried_one : (c : Carry) → spelled (table_name c) ≡ carried (carry_of c)
carried_one (carry.Rows t i) = refl
carried_one (carry.Cells t k j) = refl

carried_same : (cs : List Carry) → map spelled (map table_name cs) ≡ map carried (map carry_of cs)
carried_same [] = refl
carried_same (c ∷ cs) = ap (λ x. x ∷ map spelled (map table_name cs)) (carried_one c) ∙ ap (λ xs. carried (carry_of c) ∷ xs) (carried_same cs)

module _ (w : Spot) (b : Option Fault) (place word : Place) where
  abbrev all_found : List Place → List Place → List Place → List Place → List Place → Option Fault
  all_found seen carries loops eight four =
      lowest (lowest (lowest (lowest b Names seen) Functions carries) LoopVariables loops) Limits (cond (nat_le MAX_PAR_NESTING w.depth) (place ∷ []) [] ++ (eight ++ four))

  pub par_low : (x : Name) (e f : Tree) (cs : List Carry) (rs : List Reduce)
      → lowest_at resolved_rules b (site w (Parallel place word (the_loop w x cs rs)))
      ≡ low_par (spot_tree w) b (record { place = place; var = spelled x; from = e; to = f; carry_place = word; carries = map carry_of cs; reduces = map reduce_of rs })
  par_low x e f cs rs =
      let eight = past MAX_REDUCTIONS (map (λ d. d.target) rs) in
      let four = past MAX_CARRIES (map table_name cs) in
      let eight' : eight ≡ past_of MAX_REDUCTIONS (map (λ r. r.target) (map reduce_of rs)) =
      past_same MAX_REDUCTIONS (map (λ d. d.target) rs) ∙ ap (past_of MAX_REDUCTIONS) (targets_same rs) in
      let four' : four ≡ past_of MAX_CARRIES (map carried (map carry_of cs)) = past_same MAX_CARRIES (map table_name cs) ∙ ap (past_of MAX_CARRIES) (carried_same cs) in
      ap (λ r. all_found r (carry_word w.part word cs) (loop_targets w.loops rs) eight four) (unseen_same w.scope rs)
      ∙ ap (λ r. all_found (unseen w.scope (map reduce_of rs)) r (loop_targets w.loops rs) eight four) (word_same w.part word cs)
      ∙ ap (λ r. all_found (unseen w.scope (map reduce_of rs)) (word_of w.part word (map carry_of cs)) r eight four) (looped_same w.loops rs)
      ∙ ap (λ r. all_found (unseen w.scope (map reduce_of rs)) (word_of w.part word (map carry_of cs)) (looped w.loops (map reduce_of rs)) r four) eight'
      ∙ ap (λ r. all_found (unseen w.scope (map reduce_of rs)) (word_of w.part word (map carry_of cs)) (looped w.loops (map reduce_of rs)) (past_of MAX_REDUCTIONS (map (λ r. r.target) (map reduce_of rs))) r) four'
