-- Outside all loops no rule of disjoint writes is broken but in bodies.
use Rattle.std.proofs.Common.{◌≡◌, ◌∙◌, List, [], ◌∷◌, ◌++◌, Option, None, refl, sym, ap}
use Rattle.loop_syntax.specs.declared.Name.{Name}
use Rattle.loop_syntax.specs.declared.Expr.{Expr}
use Rattle.loop_syntax.specs.declared.Expr.TheVariants.{Int, Var, Cell', Rows, Cols, Neg', Bin'}
use Rattle.loop_syntax.specs.declared.Func.{Func}
use Rattle.loop_syntax.specs.declared.TableDecl.{TableDecl}
use Rattle.loop_syntax.specs.declared.TableDecl.TheVariants.{Input, Made}
use Rattle.loop_syntax.specs.declared.Program.{Program}
use Rattle.loop_rules.specs.declared.part.Part.TheVariants.{OfSize, OfFunc}
use Rattle.loop_rules.specs.Names.{texts}
use Rattle.loop_rules.specs.Sites.{Site, Spot, site, Declares, in_expr, in_whole, in_decls}
use Rattle.loop_rules.specs.Sites.{in_params, in_list, in_func, in_funcs, in_main, sites, top}
use Rattle.loop_rules.specs.Sites.{tables_of, declared_var, func_spot, main_spot, spot_of_list}
use Rattle.loop_rules.specs.Sites.{spot_after}
use Rattle.loop_syntax.specs.declared.Stmt.{Stmt}
use Rattle.loop_syntax.specs.declared.Stmt.TheVariants.{Let}
use Rattle.loop_rules.specs.declared.fault.Fault.{Fault}
use Rattle.loop_check.specs.declared.reader.Reader.{Reader}
use Rattle.loop_rules.specs.Search.{lowest_at, lowest_in}
use Rattle.loop_check.specs.Search.{checked_rules}
use Rattle.loop_check.specs.Walk.{spot}
use Rattle.loop_check.specs.Whole.{lowest_of_funcs}
use Rattle.loop_check.proofs.Apart.{bare_apart}
use Rattle.loop_rules.proofs.Searching.{lowest_in_append}

after_rounds : (w : Spot) (s : Stmt) → w.rounds ≡ [] → (spot_after w s).rounds ≡ []
after_rounds w (Let x e) h = h
after_rounds w _ h = h

pub end_rounds : (w : Spot) (ss : List Stmt) → w.rounds ≡ [] → (spot_of_list w ss).rounds ≡ []
end_rounds w [] h = h
end_rounds w (s ∷ ss) h = end_rounds (spot_after w s) ss (after_rounds w s h)

module _ (rs : List Reader) where
  expr_none : (b : Option Fault) (w : Spot) → w.rounds ≡ [] → (e : Expr) → lowest_in (checked_rules rs) b (in_expr w e) ≡ b
  expr_none b w h (Int n p) = refl
  expr_none b w h (Var x) = rw h refl
  expr_none b w h (Cell' t p a q c) = rw h (lowest_in_append (checked_rules rs) b (in_expr w a) (in_expr w c) ∙ expr_none (lowest_in (checked_rules rs) b (in_expr w a)) w h c ∙ expr_none b w h a)
  expr_none b w h (Rows t) = refl
  expr_none b w h (Cols t) = refl
  expr_none b w h (Neg' p a z) = expr_none b w h a
  expr_none b w h (Bin' o z p a q c) = lowest_in_append (checked_rules rs) b (in_expr w a) (in_expr w c) ∙ expr_none (lowest_in (checked_rules rs) b (in_expr w a)) w h c ∙ expr_none b w h a

  whole_none : (b : Option Fault) (w : Spot) → w.rounds ≡ [] → (e : Expr) → lowest_in (checked_rules rs) b (in_whole w e) ≡ b
  whole_none b w h e = expr_none b w h e

  decls_none : (b : Option Fault) (fs : List Func) (before : List Name) (ds : List TableDecl) → lowest_in (checked_rules rs) b (in_decls fs before ds) ≡ b
  decls_none b fs before [] = refl
  decls_none b fs before (Input t ∷ ds) = decls_none b fs (before ++ t ∷ []) ds
  decls_none b fs before (Made t x y ∷ ds) =
      let w : Spot = top OfSize before fs in
      lowest_in_append (checked_rules rs) b (in_whole w x ++ in_whole w y) (in_decls fs (before ++ t ∷ []) ds)
      ∙ decls_none (lowest_in (checked_rules rs) b (in_whole w x ++ in_whole w y)) fs (before ++ t ∷ []) ds
      ∙ lowest_in_append (checked_rules rs) b (in_whole w x) (in_whole w y) ∙ whole_none (lowest_in (checked_rules rs) b (in_whole w x)) w refl y ∙ whole_none b w refl x

  params_none : (b : Option Fault) (w : Spot) → w.rounds ≡ [] → (xs : List Name) → lowest_in (checked_rules rs) b (in_params w xs) ≡ b
  params_none b w h [] = refl
  params_none b w h (x ∷ xs) =
      let first : lowest_at (checked_rules rs) b (site w (Declares x)) ≡ b = rw h refl in
      ap (λ c. lowest_in (checked_rules rs) c (in_params (declared_var w x) xs)) first ∙ params_none b (declared_var w x) h xs

  func_found : (p : Program) (b : Option Fault) (f : Func) → lowest_in (checked_rules rs) b (in_func p f) ≡ lowest_in (checked_rules rs) b (in_list (spot (texts f.params.items) [] []) f.body.items)
  func_found p b f =
      let outer : Spot = top OfFunc (tables_of p) p.funcs.items in
      let w : Spot = func_spot p f in
      let params : List Site = in_params outer f.params.items in
      let body : List Site = in_list w f.body.items in
      let last : List Site = in_whole (spot_of_list w f.body.items) f.result in
      lowest_in_append (checked_rules rs) b params (body ++ last)
      ∙ ap (λ c. lowest_in (checked_rules rs) c (body ++ last)) (params_none b outer refl f.params.items)
      ∙ lowest_in_append (checked_rules rs) b body last
      ∙ whole_none (lowest_in (checked_rules rs) b body) (spot_of_list w f.body.items) (end_rounds w f.body.items refl) f.result
      ∙ bare_apart rs b w f.body.items

  funcs_found : (p : Program) (b : Option Fault) (before fs : List Func) → lowest_in (checked_rules rs) b (in_funcs p before fs) ≡ lowest_of_funcs rs b fs
  funcs_found p b before [] = refl
  funcs_found p b before (f ∷ fs) =
      lowest_in_append (checked_rules rs) b (in_func p f) (in_funcs p (before ++ f ∷ []) fs)
      ∙ ap (λ c. lowest_in (checked_rules rs) c (in_funcs p (before ++ f ∷ []) fs)) (func_found p b f)
      ∙ funcs_found p (lowest_in (checked_rules rs) b (in_list (spot (texts f.params.items) [] []) f.body.items)) (before ++ f ∷ []) fs

  pub sites_found : (p : Program) (f g : Option Fault) → f ≡ lowest_of_funcs rs None p.funcs.items → g ≡ lowest_in (checked_rules rs) f (in_list (spot [] [] []) p.main.items) → g ≡ lowest_in (checked_rules rs) None (sites p)
  sites_found p f g h k =
      let decls : List Site = in_decls p.funcs.items [] p.tables.items in
      let funcs : List Site = in_funcs p [] p.funcs.items in
      k ∙ sym (bare_apart rs f (main_spot p) p.main.items)
      ∙ ap (λ c. lowest_in (checked_rules rs) c (in_main p)) (h ∙ sym (funcs_found p None [] p.funcs.items))
      ∙ sym (lowest_in_append (checked_rules rs) None funcs (in_main p))
      ∙ ap (λ c. lowest_in (checked_rules rs) c (funcs ++ in_main p)) (sym (decls_none None p.funcs.items [] p.tables.items))
      ∙ sym (lowest_in_append (checked_rules rs) None decls (funcs ++ in_main p))
