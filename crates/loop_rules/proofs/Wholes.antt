-- Going over declarations one after the other.
use Rattle.std.proofs.Common.{◌≡◌, ◌<◌, ◌+◌, ◌++◌, ◌∷◌, [], ℕ, suc, List, take, drop, drop-cons}
use Rattle.std.proofs.Common.{take-suc, add-one, length, get_or, Option, refl, sym, ap, ◌∙◌}
use Rattle.std.proofs.Common.{append_assoc}
use Rattle.std.proofs.lemmas.List.{append-nil, map-append}
use Rattle.loop_syntax.specs.declared.Name.{Name}
use Rattle.loop_syntax.specs.declared.Func.{Func}
use Rattle.loop_syntax.specs.declared.TableDecl.{TableDecl}
use Rattle.loop_syntax.specs.declared.Program.{Program}
use Rattle.loop_rules.specs.declared.fault.Fault.{Fault}
use Rattle.loop_rules.specs.declared.part.Part.TheVariants.{OfFunc}
use Rattle.loop_rules.specs.Declarations.{table_of_decl, tables_of_decls}
use Rattle.loop_rules.specs.Names.{texts, func_names}
use Rattle.loop_rules.specs.Sites.{Spot, site, top, tables_of, declared_var, in_decl, in_decls}
use Rattle.loop_rules.specs.Sites.{in_func, in_funcs, DeclaresFunc}
use Rattle.loop_rules.specs.Search.{lowest_in, resolved_rules}
use Rattle.loop_rules.specs.Walk.{spot_of_params}
use Rattle.loop_rules.proofs.Searching.{lowest_in_append}

-- ---- tables

tables_append : (ds : List TableDecl) (d : TableDecl) → tables_of_decls (ds ++ d ∷ []) ≡ tables_of_decls ds ++ table_of_decl d ∷ []
tables_append [] d = refl
tables_append (c ∷ ds) d = ap (λ r. table_of_decl c ∷ r) (tables_append ds d)

module _ (ds : List TableDecl) (i : ℕ) (d : TableDecl) (lt : i < length ds) (is : d ≡ get_or ds i d) where
  pub tables_more : tables_of_decls (take (i + 1) ds) ≡ tables_of_decls (take i ds) ++ table_of_decl d ∷ []
  tables_more = rw (add-one, take-suc ds i d lt, ← is) (tables_append (take i ds) d)

  pub decl_names : texts (tables_of_decls (take (i + 1) ds)) ≡ texts (tables_of_decls (take i ds)) ++ (table_of_decl d).text.items ∷ []
  decl_names = ap texts tables_more ∙ map-append (λ (x : Name). x.text.items) (tables_of_decls (take i ds)) (table_of_decl d ∷ [])

  pub decls_step : (fs : List Func) (b c : Option Fault) → c ≡ lowest_in resolved_rules b (in_decl fs (tables_of_decls (take i ds)) d)
      → lowest_in resolved_rules c (in_decls fs (tables_of_decls (take (i + 1) ds)) (drop (i + 1) ds)) ≡ lowest_in resolved_rules b (in_decls fs (tables_of_decls (take i ds)) (drop i ds))
  decls_step fs b c e =
      rw (tables_more, add-one, drop-cons ds i d lt, ← is, e)
      (sym (lowest_in_append resolved_rules b (in_decl fs (tables_of_decls (take i ds)) d) (in_decls fs (tables_of_decls (take i ds) ++ table_of_decl d ∷ []) (drop (suc i) ds))))

-- ---- functions

module _ (fs : List Func) (i : ℕ) (f : Func) (lt : i < length fs) (is : f ≡ get_or fs i f) where
  pub names_more : func_names (take (i + 1) fs) ≡ func_names (take i fs) ++ f.name.text.items ∷ []
  names_more = rw (add-one, take-suc fs i f lt, ← is) (map-append (λ (g : Func). g.name.text.items) (take i fs) (f ∷ []))

  pub funcs_step : (p : Program) (b c : Option Fault) → c ≡ lowest_in resolved_rules b (site (top OfFunc (tables_of p) (take i fs)) (DeclaresFunc f) ∷ in_func p f)
      → lowest_in resolved_rules c (in_funcs p (take (i + 1) fs) (drop (i + 1) fs)) ≡ lowest_in resolved_rules b (in_funcs p (take i fs) (drop i fs))
  funcs_step p b c e =
      rw (add-one, take-suc fs i f lt, drop-cons fs i f lt, ← is, e)
      (sym (lowest_in_append resolved_rules b (site (top OfFunc (tables_of p) (take i fs)) (DeclaresFunc f) ∷ in_func p f) (in_funcs p (take i fs ++ f ∷ []) (drop (suc i) fs))))

-- ---- parameters

pub after_params : (w : Spot) (xs : List Name) → spot_of_params w xs ≡ record w { scope = w.scope ++ texts xs }
after_params w [] = ap {A = List (List ℕ)} {B = Spot} (λ sc. record w { scope = sc }) (sym (append-nil w.scope))
after_params w (x ∷ xs) =
    after_params (declared_var w x) xs
    ∙ ap {A = List (List ℕ)} {B = Spot} (λ sc. record w { scope = sc }) (append_assoc w.scope (x.text.items ∷ []) (texts xs))
