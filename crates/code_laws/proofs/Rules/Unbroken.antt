-- What the code of a program asks of it holds where it breaks no rule and has no `leave`.
use Rattle.std.proofs.Common.{◌≡◌, ℕ, ◌+◌, ◌≤◌, Bool, true, false, cond, List, [], ◌∷◌, ◌++◌}
use Rattle.std.proofs.Common.{length, bytes_eq, Some, refl, subst, arith, Contains}
use Rattle.std.specs.Prelude.{nat_eq}
use Rattle.std.specs.List.{AllByRecursion}
use Rattle.std.proofs.lemmas.Bool.Decides.{nat_tests}
use Rattle.std.proofs.lemmas.List.{length-append, length-map}
use Rattle.tp_value.specs.declared.limits.TheConstants.{MAX_TABLES, MAX_FUNCTIONS, MAX_PARAMETERS}
use Rattle.tp_value.specs.declared.limits.TheConstants.{MAX_DECLARED_VARIABLES}
use Rattle.loop_syntax.specs.declared.Func.{Func}
use Rattle.loop_syntax.specs.declared.Name.{Name}
use Rattle.loop_syntax.specs.declared.Program.{Program}
use Rattle.loop_syntax.specs.declared.TableDecl.{TableDecl}
use Rattle.loop_syntax.specs.declared.TableDecl.TheVariants.{Input, Made}
use Rattle.loop_rules.specs.declared.part.Part.TheVariants.{OfSize, OfFunc}
use Rattle.loop_rules.specs.declared.rule.Rule.TheVariants.{Names, OuterVariables, Reductions}
use Rattle.loop_rules.specs.declared.rule.Rule.TheVariants.{CarryLists, LoopVariables, Limits}
use Rattle.loop_rules.specs.Declarations.{declared_list, table_of_decl}
use Rattle.loop_rules.specs.Limits.{past, over_limits}
use Rattle.loop_rules.specs.Names.{texts, func_of}
use Rattle.loop_rules.specs.Carries.{miscarried}
use Rattle.loop_rules.specs.Reductions.{outer_set, misreduced}
use Rattle.loop_rules.specs.Scopes.{at, misnamed, loop_variable_set}
use Rattle.loop_rules.specs.Sites.{Spot, Site, in_whole, in_list, in_params, in_decl, in_decls}
use Rattle.loop_rules.specs.Sites.{in_func, in_funcs, in_main, sites, tables_of, top, func_spot}
use Rattle.loop_rules.specs.Sites.{main_spot, spot_of_list}
use Rattle.loop_check.specs.Unbroken.{NoneBroken}
use Rattle.loop_check.proofs.Bools.{and_left, and_right}
use Rattle.loop_check.proofs.Fine.{at_none, none_of, append_none_right}
use Rattle.loop_check.proofs.Lists.{Each, each_left, each_right, each_of}
use Rattle.code_laws.specs.Fitting.{SizesAreVisible, DeclsFit, FuncFits, MainFits, ProgramFits}
use Rattle.scene_laws.specs.Built.{list_is_built, functions_are_built, program_is_built}
use Rattle.scene_laws.specs.Heights.{DeclIsLow}
use Rattle.scene_laws.specs.Names.{names_after_list}
use Rattle.scene_laws.specs.Round.{outermost}
use Rattle.code_laws.proofs.Rules.UnbrokenCuts.{short_enough}
use Rattle.code_laws.proofs.Rules.UnbrokenExpressions.{Keeps, AreShort, whole_visible, whole_low}
use Rattle.code_laws.proofs.Rules.UnbrokenLow.{low_list}
use Rattle.code_laws.proofs.Rules.UnbrokenNames.{texts_more, declares_table, tables_distinct}
use Rattle.code_laws.proofs.Rules.UnbrokenNames.{funcs_distinct, tables_apart}
use Rattle.code_laws.proofs.Rules.UnbrokenSpots.{with_names, end_is}
use Rattle.code_laws.proofs.Rules.UnbrokenStatements.{fits_list}

-- ---- declarations

decl_visible : (fs : List Func) (before : List Name) (d : TableDecl) → Each Keeps (in_decl fs before d) → SizesAreVisible (texts before) d
decl_visible fs before (Input t) k = tt
decl_visible fs before (Made t a b) k =
    let w : Spot = top OfSize before fs in
    (whole_visible w a (each_left Keeps (in_whole w a) (in_whole w b) k.1), whole_visible w b (each_right Keeps (in_whole w a) (in_whole w b) k.1))

decl_low : (fs : List Func) (before : List Name) (d : TableDecl) → Each Keeps (in_decl fs before d) → DeclIsLow d
decl_low fs before (Input t) k = tt
decl_low fs before (Made t a b) k =
    let w : Spot = top OfSize before fs in
    (whole_low w a (each_left Keeps (in_whole w a) (in_whole w b) k.1), whole_low w b (each_right Keeps (in_whole w a) (in_whole w b) k.1))

decls_fit : (fs : List Func) (before : List Name) (ds : List TableDecl) → Each Keeps (in_decls fs before ds) → DeclsFit (texts before) ds
decls_fit fs before [] k = tt
decls_fit fs before (d ∷ ds) k =
    let rest : List Site = in_decls fs (before ++ table_of_decl d ∷ []) ds in
    let here : Each Keeps (in_decl fs before d) = each_left Keeps (in_decl fs before d) rest k in (
      decl_visible fs before d here,
      decl_low fs before d here,
      subst (λ (seen : List (List ℕ)). DeclsFit seen ds) (texts_more before (table_of_decl d)) (decls_fit fs (before ++ table_of_decl d ∷ []) ds (each_right Keeps (in_decl fs before d) rest k)),
    )

one_more : (n m : ℕ) → n ≤ m → nat_eq n m ≡ false → n + 1 ≤ m
one_more n m h e = grind (arith, nat_tests)

few_decls : (fs : List Func) (before : List Name) (ds : List TableDecl) → length before ≤ MAX_TABLES → Each Keeps (in_decls fs before ds) → length before + length ds ≤ MAX_TABLES
few_decls fs before [] few k = omega arith
few_decls fs before (d ∷ ds) few k =
    let t : Name = table_of_decl d in
    let rest : List Site = in_decls fs (before ++ t ∷ []) ds in
    let room : length before + 1 ≤ MAX_TABLES =
    one_more (length before) MAX_TABLES few (at_none t (nat_eq (length before) MAX_TABLES) (declares_table fs before d (each_left Keeps (in_decl fs before d) rest k)).limits) in
    let long : length (before ++ t ∷ []) ≡ length before + 1 = length-append before (t ∷ []) in
    let others : length (before ++ t ∷ []) + length ds ≤ MAX_TABLES = few_decls fs (before ++ t ∷ []) ds (omega arith) (each_right Keeps (in_decl fs before d) rest k) in
    omega arith

-- ---- functions

has_few : (p : Program) (before fs : List Func) → Each Keeps (in_funcs p before fs) → AllByRecursion (λ f. length f.params.items ≤ MAX_PARAMETERS) fs
has_few p before [] k = tt
has_few p before (f ∷ fs) k = (
  short_enough MAX_PARAMETERS f.params.items (append_none_right (at f.name (nat_eq (length before) MAX_FUNCTIONS)) (past MAX_PARAMETERS f.params.items) k.0.limits),
  has_few p (before ++ f ∷ []) fs (each_right Keeps (in_func p f) (in_funcs p (before ++ f ∷ []) fs) k.1),
)

few_of : (fs : List Func) → AllByRecursion (λ f. length f.params.items ≤ MAX_PARAMETERS) fs → (x : List ℕ) (g : Func) → func_of fs x ≡ Some g → length g.params.items ≤ MAX_PARAMETERS
few_of [] all x g e = absurd (cc)
few_of (f ∷ fs) all x g e = go (bytes_eq f.name.text.items x) (few_of fs all.1 x g) e
  where
    go : (b : Bool) → (func_of fs x ≡ Some g → length g.params.items ≤ MAX_PARAMETERS) → cond b (Some f) (func_of fs x) ≡ Some g → length g.params.items ≤ MAX_PARAMETERS
    go true rest e = (let is : f ≡ g = cc in subst (λ (h : Func). length h.params.items ≤ MAX_PARAMETERS) is all.0)
    go false rest e = rest e

func_fits : (p : Program) (f : Func) → AreShort p.funcs.items → length f.params.items ≤ MAX_PARAMETERS → list_is_built f.body.items ≡ true → Each Keeps (in_func p f) → FuncFits p f
func_fits p f short few built k =
    let w : Spot = func_spot p f in
    let end : Spot = spot_of_list w f.body.items in
    let params : List Site = in_params (top OfFunc (tables_of p) p.funcs.items) f.params.items in
    let behind : Each Keeps (in_list w f.body.items ++ in_whole end f.result) = each_right Keeps params (in_list w f.body.items ++ in_whole end f.result) k.1 in
    let body : Each Keeps (in_list w f.body.items) = each_left Keeps (in_list w f.body.items) (in_whole end f.result) behind in
    let last : Each Keeps (in_whole (with_names w (names_after_list (texts f.params.items) f.body.items)) f.result) =
    subst (λ (v : Spot). Each Keeps (in_whole v f.result)) (end_is w f.body.items) (each_right Keeps (in_list w f.body.items) (in_whole end f.result) behind) in
    let long : length (f.params.items ++ declared_list f.body.items) ≡ length f.params.items + length (declared_list f.body.items) = length-append f.params.items (declared_list f.body.items) in
    let within : length (f.params.items ++ declared_list f.body.items) ≤ MAX_DECLARED_VARIABLES = short_enough MAX_DECLARED_VARIABLES (f.params.items ++ declared_list f.body.items) k.0.limits in
    let named : length (texts f.params.items) ≡ length f.params.items = length-map f.params.items (λ (x : Name). x.text.items) in
    record {
      fits = λ functions entries. fits_list functions (length f.params.items + length (declared_list f.body.items)) w outermost f.body.items entries (record { deep = refl; kept = tt }) (omega arith) built body;
      seen = whole_visible (with_names w (names_after_list (texts f.params.items) f.body.items)) f.result last;
      low = (low_list w f.body.items short body, whole_low (with_names w (names_after_list (texts f.params.items) f.body.items)) f.result last);
      few_parameters = few;
      few = omega arith;
    }

funcs_fit : (p : Program) (before fs : List Func) → AreShort p.funcs.items → AllByRecursion (λ f. length f.params.items ≤ MAX_PARAMETERS) fs → functions_are_built fs ≡ true → Each Keeps (in_funcs p before fs) → AllByRecursion (FuncFits p) fs
funcs_fit p before [] short few built k = tt
funcs_fit p before (f ∷ fs) short few built k =
    let rest : List Site = in_funcs p (before ++ f ∷ []) fs in
    (func_fits p f short few.0 (and_left (list_is_built f.body.items) (functions_are_built fs) built) (each_left Keeps (in_func p f) rest k.1), funcs_fit p (before ++ f ∷ []) fs short few.1 (and_right (list_is_built f.body.items) (functions_are_built fs) built) (each_right Keeps (in_func p f) rest k.1))

-- ---- the program

module _ (p : Program) (none : NoneBroken p) (built : program_is_built p ≡ true) where
  keeps_at : (s : Site) → Contains (sites p) s → Keeps s
  keeps_at s h = record {
    names = none_of (misnamed s.act s.spot) (λ q k. none.unbroken Names q (record { where_at = s; stands = h; breaks = k }));
    sets = none_of (outer_set s.act s.spot) (λ q k. none.unbroken OuterVariables q (record { where_at = s; stands = h; breaks = k }));
    reductions = none_of (misreduced s.act s.spot) (λ q k. none.unbroken Reductions q (record { where_at = s; stands = h; breaks = k }));
    items = none_of (miscarried s.act s.spot) (λ q k. none.unbroken CarryLists q (record { where_at = s; stands = h; breaks = k }));
    loops = none_of (loop_variable_set s.act s.spot) (λ q k. none.unbroken LoopVariables q (record { where_at = s; stands = h; breaks = k }));
    limits = none_of (over_limits s.act s.spot) (λ q k. none.unbroken Limits q (record { where_at = s; stands = h; breaks = k }));
  }

  tables_keep : Each Keeps (in_decls p.funcs.items [] p.tables.items)
  tables_keep = each_left Keeps (in_decls p.funcs.items [] p.tables.items) (in_funcs p [] p.funcs.items ++ in_main p) (each_of Keeps (sites p) keeps_at)

  behind_tables : Each Keeps (in_funcs p [] p.funcs.items ++ in_main p)
  behind_tables = each_right Keeps (in_decls p.funcs.items [] p.tables.items) (in_funcs p [] p.funcs.items ++ in_main p) (each_of Keeps (sites p) keeps_at)

  funcs_keep : Each Keeps (in_funcs p [] p.funcs.items)
  funcs_keep = each_left Keeps (in_funcs p [] p.funcs.items) (in_main p) behind_tables

  main_keeps : Each Keeps (in_main p)
  main_keeps = each_right Keeps (in_funcs p [] p.funcs.items) (in_main p) behind_tables

  are_short : AreShort p.funcs.items
  are_short = record { short = few_of p.funcs.items (has_few p [] p.funcs.items funcs_keep) }

  main_fits : MainFits p
  main_fits = record {
    fits = λ functions entries. fits_list functions (length (declared_list p.main.items)) (main_spot p) outermost p.main.items entries (record { deep = refl; kept = tt }) (omega arith) (and_right (functions_are_built p.funcs.items) (list_is_built p.main.items) built) main_keeps.1;
    low = low_list (main_spot p) p.main.items are_short main_keeps.1;
    few = short_enough MAX_DECLARED_VARIABLES (declared_list p.main.items) main_keeps.0.limits;
  }

  pub program_fits : ProgramFits p
  program_fits = record {
    main = main_fits;
    functions = funcs_fit p [] p.funcs.items are_short (has_few p [] p.funcs.items funcs_keep) (and_left (functions_are_built p.funcs.items) (list_is_built p.main.items) built) funcs_keep;
    declarations = decls_fit p.funcs.items [] p.tables.items tables_keep;
    few_tables = (let few : 0 + length p.tables.items ≤ MAX_TABLES = few_decls p.funcs.items [] p.tables.items (omega arith) tables_keep in omega arith);
    tables_differ = tables_distinct p.funcs.items p.tables.items tables_keep;
    functions_differ = funcs_distinct p p.funcs.items funcs_keep;
    apart = λ x is_table is_func. tables_apart p tables_keep funcs_keep x is_table is_func;
  }
