-- What it means at each site that no rule is broken, and that functions write and print nothing.
use Rattle.std.proofs.Common.{◌≡◌, ℕ, List, [], ◌∷◌, ◌++◌, Some, Bool, true, false, cond, bytes_eq}
use Rattle.std.proofs.Common.{refl, subst, Contains}
use Rattle.tp_value.specs.declared.Place.{Place}
use Rattle.loop_syntax.specs.declared.Name.{Name}
use Rattle.loop_syntax.specs.declared.Func.{Func}
use Rattle.loop_syntax.specs.declared.Program.{Program}
use Rattle.loop_rules.specs.declared.part.Part.TheVariants.{OfFunc}
use Rattle.loop_rules.specs.Names.{func_of}
use Rattle.loop_rules.specs.Sites.{Act, DeclaresTable, DeclaresFunc, DeclaresAll, Declares, Uses}
use Rattle.loop_rules.specs.Sites.{Assigns, Folds, AssignsBoth, NamesTable, ReadsCell, WritesCell}
use Rattle.loop_rules.specs.Sites.{Calls, Evaluates, Shows, Parallel, Leaves, LeavesAll, Spot, Site, in_whole, in_list}
use Rattle.loop_rules.specs.Sites.{in_params, in_decls, declared_var, spot_of_list, top, tables_of}
use Rattle.loop_rules.specs.Sites.{func_spot, in_func, in_funcs, in_main, sites}
use Rattle.loop_rules.specs.declared.rule.Rule.TheVariants.{Names, OuterVariables, Reductions}
use Rattle.loop_rules.specs.declared.rule.Rule.TheVariants.{TableWrites, TableReads, CarryLists}
use Rattle.loop_rules.specs.declared.rule.Rule.TheVariants.{Functions, ReadingCalls, Output}
use Rattle.loop_rules.specs.declared.rule.Rule.TheVariants.{LoopVariables}
use Rattle.loop_rules.specs.declared.rule.Rule.TheVariants as rules
use Rattle.loop_rules.specs.Scopes.{at, misnamed, loop_variable_set}
use Rattle.loop_rules.specs.Reductions.{any_loop, outer_set, misreduced}
use Rattle.loop_rules.specs.Carries.{carries, miswritten, misread, miscarried}
use Rattle.loop_rules.specs.Keeps.{in_function, unfit_for_functions, shown_in_par}
use Rattle.loop_rules.specs.Reading.{ReadsTable}
use Rattle.loop_rules.specs.Leaves.{misleft}
use Rattle.loop_check.specs.Unbroken.{NoneBroken}
use Rattle.loop_check.proofs.Lists.{Each, each_left, each_right, each_both, each_of, contains_here}
use Rattle.loop_check.proofs.Calls.{Quiet, QuietFuncs}
use Rattle.loop_check.proofs.Walk.{whole_walk, list_walk, end_walk}

pub at_none : (x : Name) (b : Bool) → at x b ≡ [] → b ≡ false
at_none x true h = absurd (cc)
at_none x false h = refl

pub append_none_left : {X : Type 0} (xs ys : List X) → xs ++ ys ≡ [] → xs ≡ []
append_none_left [] ys h = refl
append_none_left (x ∷ xs) ys h = absurd (cc)

pub append_none_right : {X : Type 0} (xs ys : List X) → xs ++ ys ≡ [] → ys ≡ []
append_none_right [] ys h = h
append_none_right (x ∷ xs) ys h = absurd (cc)

pub none_of : (ps : List Place) → ((q : Place) → Contains ps q → ⊥) → ps ≡ []
none_of [] h = refl
none_of (q ∷ qs) h = absurd (h q (contains_here qs q))

-- no rule is broken by what is done at a spot
pub record Fine (p : Program) (a : Act) (w : Spot) : Type 0 where
  pub f1 : misnamed a w ≡ []
  pub f2 : outer_set a w ≡ []
  pub f3 : misreduced a w ≡ []
  pub f4 : miswritten a w ≡ []
  pub f5 : misread a w ≡ []
  pub f6 : miscarried a w ≡ []
  pub f7 : unfit_for_functions a w ≡ []
  pub f8 : (c : Name) (n : ℕ) → a ≡ Calls c n → (t : List ℕ) → ReadsTable p c.text.items t → any_loop (carries t) w.rounds ≡ true → ⊥
  pub f9 : shown_in_par a w ≡ []
  pub f10 : loop_variable_set a w ≡ []
  pub f12 : misleft a w ≡ []

abbrev pub AllFine : Program → List Site → Type 0
AllFine p ss = Each (λ (s : Site). Fine p s.act s.spot) ss

-- ---- a program that breaks no rule

module _ (p : Program) (none : NoneBroken p) where
  fine_at : (s : Site) → Contains (sites p) s → Fine p s.act s.spot
  fine_at s h = record {
    f1 = none_of (misnamed s.act s.spot) (λ q k. none.unbroken Names q (record { where_at = s; stands = h; breaks = k }));
    f2 = none_of (outer_set s.act s.spot) (λ q k. none.unbroken OuterVariables q (record { where_at = s; stands = h; breaks = k }));
    f3 = none_of (misreduced s.act s.spot) (λ q k. none.unbroken Reductions q (record { where_at = s; stands = h; breaks = k }));
    f4 = none_of (miswritten s.act s.spot) (λ q k. none.unbroken TableWrites q (record { where_at = s; stands = h; breaks = k }));
    f5 = none_of (misread s.act s.spot) (λ q k. none.unbroken TableReads q (record { where_at = s; stands = h; breaks = k }));
    f6 = none_of (miscarried s.act s.spot) (λ q k. none.unbroken CarryLists q (record { where_at = s; stands = h; breaks = k }));
    f7 = none_of (unfit_for_functions s.act s.spot) (λ q k. none.unbroken Functions q (record { where_at = s; stands = h; breaks = k }));
    f8 = λ c n e t r k. none.unbroken ReadingCalls c.place (record { where_at = s; stands = h; breaks = record { callee = c; arguments = n; is_call = e; table = t; reads = r; carried = k; here = refl } });
    f9 = none_of (shown_in_par s.act s.spot) (λ q k. none.unbroken Output q (record { where_at = s; stands = h; breaks = k }));
    f10 = none_of (loop_variable_set s.act s.spot) (λ q k. none.unbroken LoopVariables q (record { where_at = s; stands = h; breaks = k }));
    f12 = none_of (misleft s.act s.spot) (λ q k. none.unbroken rules.Leaves q (record { where_at = s; stands = h; breaks = k }));
  }

  behind_tables : AllFine p (in_funcs p [] p.funcs.items ++ in_main p)
  behind_tables = each_right (λ (s : Site). Fine p s.act s.spot) (in_decls p.funcs.items [] p.tables.items) (in_funcs p [] p.funcs.items ++ in_main p) (each_of (λ (s : Site). Fine p s.act s.spot) (sites p) fine_at)

  pub funcs_fine : AllFine p (in_funcs p [] p.funcs.items)
  funcs_fine = each_left (λ (s : Site). Fine p s.act s.spot) (in_funcs p [] p.funcs.items) (in_main p) behind_tables

  pub main_fine : AllFine p (in_main p)
  main_fine = each_right (λ (s : Site). Fine p s.act s.spot) (in_funcs p [] p.funcs.items) (in_main p) behind_tables

-- ---- a function

-- its body, and its result
pub body_fine : (p : Program) (f : Func) → AllFine p (in_func p f) → AllFine p (in_list (func_spot p f) f.body.items ++ in_whole (spot_of_list (func_spot p f) f.body.items) f.result)
body_fine p f h =
    each_right (λ (s : Site). Fine p s.act s.spot) (in_params (top OfFunc (tables_of p) p.funcs.items) f.params.items) (in_list (func_spot p f) f.body.items ++ in_whole (spot_of_list (func_spot p f) f.body.items) f.result) h.1

-- what is done in a function writes and prints nothing
act_quiet : (p : Program) (a : Act) (w : Spot) → Fine p a w → w.part ≡ OfFunc → Quiet a
act_quiet p (WritesCell t a b) w f i = let h : in_function OfFunc t.place ≡ [] = subst (λ z. in_function z t.place ≡ []) i f.f7 in absurd (cc)
act_quiet p (ReadsCell t a b) w f i = tt
act_quiet p (Assigns y) w f i = tt
act_quiet p (Folds y) w f i = tt
act_quiet p (Calls c n) w f i = tt
act_quiet p (DeclaresTable t) w f i = tt
act_quiet p (DeclaresFunc d) w f i = tt
act_quiet p (DeclaresAll ys) w f i = tt
act_quiet p (Declares y) w f i = tt
act_quiet p (Uses y) w f i = tt
act_quiet p (AssignsBoth y z) w f i = tt
act_quiet p (NamesTable t) w f i = tt
act_quiet p (Evaluates e) w f i = tt
act_quiet p (Shows q) w f i = let h : in_function OfFunc q ≡ [] = subst (λ z. in_function z q ≡ []) i f.f7 in absurd (cc)
act_quiet p (Parallel q z l) w f i = tt
act_quiet p (Leaves y) w f i = tt
act_quiet p (LeavesAll ys) w f i = tt

params_quiet : (w : Spot) (xs : List Name) → Each (λ (s : Site). Quiet s.act) (in_params w xs)
params_quiet w [] = tt
params_quiet w (x ∷ xs) = (tt, params_quiet (declared_var w x) xs)

func_quiet : (p : Program) (f : Func) → AllFine p (in_func p f) → Each (λ (s : Site). Quiet s.act) (in_func p f)
func_quiet p f h =
    let w : Spot = func_spot p f in
    let body : List Site = in_list w f.body.items in
    let last : List Site = in_whole (spot_of_list w f.body.items) f.result in
    let both : AllFine p (body ++ last) = body_fine p f h in
    let quiet : Site → Type 0 = λ s. Quiet s.act in (
      tt,
      each_both quiet (in_params (top OfFunc (tables_of p) p.funcs.items) f.params.items) (body ++ last) (params_quiet _ f.params.items) (each_both quiet body last
          (list_walk (Fine p) (λ a w. Quiet a) (λ w. w.part ≡ OfFunc) (act_quiet p) (λ w y i. i) (λ w y i. i) (λ w y cs rs q z g c i. i) w refl f.body.items (each_left _ body last both))
          (whole_walk (Fine p) (λ a w. Quiet a) (λ w. w.part ≡ OfFunc) (act_quiet p) (λ w y i. i) (λ w y i. i) (λ w y cs rs q z g c i. i) (spot_of_list w f.body.items)
          (end_walk (Fine p) (λ a w. Quiet a) (λ w. w.part ≡ OfFunc) (act_quiet p) (λ w y i. i) (λ w y i. i) (λ w y cs rs q z g c i. i) w refl f.body.items) f.result (each_right _ body last both))),
    )

-- the function of that name
pub func_fine : (p : Program) (before fs : List Func) → AllFine p (in_funcs p before fs) → (f : List ℕ) (g : Func) → func_of fs f ≡ Some g → AllFine p (in_func p g)
func_fine p before [] h f g e = absurd (cc)
func_fine p before (d ∷ ds) h f g e =
    go (λ k. func_fine p (before ++ d ∷ []) ds (each_right (λ (s : Site). Fine p s.act s.spot) (in_func p d) (in_funcs p (before ++ d ∷ []) ds) h.1) f g k)
    (each_left (λ (s : Site). Fine p s.act s.spot) (in_func p d) (in_funcs p (before ++ d ∷ []) ds) h.1) (bytes_eq d.name.text.items f) e
  where
    go : (func_of ds f ≡ Some g → AllFine p (in_func p g)) → AllFine p (in_func p d) → (b : Bool) → cond b (Some d) (func_of ds f) ≡ Some g → AllFine p (in_func p g)
    go k l true q = (let m : d ≡ g = cc in subst (λ z. AllFine p (in_func p z)) m l)
    go k l false q = k q

-- the functions of a program that breaks no rule write and print nothing
pub quiet_funcs : (p : Program) → NoneBroken p → QuietFuncs p
quiet_funcs p none = λ f g e. func_quiet p g (func_fine p [] p.funcs.items (funcs_fine p none) f g e)
