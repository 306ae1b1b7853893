-- Each `par` of a program that breaks no rule may be cut in two.
use Rattle.std.proofs.Common.{◌≡◌, ℕ, List, [], ◌∷◌, ◌++◌, Option, Some, None, refl, sym, ap, subst}
use Rattle.std.proofs.Common.{◌∙◌, inl, Bool, true, false, Contains}
use Rattle.tp_value.specs.declared.Place.{Place}
use Rattle.loop_syntax.specs.declared.Name.{Name}
use Rattle.loop_syntax.specs.declared.Carry.{Carry}
use Rattle.loop_syntax.specs.declared.Reduce.{Reduce}
use Rattle.loop_syntax.specs.declared.Func.{Func}
use Rattle.loop_syntax.specs.declared.ParLoop.{ParLoop}
use Rattle.loop_syntax.specs.declared.Stmt.{Stmt}
use Rattle.loop_syntax.specs.declared.Program.{Program}
use Rattle.loop_rules.specs.declared.part.Part.TheVariants.{OfFunc}
use Rattle.loop_rules.specs.declared.rule.Rule.TheVariants.{ReadingCalls}
use Rattle.loop_rules.specs.Carries.{carries}
use Rattle.loop_rules.specs.Keeps.{carry_word}
use Rattle.loop_rules.specs.Names.{is_in, func_of, texts}
use Rattle.loop_rules.specs.Reductions.{any_loop}
use Rattle.loop_rules.specs.Sites.{Loop, Act, Calls, Declares, Parallel, Spot, Site, in_carries}
use Rattle.loop_rules.specs.Sites.{in_func, in_list, in_par, in_params, in_whole, site, sites}
use Rattle.loop_rules.specs.Sites.{func_spot, spot_of_list, the_loop, top, tables_of}
use Rattle.loop_meaning.specs.Cells.{Body, body_of, bodies_of, bodies_of_list}
use Rattle.loop_check.specs.Unbroken.{NoneBroken}
use Rattle.loop_check.proofs.Lists.{Each, each_at, each_left, each_right, each_of}
use Rattle.loop_check.proofs.Fine.{Fine, AllFine, funcs_fine, func_fine}
use Rattle.loop_check.proofs.Bodies.{HasStatements, body_at, each_body, each_list}
use Rattle.loop_check.proofs.Shapes.{HeadOk}
use Rattle.frame_machine.specs.Modes.{Modes, demoted, inner_modes, modes_of}
use Rattle.frame_machine.specs.Bodies.{Unreduced, ListKeeps, NoVariable, FuncKeeps, FuncsKeep}
use Rattle.frame_machine.specs.AllLawful.{AllLawful}
use Rattle.frame_machine.specs.Lawful.{Distinct, DistinctTargets, TargetsIn, RowsFixed, FixedIn}
use Rattle.frame_machine.specs.Lawful.{Callable, Lawful}
use Rattle.frame_machine.proofs.RulesNames.{is_new, distinct_end, distinct_params, targets_in}
use Rattle.frame_machine.proofs.RulesNames.{new_unreduced, distinct_targets, rows_fixed}
use Rattle.frame_machine.proofs.RulesModes.{demoted_twice, whole_mode}
use Rattle.frame_machine.proofs.RulesWalk.{VariableRules, TableRules, list_keeps, reads}
use Rattle.frame_machine.proofs.RulesWalk.{end_variables, end_tables}
use Rattle.frame_machine.proofs.RulesVariables as variables
use Rattle.frame_machine.proofs.RulesVariables.{fixed_kept}
use Rattle.frame_machine.proofs.RulesTables as tables
use Rattle.frame_machine.proofs.RulesTables.{Stands, inner_none}

-- what makes a loop with these clauses and this body lawful, where those round it allow `outer`
record IsLawful (p : Program) (outer : Modes) (b : Body) : Type 0 where
  distinct : Distinct b.loop.outside
  fresh : is_in b.loop.outside b.loop.var ≡ false
  plain : Unreduced b.loop.reduces b.loop.var
  targets : DistinctTargets b.loop.reduces
  visible : TargetsIn b.loop.outside b.loop.reduces
  rows : RowsFixed b.loop.outside b.loop.reduces b.loop.carries
  body : ListKeeps b.loop.reduces (Callable p (inner_modes b.loop.carries b.loop.var outer)) (FixedIn b.loop.outside b.loop.reduces b.loop.var) b.loop.reduces (inner_modes b.loop.carries b.loop.var outer) b.statements
  functions : FuncsKeep (Callable p (inner_modes b.loop.carries b.loop.var outer)) (inner_modes b.loop.carries b.loop.var outer) p.funcs.items

to_lawful : (p : Program) (outer : Modes) (rounds : List Loop) (outside : List (List ℕ)) (l : ParLoop) → IsLawful p outer (body_of outside rounds l) → Lawful p outer outside l
to_lawful p outer rounds outside l it = record {
  distinct = it.distinct;
  fresh = it.fresh;
  plain = it.plain;
  targets = it.targets;
  visible = it.visible;
  rows = it.rows;
  body = it.body;
  functions = it.functions;
}

-- ---- functions that a body may call

-- all the sites of a function, with that they are its own
module _ (p : Program) (g : Func) where
  abbrev Own : Site → Type 0
  Own s = Stands p g s.act s.spot

  only_fine : (ss : List Site) → Each Own ss → AllFine p ss
  only_fine [] h = tt
  only_fine (s ∷ ss) h = (h.0.0, only_fine ss h.1)

  own_sites : AllFine p (in_func p g) → Each Own (in_func p g)
  own_sites h = each_of Own (in_func p g) (λ s k. (each_at (λ (s : Site). Fine p s.act s.spot) (in_func p g) s h k, k))

  abbrev own_list : List Site
  own_list = in_list (func_spot p g) g.body.items

  abbrev own_result : List Site
  own_result = in_whole (spot_of_list (func_spot p g) g.body.items) g.result

  own_body : AllFine p (in_func p g) → Each Own (own_list ++ own_result)
  own_body h = each_right Own (in_params (top OfFunc (tables_of p) p.funcs.items) g.params.items) (own_list ++ own_result) (own_sites h).1

own_fine : (p : Program) (g : Func) (a : Act) (w : Spot) → Stands p g a w → Fine p a w
own_fine p g a w h = h.0

module _ (p : Program) (modes : Modes) (f : List ℕ) (g : Func) (is : func_of p.funcs.items f ≡ Some g) (safe : Callable p modes f) where
  abbrev OfVariables : (List ℕ → Type 0) → List Reduce → Spot → Type 0
  OfVariables = variables.Alone p (Stands p g) (own_fine p g)

  abbrev OfTables : Modes → Spot → Type 0
  OfTables = tables.OfFunction p modes f g is safe

  variable_rules : VariableRules (Stands p g) [] OfVariables
  variable_rules = variables.alone_variables p (Stands p g) (own_fine p g)

  table_rules : TableRules (Stands p g) (Callable p modes) OfTables
  table_rules = tables.function_tables p modes f g is safe

  abbrev inside : Modes
  inside t = demoted (modes t)

  at_variables : OfVariables NoVariable [] (func_spot p g)
  at_variables = record { fixed = λ y k. absurd k }

  at_tables : OfTables inside (func_spot p g)
  at_tables = record { part = refl; whole = λ t e. ap demoted e; plain = λ t. demoted_twice (modes t) }

  func_keeps : AllFine p (in_func p g) → FuncKeeps (Callable p modes) modes (Some g)
  func_keeps h = (
    list_keeps (Stands p g) [] OfVariables variable_rules (Callable p modes) OfTables table_rules NoVariable [] inside (func_spot p g) at_variables at_tables g.body.items
        (each_left (Own p g) (own_list p g) (own_result p g) (own_body p g h)),
    reads (Stands p g) [] OfVariables variable_rules (Callable p modes) OfTables table_rules NoVariable [] inside (spot_of_list (func_spot p g) g.body.items)
        (end_variables (Stands p g) [] OfVariables variable_rules (Callable p modes) OfTables table_rules NoVariable [] (func_spot p g) at_variables g.body.items)
        (end_tables (Stands p g) [] OfVariables variable_rules (Callable p modes) OfTables table_rules inside (func_spot p g) at_tables g.body.items)
        g.result (each_right (Own p g) (own_list p g) (own_result p g) (own_body p g h)),
  )

funcs_keep : (p : Program) → NoneBroken p → (modes : Modes) → FuncsKeep (Callable p modes) modes p.funcs.items
funcs_keep p none modes f safe = go (func_of p.funcs.items f) refl
  where
    go : (o : Option Func) → func_of p.funcs.items f ≡ o → FuncKeeps (Callable p modes) modes o
    go None e = tt
    go (Some g) e = func_keeps p modes f g e safe (func_fine p [] p.funcs.items (funcs_fine p none) f g e)

-- ---- the clauses of a loop

-- no variable is visible twice, and statements stand there
abbrev Placed : Spot → Type 0
Placed w = HasStatements w.part × Distinct w.scope

distinct_new : (p : Program) (w : Spot) (y : Name) → Fine p (Declares y) w → Distinct w.scope → Distinct (w.scope ++ y.text.items ∷ [])
distinct_new p w y f d = distinct_end w.scope y.text.items d (is_new p w y f)

distinct_func : (p : Program) (f : Func) → AllFine p (in_func p f) → Distinct (texts f.params.items)
distinct_func p f h =
    let w : Spot = top OfFunc (tables_of p) p.funcs.items in
    distinct_params p w f.params.items (each_left (λ (s : Site). Fine p s.act s.spot) (in_params w f.params.items) (own_list p f ++ own_result p f) h.1) tt

module _ (p : Program) (none : NoneBroken p) (w : Spot) (x : Name) (cs : List Carry) (rs : List Reduce) (place later : Place) (d : Distinct w.scope) (head : Fine p (Parallel place later (the_loop w x cs rs)) w) (new : Fine p (Declares x) w) (uses : AllFine p (in_carries w cs)) where
  head_ok : HeadOk (the_loop w x cs rs) w.rounds
  head_ok = record { items = head.f6; targets = head.f3 }

  by_body : (outer : Modes) (body : List Stmt) → ListKeeps rs (Callable p (inner_modes cs x.text.items outer)) (FixedIn w.scope rs x.text.items) rs (inner_modes cs x.text.items outer) body → IsLawful p outer (body_at w x cs rs body)
  by_body outer body keeps =
      let seen = targets_in w.scope rs head.f1 in
      record {
        distinct = d;
        fresh = is_new p w x new;
        plain = new_unreduced w.scope rs x.text.items seen (is_new p w x new);
        targets = distinct_targets [] rs w.rounds head.f3;
        visible = seen;
        rows = rows_fixed p w [] cs (the_loop w x cs rs) w.rounds uses head.f6;
        body = keeps;
        functions = funcs_keep p none (inner_modes cs x.text.items outer);
      }

  -- by the loops round
  by_rounds : (body : List Stmt) → HasStatements w.part → AllFine p (in_list (in_par w x cs rs) body) → IsLawful p (modes_of w.rounds) (body_at w x cs rs body)
  by_rounds body part inner =
      by_body (modes_of w.rounds) body
      (list_keeps (Fine p) rs (variables.Inner p (Fine p) (λ a w f. f) (the_loop w x cs rs) w.rounds) (variables.inner_variables p (Fine p) (λ a w f. f) (the_loop w x cs rs) w.rounds (targets_in w.scope rs head.f1))
      (Callable p (modes_of (the_loop w x cs rs ∷ w.rounds))) (tables.Inner p (the_loop w x cs rs) w.rounds head_ok) (tables.inner_tables p (the_loop w x cs rs) w.rounds head_ok)
      (FixedIn w.scope rs x.text.items) rs (modes_of (the_loop w x cs rs ∷ w.rounds)) (in_par w x cs rs)
      (record { inside = inl (refl, refl); near = refl; fixed = fixed_kept (the_loop w x cs rs) w.loops })
      (record { inside = inl (refl, refl); modes = λ t. refl; seen = tables.seen_par p (the_loop w x cs rs) w.rounds head_ok w x cs rs uses; part = part; below = (w.depth, refl) })
      body inner)

  -- by what the function reads where it stands
  by_function : (outer : Modes) (f : List ℕ) (g : Func) → func_of p.funcs.items f ≡ Some g → Callable p outer f → w.part ≡ OfFunc → (body : List Stmt) → Each (Own p g) (in_list (in_par w x cs rs) body) → IsLawful p outer (body_at w x cs rs body)
  by_function outer f g is safe part body inner =
      by_body outer body
      (list_keeps (Stands p g) rs (variables.Inner p (Stands p g) (own_fine p g) (the_loop w x cs rs) w.rounds) (variables.inner_variables p (Stands p g) (own_fine p g) (the_loop w x cs rs) w.rounds (targets_in w.scope rs head.f1))
      (Callable p modes) (tables.OfFunction p modes f g is reads_whole) (tables.function_tables p modes f g is reads_whole)
      (FixedIn w.scope rs x.text.items) rs modes (in_par w x cs rs)
      (record { inside = inl (refl, refl); near = refl; fixed = fixed_kept (the_loop w x cs rs) w.loops })
      (record { part = part; whole = λ t e. e; plain = λ t. ap demoted (same t) ∙ demoted_twice (outer t) ∙ sym (same t) })
      body inner)
    where
      modes : Modes
      modes = inner_modes cs x.text.items outer

      same : (t : List ℕ) → inner_modes cs x.text.items outer t ≡ demoted (outer t)
      same = inner_none cs x.text.items outer later (subst (λ u. carry_word u later cs ≡ []) part head.f7)

      reads_whole : Callable p (inner_modes cs x.text.items outer) f
      reads_whole t h = same t ∙ ap demoted (safe t h)

-- ---- a program

-- each `par`, where the loops round it allow what their clauses say
loops_lawful : (p : Program) → NoneBroken p → (rounds : List Loop) (outside : List (List ℕ)) (l : ParLoop) → Contains (bodies_of p) (body_of outside rounds l) → Lawful p (modes_of rounds) outside l
loops_lawful p none rounds outside l h =
    let Is : Body → Type 0 = λ b. IsLawful p (modes_of b.rounds) b in
    let all = each_body p none Placed (λ w y f i. (i.0, distinct_new p w y f i.1)) (λ w y f i. (i.0, distinct_new p w y f i.1)) (λ w y cs rs f i. (i.0, distinct_new p w y f i.1))
    (λ f k. (tt, distinct_func p f k)) (tt, tt) Is
    (λ w x cs rs body q z i head new uses inner. by_rounds p none w x cs rs q z i.1 head new uses body i.0 inner) in
    to_lawful p (modes_of rounds) rounds outside l (each_at Is (bodies_of p) (body_of outside rounds l) all h)

-- each `par` of a function, wherever the whole of what the function reads may be read
function_lawful : (p : Program) → NoneBroken p → (f : List ℕ) (g : Func) → func_of p.funcs.items f ≡ Some g → (outer : Modes) → Callable p outer f → (rounds : List Loop) (outside : List (List ℕ)) (l : ParLoop)
    → Contains (bodies_of_list (texts g.params.items) [] g.body.items) (body_of outside rounds l) → Lawful p outer outside l
function_lawful p none f g is outer safe rounds outside l h =
    let fine = func_fine p [] p.funcs.items (funcs_fine p none) f g is in
    let InFunction : Spot → Type 0 = λ w. (w.part ≡ OfFunc) × Distinct w.scope in
    let all = each_list (Own p g) InFunction (λ w y k i. (i.0, distinct_new p w y k.0 i.1)) (λ w y k i. (i.0, distinct_new p w y k.0 i.1)) (λ w y cs rs k i. (i.0, distinct_new p w y k.0 i.1))
    (IsLawful p outer)
    (λ w x cs rs body q z i head new uses inner. by_function p none w x cs rs q z i.1 head.0 new.0 (only_fine p g (in_carries w cs) uses) outer f g is safe i.0 body inner)
    (func_spot p g) (refl, distinct_func p g fine) g.body.items (each_left (Own p g) (own_list p g) (own_result p g) (own_body p g fine)) in
    to_lawful p outer rounds outside l (each_at (IsLawful p outer) (bodies_of_list (texts g.params.items) [] g.body.items) (body_of outside rounds l) all h)

-- what is called inside loops reads only tables that none of them carries
calls_lawful : (p : Program) → NoneBroken p → (w : Spot) (f : Name) (n : ℕ) → Contains (sites p) (site w (Calls f n)) → Callable p (modes_of w.rounds) f.text.items
calls_lawful p none w f n h t k = whole_mode w.rounds t (go (any_loop (carries t) w.rounds) refl)
  where
    go : (b : Bool) → any_loop (carries t) w.rounds ≡ b → b ≡ false
    go false e = refl
    go true e = absurd (none.unbroken ReadingCalls f.place (record { where_at = site w (Calls f n); stands = h; breaks = record { callee = f; arguments = n; is_call = refl; table = t; reads = k; carried = e; here = refl } }))

pub all_lawful : (p : Program) → NoneBroken p → AllLawful p
all_lawful p none = record {
  loops = loops_lawful p none;
  of_function = function_lawful p none;
  calls = calls_lawful p none;
  functions = funcs_keep p none;
}
