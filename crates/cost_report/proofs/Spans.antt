-- The span is at most the ticks that a run adds.
use Rattle.std.proofs.Common.{◌≡◌, ◌<◌, ◌≤◌, ◌+◌, ◌-◌, ◌*◌, ℕ, zero, suc, ℤ, pos, negsuc, ◌+ℤ◌, max}
use Rattle.std.proofs.Common.{List, [], ◌∷◌, Option, Some, None, Bool, true, false, nat_lt, length}
use Rattle.std.proofs.Common.{refl, sym, ◌∙◌, arith, zero-le, unsigned_abs}
use Rattle.std.specs.Int.{int_gap}
use Rattle.std.proofs.lemmas.Bool.{ltb-true}
use Rattle.tp_value.specs.declared.limits.TheConstants.{MAX_CALL_DEPTH}
use Rattle.tp_value.specs.declared.Place.{Place}
use Rattle.tp_value.specs.declared.TrapKind.TheVariants.{Deep, Wide, Size}
use Rattle.tp_value.specs.declared.Stop.{Stop}
use Rattle.tp_value.specs.declared.Stop.TheVariants.{Done, Left, Trap, NoFuel}
use Rattle.tp_value.specs.declared.Table.{Table}
use Rattle.loop_syntax.specs.declared.Expr.{Expr}
use Rattle.loop_syntax.specs.declared.Name.{Name}
use Rattle.loop_syntax.specs.declared.App.{App}
use Rattle.loop_syntax.specs.declared.Reduce.{Reduce}
use Rattle.loop_syntax.specs.declared.Stmt.{Stmt, Row_of-Stmt, end_of-Stmt, more_of-Stmt}
use Rattle.loop_syntax.specs.declared.Stmt.TheVariants.{Let, Set, Put, If', While', Loop', Par'}
use Rattle.loop_syntax.specs.declared.Stmt.TheVariants.{Fold, Call, Both, Print, Emit, Leave, Fill}
use Rattle.loop_syntax.specs.declared.Func.{Func}
use Rattle.loop_syntax.specs.declared.TableDecl.{TableDecl}
use Rattle.loop_syntax.specs.declared.TableDecl.TheVariants.{Input, Made}
use Rattle.loop_syntax.specs.declared.Program.{Program}
use Rattle.loop_rules.specs.Names.{func_of}
use Rattle.loop_meaning.specs.declared.value.Answer.{Answer}
use Rattle.loop_meaning.specs.declared.value.Answer.TheVariants.{Number, Traps}
use Rattle.loop_meaning.specs.State.{table_of, has_cell, declare, State, Note}
use Rattle.loop_meaning.specs.State.{Chance, Ran, done, noted}
use Rattle.loop_meaning.specs.State.{go_on, after, tick, leave_block}
use Rattle.loop_meaning.specs.Expressions.{eval}
use Rattle.loop_meaning.specs.Leaving.{left_in, caught_by, caught}
use Rattle.loop_meaning.specs.Statements.{given_answer, given, given_all, choose, block, turns}
use Rattle.loop_meaning.specs.Statements.{iteration, iterate, too_wide, unless_wide, put_cell}
use Rattle.loop_meaning.specs.Statements.{Called, Setting, run_call, run_both, run}
use Rattle.loop_meaning.specs.Statements.{run_all, run_list}
use Rattle.loop_meaning.specs.Calls.{bound, enter, call_on, call_at, setting}
use Rattle.loop_meaning.specs.Meaning.{is_too_large, unless_large, zero_table, add_table}
use Rattle.loop_meaning.specs.Meaning.{make_tables, input_cells, first_state, whole_run, meaning}
use Rattle.cost_report.specs.Span.{with_answer, given_span, given_all_span, with_stop, then_span}
use Rattle.cost_report.specs.Span.{begun, chosen, turns_span, iterate_span, unless_wide_span, Spans}
use Rattle.cost_report.specs.Span.{reducing, both_span, span, span_all, span_list, enter_span}
use Rattle.cost_report.specs.Span.{setting_in, call_span, spans, whole_span}

max_below : (m n : ℕ) → max m n ≤ m + n
max_below m n = omega arith

-- a run from t ticks on, of that span
pub record Costs (fuel t : ℕ) (r : Ran) (n : ℕ) : Type 0 where
  pub later : n + t ≤ r.state.ticks
  pub within : (r.stop ≡ NoFuel → ⊥) → r.state.ticks ≤ fuel

module _ (fuel : ℕ) where
  -- a stop that leaves the ticks, and isn't for want of fuel
  stays : (t : ℕ) (x : Stop) (s : State) (ns : List Note) → s.ticks ≡ t → t ≤ fuel → Costs fuel t (record { stop = x; state = s; notes = ns }) 0
  stays t x s ns e l = record { later = omega arith; within = λ z. omega arith }

  no_more : (t : ℕ) (r : Ran) (n m : ℕ) → m ≤ n → Costs fuel t r n → Costs fuel t r m
  no_more t r n m l c = record { later = let a : n + t ≤ r.state.ticks = c.later in omega arith; within = c.within }

  costs_noted : (t : ℕ) (ns : List Note) (r : Ran) (n : ℕ) → Costs fuel t r n → Costs fuel t (noted ns r) n
  costs_noted t ns r n c = record { later = c.later; within = c.within }

  costs_leave : (t n : ℕ) (r : Ran) (m : ℕ) → Costs fuel t r m → Costs fuel t (leave_block n r) m
  costs_leave t n r m c = record { later = c.later; within = c.within }

  costs_after : (t : ℕ) (r : Ran) (n : ℕ) (go : State → Ran) (f : State → ℕ) → Costs fuel t r n → ((s : State) → s.ticks ≤ fuel → Costs fuel s.ticks (go s) (f s)) → Costs fuel t (after r go) (n + then_span r f)
  costs_after t r n go f c g = on r.stop refl
    where
      stops : Costs fuel t r (n + 0)
      stops = record { later = let a : n + t ≤ r.state.ticks = c.later in omega arith; within = c.within }

      on : (x : Stop) → r.stop ≡ x → Costs fuel t (go_on x r go) (n + with_stop x r.state f)
      on Done e =
          let a : n + t ≤ r.state.ticks = c.later in
          let k : r.state.ticks ≤ fuel = c.within (λ z. let d : Done ≡ NoFuel = sym e ∙ z in cc) in
          let q : Costs fuel r.state.ticks (go r.state) (f r.state) = g r.state k in
          let b : f r.state + r.state.ticks ≤ (go r.state).state.ticks = q.later in
          record { later = omega arith; within = q.within }
      on (Left v) e = stops
      on (Trap k p) e = stops
      on NoFuel e = stops

  costs_given : (e : Expr) (s : State) → s.ticks ≤ fuel → (go : ℤ → Ran) (f : ℤ → ℕ) → ((v : ℤ) → Costs fuel s.ticks (go v) (f v)) → Costs fuel s.ticks (given e s go) (given_span e s f)
  costs_given e s l go f g = on (eval s.vars s.tables e).answer (eval s.vars s.tables e).notes
    where
      on : (a : Answer) (ns : List Note) → Costs fuel s.ticks (given_answer a ns s go) (with_answer a f)
      on (Number v) ns = record { later = (g v).later; within = (g v).within }
      on (Traps k p) ns = stays s.ticks (Trap k p) s ns refl l

  costs_all : (es : List Expr) (s : State) → s.ticks ≤ fuel → (go : List ℤ → Ran) (f : List ℤ → ℕ) → ((vs : List ℤ) → Costs fuel s.ticks (go vs) (f vs)) → Costs fuel s.ticks (given_all es s go) (given_all_span es s f)
  costs_all [] s l go f g = g []
  costs_all (e ∷ es) s l go f g = costs_given e s l _ _ (λ v. costs_all es s l _ _ (λ vs. g (v ∷ vs)))

  -- an expression before what costs nothing
  costs_plain : (e : Expr) (s : State) → s.ticks ≤ fuel → (go : ℤ → Ran) → ((v : ℤ) → Costs fuel s.ticks (go v) 0) → Costs fuel s.ticks (given e s go) 0
  costs_plain e s l go g = on (eval s.vars s.tables e).answer (eval s.vars s.tables e).notes
    where
      on : (a : Answer) (ns : List Note) → Costs fuel s.ticks (given_answer a ns s go) 0
      on (Number v) ns = record { later = (g v).later; within = (g v).within }
      on (Traps k p) ns = stays s.ticks (Trap k p) s ns refl l

  -- a tick that exceeds the fuel
  spent : (s : State) (ns : List Note) → s.ticks ≤ fuel → Costs fuel s.ticks (record { stop = NoFuel; state = record s { ticks = fuel + 1 }; notes = ns }) 0
  spent s ns l = record { later = omega arith; within = λ z. absurd (z refl) }

  -- a tick, and what it begins
  costs_begun : (s : State) → s.ticks ≤ fuel → (go : State → Ran) (f : State → ℕ) → ((t : State) → t.ticks ≤ fuel → Costs fuel t.ticks (go t) (f t)) → Costs fuel s.ticks (after (tick fuel s) go) (begun fuel s f)
  costs_begun s l go f g = on (nat_lt s.ticks fuel) refl
    where
      on : (b : Bool) → nat_lt s.ticks fuel ≡ b → Costs fuel s.ticks (after (tick fuel s) go) (begun fuel s f)
      on true e =
          let lt : s.ticks < fuel = ltb-true s.ticks fuel e in
          let u : State = record s { ticks = s.ticks + 1 } in
          let q : Costs fuel (s.ticks + 1) (go u) (f u) = g u (omega arith) in
          let a : f u + (s.ticks + 1) ≤ (go u).state.ticks = q.later in
          rw e (record { later = omega arith; within = q.within })
      on false e = rw e (spent s [] l)

  abbrev Costing : (State → Ran) → (State → ℕ) → Type 0
  Costing go f = (s : State) → s.ticks ≤ fuel → Costs fuel s.ticks (go s) (f s)

  costs_block : (body : State → Ran) (f : State → ℕ) → Costing body f → Costing (block body) f
  costs_block body f h s l = costs_leave s.ticks (length s.vars) (body s) (f s) (h s l)

  costs_choose : (v : ℤ) (a b : State → Ran) (f g : State → ℕ) (s : State) → Costs fuel s.ticks (a s) (f s) → Costs fuel s.ticks (b s) (g s) → Costs fuel s.ticks (choose v a b s) (chosen v f g s)
  costs_choose (pos zero) a b f g s h k = k
  costs_choose (pos (suc n)) a b f g s h k = h
  costs_choose (negsuc n) a b f g s h k = h

  costs_turns : (n : ℕ) (e : Expr) (body : State → Ran) (f : State → ℕ) → Costing body f → Costing (turns n fuel e body) (turns_span n fuel e body f)
  unfolding turns turns_span
  costs_turns zero e body f h s l = record { later = omega arith; within = λ z. absurd (z refl) }
  costs_turns (suc n) e body f h s l =
      costs_given e s l _ _ (λ v. costs_choose v _ _ _ _ s
      (costs_after s.ticks (after (tick fuel s) body) (begun fuel s f) (turns n fuel e body) (turns_span n fuel e body f) (costs_begun s l body f h) (costs_turns n e body f h))
      (stays s.ticks Done s [] refl l))

  costs_iteration : (x : List ℕ) (body : State → Ran) (f : State → ℕ) → Costing body f → (ns : List Note) (i : ℤ) (s : State) → s.ticks ≤ fuel
      → Costs fuel s.ticks (iteration fuel x body ns i s) (begun fuel s (λ t. f (record t { vars = declare t.vars x i })))
  costs_iteration x body f h ns i s l =
      costs_leave s.ticks (length s.vars) _ _ (costs_begun s l (λ t. noted ns (body (record t { vars = declare t.vars x i }))) (λ t. f (record t { vars = declare t.vars x i }))
      (λ t m. costs_noted t.ticks ns _ _ (h (record t { vars = declare t.vars x i }) m)))

  costs_iterate : (joined : ℕ → ℕ → ℕ) → ((m n : ℕ) → joined m n ≤ m + n) → (x : List ℕ) (body : State → Ran) (f : State → ℕ) → Costing body f → (again ns : List Note) (n : ℕ) (i : ℤ)
      → Costing (iterate fuel x body again ns n i) (iterate_span joined fuel x body f again ns n i)
  unfolding iterate iterate_span
  costs_iterate joined j x body f h again ns zero i s l = stays s.ticks Done s [] refl l
  costs_iterate joined j x body f h again ns (suc n) i s l =
      no_more s.ticks _ _ _ (j _ _)
      (costs_after s.ticks (iteration fuel x body ns i s) (begun fuel s (λ t. f (record t { vars = declare t.vars x i }))) (iterate fuel x body again again n (i +ℤ pos 1)) (iterate_span joined fuel x body f again again n (i +ℤ pos 1))
      (costs_iteration x body f h ns i s l) (costs_iterate joined j x body f h again again n (i +ℤ pos 1)))

  costs_caught : (t : ℕ) (target : Option (List ℕ)) (r : Ran) (n : ℕ) → Costs fuel t r n → Costs fuel t (caught target r) n
  costs_caught t target r n c = on r.stop refl target
    where
      on : (x : Stop) → r.stop ≡ x → (target : Option (List ℕ)) → Costs fuel t (caught_by x target r) n
      on (Left v) e (Some y) = record { later = c.later; within = λ z. c.within (λ w. let d : Left v ≡ NoFuel = sym e ∙ w in cc) }
      on (Left v) e None = record { later = c.later; within = λ z. c.within (λ w. let d : Left v ≡ NoFuel = sym e ∙ w in cc) }
      on Done e target = c
      on (Trap k p) e target = c
      on NoFuel e target = c

  costs_unless_wide : (b : Bool) (p : Place) (go : State → Ran) (f : State → ℕ) → Costing go f → Costing (unless_wide b p go) (unless_wide_span b f)
  costs_unless_wide true p go f h s l = stays s.ticks (Trap Wide p) s [] refl l
  costs_unless_wide false p go f h s l = h s l

  costs_put : (t : Name) (i j v : ℤ) (s : State) → s.ticks ≤ fuel → Costs fuel s.ticks (put_cell t i j v s) 0
  costs_put t i j v s l = on (has_cell (table_of s.tables t.text.items) i j) refl
    where
      on : (b : Bool) → has_cell (table_of s.tables t.text.items) i j ≡ b → Costs fuel s.ticks (put_cell t i j v s) 0
      on true e = rw (e, put_cell) (stays s.ticks Done _ _ refl l)
      on false e = rw (e, put_cell) (stays s.ticks _ _ _ refl l)

  -- ---- calls, where they cost what is said of them

  abbrev CallsCost : (List ℕ → Place → List ℤ → List Note → State → Called) → (List ℕ → List ℤ → State → ℕ) → Type 0
  CallsCost call f = (x : List ℕ) (p : Place) (vs : List ℤ) (ns : List Note) (s : State) → s.ticks ≤ fuel → Costs fuel s.ticks (call x p vs ns s).ran (f x vs s)

  costs_run_call : (k : Setting) (f : List ℕ → List ℤ → State → ℕ) → CallsCost k.call f → (x : Name) (a : App) → Costing (run_call k x a) (λ s. given_all_span a.args.items s (λ vs. f a.callee.text.items vs s))
  costs_run_call k f c x a s l =
      costs_all a.args.items s l _ _ (λ vs. no_more s.ticks _ _ _ (omega arith)
      (costs_after s.ticks (k.call a.callee.text.items a.callee.place vs [] s).ran (f a.callee.text.items vs s) _ (λ t. 0) (c a.callee.text.items a.callee.place vs [] s l)
      (λ t m. stays t.ticks Done _ _ refl m)))

  costs_both : (k : Spans) → CallsCost k.setting.call k.call → (x : Name) (f : App) (y : Name) (g : App) → Costing (run_both k.setting x f y g) (both_span k f g)
  costs_both k c x f y g s l =
      costs_all f.args.items s l _ _ (λ ns. costs_all g.args.items s l _ _ (λ ms.
      no_more s.ticks _ _ _ (max_below _ _)
      (costs_after s.ticks (k.setting.call f.callee.text.items f.callee.place ns (Chance ∷ []) s).ran (k.call f.callee.text.items ns s) _ (λ t. k.call g.callee.text.items ms t)
      (c f.callee.text.items f.callee.place ns (Chance ∷ []) s l)
      (λ t m. no_more t.ticks _ _ _ (omega arith)
      (costs_after t.ticks (k.setting.call g.callee.text.items g.callee.place ms [] t).ran (k.call g.callee.text.items ms t) _ (λ u. 0)
      (c g.callee.text.items g.callee.place ms [] t m) (λ u i. stays u.ticks Done _ _ refl i))))))

  -- a tick, and the body of a call
  costs_call_on : (s : State) → s.ticks ≤ fuel → (go : State → Called) (f : State → ℕ) → ((t : State) → t.ticks ≤ fuel → Costs fuel t.ticks (go t).ran (f t)) → Costs fuel s.ticks (call_on (tick fuel s).stop (tick fuel s) go).ran (begun fuel s f)
  costs_call_on s l go f g = on (nat_lt s.ticks fuel) refl
    where
      on : (b : Bool) → nat_lt s.ticks fuel ≡ b → Costs fuel s.ticks (call_on (tick fuel s).stop (tick fuel s) go).ran (begun fuel s f)
      on true e =
          let lt : s.ticks < fuel = ltb-true s.ticks fuel e in
          let u : State = record s { ticks = s.ticks + 1 } in
          let q : Costs fuel (s.ticks + 1) (go u).ran (f u) = g u (omega arith) in
          let a : f u + (s.ticks + 1) ≤ (go u).ran.state.ticks = q.later in
          rw e (record { later = omega arith; within = q.within })
      on false e = rw e (spent s [] l)

-- ---- statements

mutual
  stmt_costs : (k : Spans) → CallsCost k.setting.fuel k.setting.call k.call → (st : Stmt) → Costing k.setting.fuel (run k.setting st) (span k st)
  stmt_costs k c (Let x e) s l = costs_plain k.setting.fuel e s l _ (λ v. stays k.setting.fuel s.ticks Done _ _ refl l)
  stmt_costs k c (Set x e) s l = costs_plain k.setting.fuel e s l _ (λ v. stays k.setting.fuel s.ticks Done _ _ refl l)
  stmt_costs k c (Put t a b e) s l =
      costs_plain k.setting.fuel a s l _ (λ i. costs_plain k.setting.fuel b s l _ (λ j. costs_plain k.setting.fuel e s l _ (λ v. costs_put k.setting.fuel t i j v s l)))
  stmt_costs k c (If' e p body q other) s l =
      costs_given k.setting.fuel e s l _ _ (λ v. costs_choose k.setting.fuel v (block (run_all k.setting body)) (block (run_all k.setting other)) _ _ s
      (costs_block k.setting.fuel (run_all k.setting body) (span_all k body) (row_costs k c body) s l)
      (costs_block k.setting.fuel (run_all k.setting other) (span_all k other) (row_costs k c other) s l))
  stmt_costs k c (While' e p body) s l =
      costs_turns k.setting.fuel (k.setting.fuel + 1) e (block (run_all k.setting body)) (span_all k body)
      (costs_block k.setting.fuel (run_all k.setting body) (span_all k body) (row_costs k c body)) s l
  stmt_costs k c (Loop' x a b p body) s l =
      costs_given k.setting.fuel a s l _ _ (λ i. costs_given k.setting.fuel b s l _ _ (λ j.
      costs_iterate k.setting.fuel (λ m n. m + n) (λ m n. omega arith) x.text.items (run_all k.setting body) (span_all k body) (row_costs k c body) [] [] (int_gap i j) i s l))
  stmt_costs k c (Par' place x a b carry_place carries reduces p body) s l =
      costs_given k.setting.fuel a s l _ _ (λ i. costs_given k.setting.fuel b s l _ _ (λ j.
      let inner : Spans = reducing reduces.items k in
      let all : State → Ran = iterate k.setting.fuel x.text.items (run_all inner.setting body) (Chance ∷ []) [] (int_gap i j) i in
      let most : State → ℕ = iterate_span max k.setting.fuel x.text.items (run_all inner.setting body) (span_all inner body) (Chance ∷ []) [] (int_gap i j) i in
      costs_unless_wide k.setting.fuel (too_wide i j) place (λ t. caught (left_in body) (all t)) most
      (λ t m. costs_caught k.setting.fuel t.ticks (left_in body) (all t) (most t)
      (costs_iterate k.setting.fuel max max_below x.text.items (run_all inner.setting body) (span_all inner body) (row_costs inner c body) (Chance ∷ []) [] (int_gap i j) i t m)) s l))
  stmt_costs k c (Fold x e) s l = costs_plain k.setting.fuel e s l _ (λ v. stays k.setting.fuel s.ticks Done _ _ refl l)
  stmt_costs k c (Call x f) s l = costs_run_call k.setting.fuel k.setting k.call c x f s l
  stmt_costs k c (Both x f y g) s l = costs_both k.setting.fuel k c x f y g s l
  stmt_costs k c (Print place e) s l = costs_plain k.setting.fuel e s l _ (λ v. stays k.setting.fuel s.ticks Done _ _ refl l)
  stmt_costs k c (Emit place t) s l = stays k.setting.fuel s.ticks Done _ _ refl l
  stmt_costs k c (Leave x e) s l = costs_plain k.setting.fuel e s l _ (λ v. stays k.setting.fuel s.ticks (Left v) _ _ refl l)
  stmt_costs k c (Fill f t r es) s l = stays k.setting.fuel s.ticks Done _ _ refl l

  row_costs : {m : _} (k : Spans) → CallsCost k.setting.fuel k.setting.call k.call → (row : Row_of-Stmt m) → Costing k.setting.fuel (run_all k.setting row) (span_all k row)
  row_costs k c end_of-Stmt s l = stays k.setting.fuel s.ticks Done s [] refl l
  row_costs k c (more_of-Stmt first rest) s l =
      costs_after k.setting.fuel s.ticks (run k.setting first s) (span k first s) (run_all k.setting rest) (span_all k rest) (stmt_costs k c first s l) (row_costs k c rest)

list_costs : (k : Spans) → CallsCost k.setting.fuel k.setting.call k.call → (ss : List Stmt) → Costing k.setting.fuel (run_list k.setting ss) (span_list k ss)
list_costs k c [] s l = stays k.setting.fuel s.ticks Done s [] refl l
list_costs k c (first ∷ rest) s l =
    costs_after k.setting.fuel s.ticks (run k.setting first s) (span k first s) (run_list k.setting rest) (span_list k rest) (stmt_costs k c first s l) (list_costs k c rest)

-- ---- calls

enter_costs : (k : Spans) → CallsCost k.setting.fuel k.setting.call k.call → (o : Option Func) (vs : List ℤ) (ns : List Note) (s : State) → s.ticks ≤ k.setting.fuel
    → Costs k.setting.fuel s.ticks (enter k.setting o vs ns s).ran (enter_span k o vs s)
enter_costs k c None vs ns s l = stays k.setting.fuel s.ticks Done s _ refl l
enter_costs k c (Some f) vs ns s l =
    let t : State = record s { vars = bound f.params.items vs } in
    let r : Ran = noted ns (run_list k.setting f.body.items t) in
    let q : Costs k.setting.fuel s.ticks r (span_list k f.body.items t) = costs_noted k.setting.fuel s.ticks ns _ _ (list_costs k c f.body.items t l) in
    let e : Costs k.setting.fuel s.ticks (after r (λ u. given f.result u (λ v. done u))) (span_list k f.body.items t) =
    no_more k.setting.fuel s.ticks _ _ _ (omega arith)
    (costs_after k.setting.fuel s.ticks r (span_list k f.body.items t) (λ u. given f.result u (λ v. done u)) (λ u. 0) q
    (λ u m. costs_plain k.setting.fuel f.result u m _ (λ v. stays k.setting.fuel u.ticks Done u [] refl m))) in
    record { later = e.later; within = e.within }

call_costs : (fs : List Func) (fuel room : ℕ) → CallsCost fuel (call_at fs fuel room) (call_span fs fuel room)
unfolding call_at call_span
call_costs fs fuel zero f p vs ns s l = costs_call_on fuel s l _ (λ t. 0) (λ t m. stays fuel t.ticks (Trap Deep p) t [] refl m)
call_costs fs fuel (suc room) f p vs ns s l =
    costs_call_on fuel s l _ _ (λ t m. enter_costs (record { setting = setting_in fs fuel room; call = call_span fs fuel room }) (call_costs fs fuel room) (func_of fs f) vs ns t m)

-- ---- programs

costs_unless_large : (fuel : ℕ) (b : Bool) (p : Place) (go : State → Ran) → Costing fuel go (λ s. 0) → Costing fuel (unless_large b p go) (λ s. 0)
costs_unless_large fuel true p go h s l = stays fuel s.ticks (Trap Size p) s [] refl l
costs_unless_large fuel false p go h s l = h s l

tables_cost : (fuel : ℕ) (ts : List Table) (cells : ℕ) (ds : List TableDecl) → Costing fuel (make_tables ts cells ds) (λ s. 0)
tables_cost fuel ts cells [] s l = stays fuel s.ticks Done s [] refl l
tables_cost fuel ts cells (Input x ∷ ds) s l = tables_cost fuel ts cells ds (add_table (table_of ts x.text.items) s) l
tables_cost fuel ts cells (Made x a b ∷ ds) s l =
    costs_plain fuel a s l _ (λ m. costs_plain fuel b s l _ (λ n.
    let rest : State → Ran = λ t. make_tables ts (cells + unsigned_abs m * unsigned_abs n) ds (add_table (zero_table x m n) t) in
    costs_unless_large fuel (is_too_large cells m n) x.place rest
    (λ t i. tables_cost fuel ts (cells + unsigned_abs m * unsigned_abs n) ds (add_table (zero_table x m n) t) i) s l))

pub statements_cost : (p : Program) (fuel depth : ℕ) (rs : List Reduce) (ss : List Stmt) → Costing fuel (run_list (setting p fuel depth rs) ss) (span_list (spans p fuel depth rs) ss)
statements_cost p fuel depth rs ss = list_costs (spans p fuel depth rs) (call_costs p.funcs.items fuel (MAX_CALL_DEPTH - depth)) ss

pub statements_within : (p : Program) (fuel depth : ℕ) (rs : List Reduce) (ss : List Stmt) (s : State) → s.ticks ≤ fuel → s.ticks + span_list (spans p fuel depth rs) ss s ≤ (run_list (setting p fuel depth rs) ss s).state.ticks
statements_within p fuel depth rs ss s l =
    let a : span_list (spans p fuel depth rs) ss s + s.ticks ≤ (run_list (setting p fuel depth rs) ss s).state.ticks = (statements_cost p fuel depth rs ss s l).later in
    omega arith

pub whole_within : (p : Program) (ts : List Table) (fuel : ℕ) → whole_span p ts fuel ≤ (meaning p ts fuel).ticks
unfolding meaning whole_run whole_span
whole_within p ts fuel =
    let t : Ran = make_tables ts (input_cells p.tables.items ts) p.tables.items first_state in
    let q : Costs fuel 0 (after t (run_list (setting p fuel 0 []) p.main.items)) (0 + then_span t (span_list (spans p fuel 0 []) p.main.items)) =
    costs_after fuel 0 t 0 (run_list (setting p fuel 0 []) p.main.items) (span_list (spans p fuel 0 []) p.main.items) (tables_cost fuel ts (input_cells p.tables.items ts) p.tables.items first_state zero-le) (statements_cost p fuel 0 [] p.main.items) in
    let a : 0 + then_span t (span_list (spans p fuel 0 []) p.main.items) + 0 ≤ (after t (run_list (setting p fuel 0 []) p.main.items)).state.ticks = q.later in
    omega arith
