-- Two runs of statements and of calls: over other tables that are seen alike, with more ticks and output before.
use Rattle.std.proofs.Common.{◌≡◌, ◌+◌, ◌++◌, ◌∷◌, [], ℕ, zero, suc, ℤ, List, Option, Some, None}
use Rattle.std.proofs.Common.{inl, inr, refl, sym, ap, subst, ◌∙◌}
use mathlib.Core.Path.{fun_ext}
use Rattle.std.specs.Int.{int_gap}
use Rattle.tp_value.specs.declared.Place.{Place}
use Rattle.tp_value.specs.declared.TrapKind.TheVariants.{Deep}
use Rattle.tp_value.specs.declared.Stop.{Stop}
use Rattle.tp_value.specs.declared.Stop.TheVariants.{Done, Left, Trap, NoFuel}
use Rattle.tp_value.specs.declared.Table.{Table}
use Rattle.loop_syntax.specs.declared.Name.{Name}
use Rattle.loop_syntax.specs.declared.Reduce.{Reduce}
use Rattle.loop_syntax.specs.declared.Stmt.{Stmt, Row_of-Stmt, end_of-Stmt, more_of-Stmt}
use Rattle.loop_syntax.specs.declared.Stmt.TheVariants.{Let, Set, Put, If', While', Loop', Par'}
use Rattle.loop_syntax.specs.declared.Stmt.TheVariants.{Fold, Call, Both, Print, Emit, Leave, Fill}
use Rattle.loop_syntax.specs.declared.Func.{Func}
use Rattle.loop_rules.specs.Names.{func_of, operator_of}
use Rattle.loop_meaning.specs.State.{assign, declare, State, Note, Chance, Ran, done, trapped}
use Rattle.loop_meaning.specs.State.{noted, after, go_on, tick}
use Rattle.loop_meaning.specs.Expressions.{Value, eval}
use Rattle.loop_meaning.specs.Statements.{Setting, Called, given, given_all, set_var, folded, block}
use Rattle.loop_meaning.specs.Statements.{too_wide, with_call, two_calls, run, run_all, run_list}
use Rattle.loop_meaning.specs.Calls.{bound, number_in, enter, no_value, call_on, call_at}
use Rattle.loop_meaning.specs.Told.{SeenAlike}
use Rattle.loop_meaning.proofs.Seen.{NoWrites, no_writes_none, seen_front, seen_back, eval_same}
use Rattle.loop_meaning.proofs.Twins.{Within, shift, over, Twin, Twins, twins_vars, twins_done}
use Rattle.loop_meaning.proofs.Twins.{twins_print, twins_emit, twins_trap, twins_put, twins_noted}
use Rattle.loop_meaning.proofs.Twins.{twins_pre, twins_end, seen_after, seen_next, within_back}
use Rattle.loop_meaning.proofs.Twins.{twins_seq, seen_given, twins_given, twins_two, twins_args}
use Rattle.loop_meaning.proofs.Twins.{twins_choose, twins_wide, twins_leave, twins_tick}
use Rattle.loop_meaning.specs.Leaving.{left_in}
use Rattle.loop_meaning.proofs.Twins.{twins_turns, twins_iterate, twins_left, twins_caught}

-- what comes after a run plays a part only where that is done
swap_after : (q : Ran) (f g : State → Ran) → (q.stop ≡ Done → f ≡ g) → after q f ≡ after q g
swap_after q f g h = go q.stop refl
  where
    go : (x : Stop) → q.stop ≡ x → go_on x q f ≡ go_on x q g
    go Done e = ap (λ k. noted q.notes (k q.state)) (h e)
    go (Left n) e = refl
    go (Trap k p) e = refl
    go NoFuel e = refl

-- a run that is done was done before, and so
done_first : (r : Ran) (g : State → Ran) → (after r g).stop ≡ Done → r.stop ≡ Done
done_first r g = go r.stop refl
  where
    go : (x : Stop) → r.stop ≡ x → (go_on x r g).stop ≡ Done → r.stop ≡ Done
    go Done e d = e
    go (Left n) e d = d
    go (Trap k p) e d = d
    go NoFuel e d = d

done_second : (r : Ran) (g : State → Ran) → r.stop ≡ Done → after r g ≡ noted r.notes (g r.state)
done_second r g e = ap (λ x. go_on x r g) e

no_done : NoFuel ≡ Done → ⊥
no_done e = cc

module _ (fuel t : ℕ) (o : List ℕ) where
  -- a call, and its value where it is done
  pub record TwinCalls (c : State → Called) : Type 0 where
    pub runs : Twins fuel t o (λ s. (c s).ran)
    pub value : (s : State) (us : List Table) → Within fuel t o s.ticks → SeenAlike (c s).ran.notes s.tables us → Within fuel t o (c s).ran.state.ticks → (c s).ran.stop ≡ Done
        → (c (shift fuel t o us s)).value ≡ (c s).value

  twins_with_call : (c : State → Called) (f : ℤ → State → Ran) → TwinCalls c → ((n : ℤ) → Twins fuel t o (f n)) → Twins fuel t o (λ s. with_call (c s) f)
  twins_with_call c f p q = record {
    goes = record {
      later = λ s l. (fixed (c s).value).goes.later s l;
      stops = λ s l d. (fixed (c s).value).goes.stops s l d;
      spends = λ s l m. (fixed (c s).value).goes.spends s l m;
    };
    twin = λ s us w h. go s us w h ((fixed (c s).value).twin s us w h);
  }
    where
      fixed : (n : ℤ) → Twins fuel t o (λ s. after (c s).ran (f n))
      fixed n = twins_seq fuel t o (λ s. (c s).ran) (f n) p.runs (q n)

      same : (s : State) (us : List Table) → Within fuel t o s.ticks → SeenAlike (c s).ran.notes s.tables us → (c (shift fuel t o us s)).ran.stop ≡ Done → f (c s).value ≡ f (c (shift fuel t o us s)).value
      same s us w h d = on (p.runs.twin s us w h)
        where
          on : Twin fuel t o s.tables us (c s).ran (c (shift fuel t o us s)).ran → f (c s).value ≡ f (c (shift fuel t o us s)).value
          on (inl k) = ap f (sym (p.value s us w h k.0 (sym (ap (λ (z : Ran). z.stop) k.1.same) ∙ d)))
          on (inr k) = absurd (no_done (sym k.1.stop ∙ d))

      go : (s : State) (us : List Table) → Within fuel t o s.ticks → SeenAlike (with_call (c s) f).notes s.tables us
          → Twin fuel t o s.tables us (with_call (c s) f) (after (c (shift fuel t o us s)).ran (f (c s).value)) → Twin fuel t o s.tables us (with_call (c s) f) (with_call (c (shift fuel t o us s)) f)
      go s us w h k =
          subst (λ z. Twin fuel t o s.tables us (with_call (c s) f) z)
          (swap_after (c (shift fuel t o us s)).ran (f (c s).value) (f (c (shift fuel t o us s)).value) (same s us w (seen_after fuel t o (c s).ran (f (c s).value) s.tables us h))) k

  abbrev pub CallsTwin : (List ℕ → Place → List ℤ → List Note → State → Called) → Type 0
  CallsTwin call = (f : List ℕ) (p : Place) (ns : List ℤ) (b : List Note) → NoWrites b → TwinCalls (call f p ns b)

  chance_writes : NoWrites (Chance ∷ [])
  chance_writes = no_writes_none

  -- ---- statements, given what calls do

  module _ (call : List ℕ → Place → List ℤ → List Note → State → Called) (calls : CallsTwin call) where
    abbrev under : List Reduce → Setting
    under rs = record { reduces = rs; fuel = fuel; call = call }

    twins_two_calls : (rs : List Reduce) (x f : Name) (ns : List ℤ) (y g : Name) (ms : List ℤ) → Twins fuel t o (two_calls (under rs) x f ns y g ms (Chance ∷ []))
    twins_two_calls rs x f ns y g ms =
        twins_with_call (call f.text.items f.place ns (Chance ∷ [])) (λ v u. with_call (call g.text.items g.place ms [] u) (set v)) (calls f.text.items f.place ns (Chance ∷ []) chance_writes)
        (λ v. twins_with_call (call g.text.items g.place ms []) (set v) (calls g.text.items g.place ms [] no_writes_none)
        (λ w. twins_vars fuel t o (λ vs. assign (assign vs x.text.items v) y.text.items w)))
      where
        set : ℤ → ℤ → State → Ran
        set v w u = done (set_var y w (set_var x v u))

    mutual
      twins_stmt : (rs : List Reduce) (st : Stmt) → Twins fuel t o (run (under rs) st)
      twins_stmt rs (Let x e) = twins_given fuel t o e _ (λ n. twins_vars fuel t o (λ vs. declare vs x.text.items n))
      twins_stmt rs (Set x e) = twins_given fuel t o e _ (λ n. twins_vars fuel t o (λ vs. assign vs x.text.items n))
      twins_stmt rs (Put x a b e) = twins_two fuel t o a b _ (λ i j. twins_given fuel t o e _ (λ n. twins_put fuel t o x i j n))
      twins_stmt rs (If' e p body q other) =
          twins_given fuel t o e _ (λ n. twins_choose fuel t o n (block (run_all (under rs) body)) (block (run_all (under rs) other)) (twins_leave fuel t o _ (twins_all rs body)) (twins_leave fuel t o _ (twins_all rs other)))
      twins_stmt rs (While' e p body) = twins_turns fuel t o (fuel + 1) e (block (run_all (under rs) body)) (twins_leave fuel t o _ (twins_all rs body))
      twins_stmt rs (Loop' x a b p body) =
          twins_two fuel t o a b _ (λ i j. twins_iterate fuel t o (int_gap i j) x.text.items (run_all (under rs) body) [] [] i no_writes_none no_writes_none (twins_all rs body))
      twins_stmt rs (Par' place x a b carry_place carries reduces p body) =
          twins_two fuel t o a b _ (λ i j. twins_wide fuel t o (too_wide i j) place _ (twins_caught fuel t o (left_in body) _
          (twins_iterate fuel t o (int_gap i j) x.text.items (run_all (under reduces.items) body) (Chance ∷ []) [] i chance_writes no_writes_none (twins_all reduces.items body))))
      twins_stmt rs (Fold x e) = twins_given fuel t o e _ (λ n. twins_vars fuel t o (λ vs. folded (operator_of rs x.text.items) vs x.text.items n))
      twins_stmt rs (Call x f) =
          twins_args fuel t o f.args.items _ (λ ns. twins_with_call (call f.callee.text.items f.callee.place ns []) (λ v u. done (set_var x v u)) (calls f.callee.text.items f.callee.place ns [] no_writes_none)
          (λ n. twins_vars fuel t o (λ vs. assign vs x.text.items n)))
      twins_stmt rs (Both x f y g) =
          twins_args fuel t o f.args.items (λ ns s. given_all g.args.items s (λ ms. two_calls (under rs) x f.callee ns y g.callee ms (Chance ∷ []) s))
          (λ ns. twins_args fuel t o g.args.items (λ ms. two_calls (under rs) x f.callee ns y g.callee ms (Chance ∷ [])) (λ ms. twins_two_calls rs x f.callee ns y g.callee ms))
      twins_stmt rs (Print place e) = twins_given fuel t o e _ (λ n. twins_print fuel t o _)
      twins_stmt rs (Emit place x) = twins_emit fuel t o x.text.items
      twins_stmt rs (Leave x e) = twins_given fuel t o e _ (λ n. twins_left fuel t o n)
      twins_stmt rs (Fill f x r es) = twins_done fuel t o

      twins_all : {m : _} (rs : List Reduce) (row : Row_of-Stmt m) → Twins fuel t o (run_all (under rs) row)
      twins_all rs end_of-Stmt = twins_done fuel t o
      twins_all rs (more_of-Stmt first rest) = twins_seq fuel t o (run (under rs) first) (run_all (under rs) rest) (twins_stmt rs first) (twins_all rs rest)

    pub twins_list : (rs : List Reduce) (ss : List Stmt) → Twins fuel t o (run_list (under rs) ss)
    twins_list rs [] = twins_done fuel t o
    twins_list rs (first ∷ rest) = twins_seq fuel t o (run (under rs) first) (run_list (under rs) rest) (twins_stmt rs first) (twins_list rs rest)

    -- ---- the body of a function

    twins_enter : (f : Option Func) (ns : List ℤ) (b : List Note) → NoWrites b → TwinCalls (enter (under []) f ns b)
    twins_enter None ns b n = record { runs = twins_noted fuel t o b done n (twins_done fuel t o); value = λ s us w h v d. refl }
    twins_enter (Some f) ns b n = record { runs = twins_end fuel t o (λ vs us. vs) (λ s. after (body s) end) whole; value = λ s us w h v d. value s us w h v d }
      where
        body : State → Ran
        body s = noted b (run_list (under []) f.body.items (record s { vars = bound f.params.items ns }))

        end : State → Ran
        end s = given f.result s (λ n. done s)

        begun : Twins fuel t o body
        begun = twins_noted fuel t o b (λ s. run_list (under []) f.body.items (record s { vars = bound f.params.items ns })) n (twins_pre fuel t o (λ vs. bound f.params.items ns) (run_list (under []) f.body.items) (twins_list [] f.body.items))

        ended : Twins fuel t o end
        ended = twins_given fuel t o f.result (λ n s. done s) (λ n. twins_done fuel t o)

        whole : Twins fuel t o (λ s. after (body s) end)
        whole = twins_seq fuel t o body end begun ended

        value : (s : State) (us : List Table) → Within fuel t o s.ticks → SeenAlike (after (body s) end).notes s.tables us → Within fuel t o (after (body s) end).state.ticks → (after (body s) end).stop ≡ Done
            → number_in (eval (body (shift fuel t o us s)).state.vars (body (shift fuel t o us s)).state.tables f.result).answer ≡ number_in (eval (body s).state.vars (body s).state.tables f.result).answer
        value s us w h v d = go (begun.twin s us w front)
          where
            first : (body s).stop ≡ Done
            first = done_first (body s) end d

            on : after (body s) end ≡ noted (body s).notes (end (body s).state)
            on = done_second (body s) end first

            both : SeenAlike ((body s).notes ++ (end (body s).state).notes) s.tables us
            both = subst (λ (r : Ran). SeenAlike r.notes s.tables us) on h

            front : SeenAlike (body s).notes s.tables us
            front = seen_front (body s).notes (end (body s).state).notes s.tables us both

            go : Twin fuel t o s.tables us (body s) (body (shift fuel t o us s))
                → number_in (eval (body (shift fuel t o us s)).state.vars (body (shift fuel t o us s)).state.tables f.result).answer ≡ number_in (eval (body s).state.vars (body s).state.tables f.result).answer
            go (inl k) =
                let seen : SeenAlike (end (body s).state).notes (body s).state.tables k.1.end =
                seen_next fuel t o (end (body s).state).notes s.tables us (body s) (body (shift fuel t o us s)) k.1 (seen_back (body s).notes (end (body s).state).notes s.tables us both) in
                ap (λ (r : Ran). number_in (eval r.state.vars r.state.tables f.result).answer) k.1.same
                ∙ ap (λ (z : Value). number_in z.answer) (eval_same (body s).state.vars (body s).state.tables k.1.end f.result (seen_given fuel t o f.result (body s).state (λ n. done (body s).state) k.1.end seen))
            go (inr k) =
                let low : Within fuel t o (end (body s).state).state.ticks = subst (λ (r : Ran). Within fuel t o r.state.ticks) on v in
                absurd (k.0 (within_back fuel t o s (body s) end w (λ l. begun.goes.stops s l first) ended.goes low))

  -- ---- calls

  on_ran : (r : Ran) (go : State → Called) (x : Stop) → (call_on x r go).ran ≡ go_on x r (λ u. (go u).ran)
  on_ran r go Done = refl
  on_ran r go (Left n) = refl
  on_ran r go (Trap k p) = refl
  on_ran r go NoFuel = refl

  twins_call_on : (go : State → Called) → TwinCalls go → TwinCalls (λ s. call_on (tick fuel s).stop (tick fuel s) go)
  twins_call_on go p = record { runs = runs; value = λ s us w h v d. value s us w h v d }
    where
      whole : Twins fuel t o (λ s. after (tick fuel s) (λ u. (go u).ran))
      whole = twins_seq fuel t o (tick fuel) (λ u. (go u).ran) (twins_tick fuel t o) p.runs

      is : (s : State) → (call_on (tick fuel s).stop (tick fuel s) go).ran ≡ after (tick fuel s) (λ u. (go u).ran)
      is s = on_ran (tick fuel s) go (tick fuel s).stop

      runs : Twins fuel t o (λ s. (call_on (tick fuel s).stop (tick fuel s) go).ran)
      runs = subst (λ f. Twins fuel t o f) (fun_ext (λ s. sym (is s))) whole

      value : (s : State) (us : List Table) → Within fuel t o s.ticks → SeenAlike (call_on (tick fuel s).stop (tick fuel s) go).ran.notes s.tables us → Within fuel t o (call_on (tick fuel s).stop (tick fuel s) go).ran.state.ticks
          → (call_on (tick fuel s).stop (tick fuel s) go).ran.stop ≡ Done → (call_on (tick fuel (shift fuel t o us s)).stop (tick fuel (shift fuel t o us s)) go).value ≡ (call_on (tick fuel s).stop (tick fuel s) go).value
      value s us w h v d = on ((twins_tick fuel t o).twin s us w front)
        where
          first : (tick fuel s).stop ≡ Done
          first = done_first (tick fuel s) (λ u. (go u).ran) (ap (λ (r : Ran). r.stop) (sym (is s)) ∙ d)

          behind : Ran
          behind = (go (tick fuel s).state).ran

          all : (call_on (tick fuel s).stop (tick fuel s) go).ran ≡ noted (tick fuel s).notes behind
          all = is s ∙ done_second (tick fuel s) (λ u. (go u).ran) first

          both : SeenAlike ((tick fuel s).notes ++ behind.notes) s.tables us
          both = subst (λ (r : Ran). SeenAlike r.notes s.tables us) all h

          front : SeenAlike (tick fuel s).notes s.tables us
          front = seen_front (tick fuel s).notes behind.notes s.tables us both

          low : Within fuel t o behind.state.ticks
          low = subst (λ (r : Ran). Within fuel t o r.state.ticks) all v

          on : Twin fuel t o s.tables us (tick fuel s) (tick fuel (shift fuel t o us s)) → (call_on (tick fuel (shift fuel t o us s)).stop (tick fuel (shift fuel t o us s)) go).value ≡ (call_on (tick fuel s).stop (tick fuel s) go).value
          on (inl k) =
              let seen = seen_next fuel t o behind.notes s.tables us (tick fuel s) (tick fuel (shift fuel t o us s)) k.1 (seen_back (tick fuel s).notes behind.notes s.tables us both) in
              ap (λ (r : Ran). (call_on r.stop r go).value) k.1.same
              ∙ ap (λ x. (call_on x (over fuel t o k.1.end (tick fuel s)) go).value) first
              ∙ p.value (tick fuel s).state k.1.end k.0 seen low (ap (λ (r : Ran). r.stop) (sym all) ∙ d)
              ∙ sym (ap (λ x. (call_on x (tick fuel s) go).value) first)
          on (inr k) = absurd (k.0 (within_back fuel t o s (tick fuel s) (λ u. (go u).ran) w (λ l. (twins_tick fuel t o).goes.stops s l first) p.runs.goes low))

  pub twins_call : (fs : List Func) (room : ℕ) → CallsTwin (call_at fs fuel room)
  unfolding call_at
  twins_call fs zero f p ns b n =
      twins_call_on (λ u. no_value (trapped Deep p u)) (record { runs = twins_trap fuel t o Deep p; value = λ s us w h v d. refl })
  twins_call fs (suc room) f p ns b n =
      twins_call_on (enter (record { reduces = []; fuel = fuel; call = call_at fs fuel room }) (func_of fs f) ns b) (twins_enter (call_at fs fuel room) (twins_call fs room) (func_of fs f) ns b n)
