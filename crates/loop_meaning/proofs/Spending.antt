-- Every run keeps within its fuel, and its output only grows.
use Rattle.std.proofs.Common.{◌≡◌, ◌<◌, ◌≤◌, ◌+◌, ◌*◌, unsigned_abs, ◌++◌, ◌∷◌, [], ℕ, zero, suc, ℤ}
use Rattle.std.proofs.Common.{pos, negsuc, ◌+ℤ◌, List, Option, Some, None, Bool, true, false}
use Rattle.std.proofs.Common.{nat_lt, length, refl, sym, ap, ◌∙◌, append_assoc, zero-le, ◌↔◌, ◌⊎◌}
use Rattle.std.proofs.Common.{inl, inr, arith}
use Rattle.std.specs.Int.{int_gap}
use Rattle.std.proofs.lemmas.List.{append-nil}
use Rattle.std.proofs.lemmas.Bool.{ltb-true, ltb-false}
use Rattle.tp_value.specs.declared.Place.{Place}
use Rattle.tp_value.specs.declared.TrapKind.{TrapKind}
use Rattle.tp_value.specs.declared.Stop.{Stop}
use Rattle.tp_value.specs.declared.Stop.TheVariants.{Done, Left, Trap, NoFuel}
use Rattle.tp_value.specs.declared.Table.{Table}
use Rattle.loop_syntax.specs.declared.Expr.{Expr}
use Rattle.loop_syntax.specs.declared.Name.{Name}
use Rattle.loop_syntax.specs.declared.App.{App}
use Rattle.loop_syntax.specs.declared.Stmt.{Stmt, Row_of-Stmt, end_of-Stmt, more_of-Stmt}
use Rattle.loop_syntax.specs.declared.Stmt.TheVariants.{Let, Set, Put, If', While', Loop', Par'}
use Rattle.loop_syntax.specs.declared.Stmt.TheVariants.{Fold, Call, Both, Print, Emit, Leave, Fill}
use Rattle.loop_syntax.specs.declared.Func.{Func}
use Rattle.loop_syntax.specs.declared.TableDecl.{TableDecl}
use Rattle.loop_syntax.specs.declared.TableDecl.TheVariants.{Input, Made}
use Rattle.loop_syntax.specs.declared.Program.{Program}
use Rattle.loop_rules.specs.Names.{func_of}
use Rattle.loop_meaning.specs.declared.value.Answer.{Answer}
use Rattle.loop_meaning.specs.declared.value.Answer.TheVariants.{Number, Traps}
use Rattle.loop_meaning.specs.State.{table_of, has_cell, assign, declare, State, Note, Emits, Ran}
use Rattle.loop_meaning.specs.State.{Chance, done, left_with, trapped, noted, after, go_on, tick}
use Rattle.loop_meaning.specs.State.{leave_block}
use Rattle.loop_meaning.specs.Expressions.{eval}
use Rattle.loop_meaning.specs.Leaving.{left_in, caught_by, caught}
use Rattle.loop_meaning.specs.Statements.{Setting, Called, given, given_answer, given_two}
use Rattle.loop_meaning.specs.Statements.{given_all, choose, block, turns, iteration, iterate}
use Rattle.loop_meaning.specs.Statements.{too_wide, unless_wide, put_cell, run_call, run_both, run}
use Rattle.loop_meaning.specs.Statements.{run_all}
use Rattle.loop_meaning.specs.Statements.{run_list}
use Rattle.loop_meaning.specs.Calls.{call_at, call_on, enter, bound, setting}
use Rattle.loop_meaning.specs.Meaning.{make_tables, unless_large, add_table, zero_table}
use Rattle.loop_meaning.specs.Meaning.{is_too_large, input_cells, first_state, whole_run, meaning}

-- a run from a state within the fuel
pub record Sound (fuel : ℕ) (s : State) (r : Ran) : Type 0 where
  pub later : s.ticks ≤ r.state.ticks
  pub within : (r.stop ≡ NoFuel → ⊥) → r.state.ticks ≤ fuel
  pub spent : r.stop ≡ NoFuel → r.state.ticks ≡ fuel + 1
  pub more : List ℕ
  pub grows : r.state.output ≡ s.output ++ more

module _ (fuel : ℕ) where
  -- a stop that leaves ticks and output
  stays : (s : State) (x : Stop) (t : State) (ns : List Note) → (x ≡ NoFuel → ⊥) → s.ticks ≤ fuel → t.ticks ≡ s.ticks → t.output ≡ s.output → Sound fuel s (record { stop = x; state = t; notes = ns })
  stays s x t ns d h e o = record {
    later = omega arith;
    within = λ z. omega arith;
    spent = λ z. absurd (d z);
    more = [];
    grows = o ∙ sym (append-nil s.output);
  }

  done_with : (s t : State) (o : List ℕ) → s.ticks ≤ fuel → t.ticks ≡ s.ticks → t.output ≡ s.output ++ o → Sound fuel s (done t)
  done_with s t o h e g = record { later = omega arith; within = λ z. omega arith; spent = λ z. absurd (let c : Done ≡ NoFuel = z in cc); more = o; grows = g }

  sound_done : (s t : State) → s.ticks ≤ fuel → t.ticks ≡ s.ticks → t.output ≡ s.output → Sound fuel s (done t)
  sound_done s t h e o = stays s Done t [] (λ z. cc) h e o

  sound_trap : (s : State) (k : TrapKind) (p : Place) → s.ticks ≤ fuel → Sound fuel s (trapped k p s)
  sound_trap s k p h = stays s (Trap k p) s [] (λ z. cc) h refl refl

  sound_left : (s : State) (n : ℤ) → s.ticks ≤ fuel → Sound fuel s (left_with n s)
  sound_left s n h = stays s (Left n) s [] (λ z. cc) h refl refl

  sound_noted : (s : State) (ns : List Note) (r : Ran) → Sound fuel s r → Sound fuel s (noted ns r)
  sound_noted s ns r h = record { later = h.later; within = h.within; spent = h.spent; more = h.more; grows = h.grows }

  -- from a state with the same ticks and output
  sound_from : (s t : State) (r : Ran) → s.ticks ≡ t.ticks → s.output ≡ t.output → Sound fuel t r → Sound fuel s r
  sound_from s t r e o h = record { later = let l : t.ticks ≤ r.state.ticks = h.later in omega arith; within = h.within; spent = h.spent; more = h.more; grows = h.grows ∙ ap (λ x. x ++ h.more) (sym o) }

  sound_leave : (s : State) (n : ℕ) (r : Ran) → Sound fuel s r → Sound fuel s (leave_block n r)
  sound_leave s n r h = record { later = h.later; within = h.within; spent = h.spent; more = h.more; grows = h.grows }

  sound_after : (s : State) (r : Ran) (go : State → Ran) → Sound fuel s r → ((t : State) → s.ticks ≤ t.ticks → t.ticks ≤ fuel → Sound fuel t (go t)) → Sound fuel s (after r go)
  sound_after s r go h g = f r.stop refl
    where
      f : (x : Stop) → r.stop ≡ x → Sound fuel s (go_on x r go)
      f Done e =
          let k : r.state.ticks ≤ fuel = h.within (λ z. let c : Done ≡ NoFuel = sym e ∙ z in cc) in
          let q = g r.state h.later k in
          let l : s.ticks ≤ r.state.ticks = h.later in
          let m : r.state.ticks ≤ (go r.state).state.ticks = q.later in
          record {
            later = omega arith;
            within = q.within;
            spent = q.spent;
            more = h.more ++ q.more;
            grows = q.grows ∙ ap (λ o. o ++ q.more) h.grows ∙ append_assoc s.output h.more q.more;
          }
      f (Left n) e = h
      f (Trap k p) e = h
      f NoFuel e = h

  sound_given : (e : Expr) (s : State) (go : ℤ → Ran) → s.ticks ≤ fuel → ((n : ℤ) → Sound fuel s (go n)) → Sound fuel s (given e s go)
  sound_given e s go h g = f (eval s.vars s.tables e).answer (eval s.vars s.tables e).notes
    where
      f : (a : Answer) (ns : List Note) → Sound fuel s (given_answer a ns s go)
      f (Number n) ns = sound_noted s ns (go n) (g n)
      f (Traps k p) ns = stays s (Trap k p) s ns (λ z. cc) h refl refl

  sound_two : (a b : Expr) (s : State) (go : ℤ → ℤ → Ran) → s.ticks ≤ fuel → ((m n : ℤ) → Sound fuel s (go m n)) → Sound fuel s (given_two a b s go)
  sound_two a b s go h g = sound_given a s (λ m. given b s (λ n. go m n)) h (λ m. sound_given b s (λ n. go m n) h (g m))

  sound_args : (es : List Expr) (s : State) (go : List ℤ → Ran) → s.ticks ≤ fuel → ((ns : List ℤ) → Sound fuel s (go ns)) → Sound fuel s (given_all es s go)
  sound_args [] s go h g = g []
  sound_args (e ∷ es) s go h g =
      sound_given e s (λ n. given_all es s (λ ns. go (n ∷ ns))) h (λ n. sound_args es s (λ ns. go (n ∷ ns)) h (λ ns. g (n ∷ ns)))

  -- a tick, and what comes after it with one tick more
  sound_tick : (s : State) (go : State → Ran) → s.ticks ≤ fuel → ((t : State) → t.ticks ≡ s.ticks + 1 → t.ticks ≤ fuel → Sound fuel t (go t)) → Sound fuel s (after (tick fuel s) go)
  sound_tick s go h g = f (nat_lt s.ticks fuel) refl
    where
      f : (b : Bool) → nat_lt s.ticks fuel ≡ b → Sound fuel s (after (tick fuel s) go)
      f true e =
          let lt : s.ticks < fuel = ltb-true s.ticks fuel e in
          let t : State = record s { ticks = s.ticks + 1 } in
          let q : Sound fuel t (go t) = g t refl (omega arith) in
          let l : s.ticks + 1 ≤ (go t).state.ticks = q.later in
          rw e (record { later = omega arith; within = q.within; spent = q.spent; more = q.more; grows = q.grows })
      f false e =
          let ge : fuel ≤ s.ticks = ltb-false s.ticks fuel e in
          rw e (record { later = omega arith; within = λ z. absurd (z refl); spent = λ z. refl; more = []; grows = sym (append-nil s.output) })

  sound_choose : (s : State) (n : ℤ) (f g : State → Ran) → Sound fuel s (f s) → Sound fuel s (g s) → Sound fuel s (choose n f g s)
  sound_choose s (pos zero) f g p q = q
  sound_choose s (pos (suc n)) f g p q = p
  sound_choose s (negsuc n) f g p q = p

  abbrev Keeps : (State → Ran) → Type 0
  Keeps body = (s : State) → s.ticks ≤ fuel → Sound fuel s (body s)

  sound_block : (body : State → Ran) → Keeps body → Keeps (block body)
  sound_block body k s h = sound_leave s (length s.vars) (body s) (k s h)

  sound_iteration : (x : List ℕ) (body : State → Ran) (ns : List Note) (i : ℤ) → Keeps body → Keeps (iteration fuel x body ns i)
  sound_iteration x body ns i k s h =
      sound_leave s (length s.vars) _ (sound_tick s (λ t. noted ns (body (record t { vars = declare t.vars x i }))) h
      (λ t e l. sound_noted t ns (body (record t { vars = declare t.vars x i }))
      (sound_from t (record t { vars = declare t.vars x i }) (body (record t { vars = declare t.vars x i })) refl refl (k (record t { vars = declare t.vars x i }) l))))

  sound_iterate : (n : ℕ) (x : List ℕ) (body : State → Ran) (again ns : List Note) (i : ℤ) → Keeps body → Keeps (iterate fuel x body again ns n i)
  unfolding iterate
  sound_iterate zero x body again ns i k s h = sound_done s s h refl refl
  sound_iterate (suc n) x body again ns i k s h =
      sound_after s (iteration fuel x body ns i s) (iterate fuel x body again again n (i +ℤ pos 1)) (sound_iteration x body ns i k s h)
      (λ t l m. sound_iterate n x body again again (i +ℤ pos 1) k t m)

  -- the same with a body between the tick and the rest
  sound_turn : (s : State) (body rest : State → Ran) → s.ticks ≤ fuel
      → ((t : State) → t.ticks ≡ s.ticks + 1 → t.ticks ≤ fuel → Sound fuel t (after (noted [] (body t)) rest)) → Sound fuel s (after (after (tick fuel s) body) rest)
  sound_turn s body rest h g = f (nat_lt s.ticks fuel) refl
    where
      f : (b : Bool) → nat_lt s.ticks fuel ≡ b → Sound fuel s (after (after (tick fuel s) body) rest)
      f true e =
          let lt : s.ticks < fuel = ltb-true s.ticks fuel e in
          let t : State = record s { ticks = s.ticks + 1 } in
          let r : Ran = after (noted [] (body t)) rest in
          let q : Sound fuel t r = g t refl (omega arith) in
          let l : s.ticks + 1 ≤ r.state.ticks = q.later in
          rw e (record { later = omega arith; within = q.within; spent = q.spent; more = q.more; grows = q.grows })
      f false e =
          let ge : fuel ≤ s.ticks = ltb-false s.ticks fuel e in
          rw e (record { later = omega arith; within = λ z. absurd (z refl); spent = λ z. refl; more = []; grows = sym (append-nil s.output) })

  -- more turns than ticks are left are never used up
  sound_turns : (n : ℕ) (e : Expr) (body : State → Ran) → Keeps body → (s : State) → s.ticks ≤ fuel → fuel < n + s.ticks → Sound fuel s (turns n fuel e body s)
  unfolding turns
  sound_turns zero e body k s h b = absurd (omega arith)
  sound_turns (suc n) e body k s h b =
      sound_given e s (λ v. choose v (λ t. after (after (tick fuel t) body) (turns n fuel e body)) done s) h
      (λ v. sound_choose s v (λ t. after (after (tick fuel t) body) (turns n fuel e body)) done
      (sound_turn s body (turns n fuel e body) h
      (λ t q l. sound_after t (noted [] (body t)) (turns n fuel e body) (sound_noted t [] (body t) (k t l))
      (λ u m r. sound_turns n e body k u r (omega arith))))
      (sound_done s s h refl refl))

  sound_unless_wide : (b : Bool) (p : Place) (go : State → Ran) → Keeps go → Keeps (unless_wide b p go)
  sound_unless_wide true p go k s h = sound_trap s _ p h
  sound_unless_wide false p go k s h = k s h

  sound_caught : (s : State) (target : Option (List ℕ)) (r : Ran) → Sound fuel s r → Sound fuel s (caught target r)
  sound_caught s target r h = go r.stop refl target
    where
      left : (n : ℤ) → r.stop ≡ Left n → (t : State) → t.ticks ≡ r.state.ticks → t.output ≡ r.state.output → Sound fuel s (record { stop = Done; state = t; notes = r.notes })
      left n e t a b =
          let w : r.state.ticks ≤ fuel = h.within (λ z. let c : Left n ≡ NoFuel = sym e ∙ z in cc) in
          let l : s.ticks ≤ r.state.ticks = h.later in
          record { later = omega arith; within = λ z. omega arith; spent = λ z. absurd (let c : Done ≡ NoFuel = z in cc); more = h.more; grows = b ∙ h.grows }

      go : (x : Stop) → r.stop ≡ x → (target : Option (List ℕ)) → Sound fuel s (caught_by x target r)
      go (Left n) e (Some y) = left n e (record r.state { vars = assign r.state.vars y n }) refl refl
      go (Left n) e None = left n e r.state refl refl
      go Done e target = h
      go (Trap k p) e target = h
      go NoFuel e target = h

  sound_put : (t : Name) (i j v : ℤ) → Keeps (put_cell t i j v)
  sound_put t i j v s h = f (has_cell (table_of s.tables t.text.items) i j) refl
    where
      f : (b : Bool) → has_cell (table_of s.tables t.text.items) i j ≡ b → Sound fuel s (put_cell t i j v s)
      f true e = rw (e, put_cell) (stays s Done _ _ (λ z. cc) h refl refl)
      f false e = rw (e, put_cell) (sound_trap s _ t.place h)

  -- ---- calls, given what a call does

  abbrev CallsKeep : (List ℕ → Place → List ℤ → List Note → State → Called) → Type 0
  CallsKeep call = (f : List ℕ) (p : Place) (ns : List ℤ) (b : List Note) (s : State) → s.ticks ≤ fuel → Sound fuel s (call f p ns b s).ran

  sound_run_call : (k : Setting) → CallsKeep k.call → (x : Name) (f : App) → Keeps (run_call k x f)
  sound_run_call k c x f s h =
      sound_args f.args.items s _ h (λ ns. sound_after s (k.call f.callee.text.items f.callee.place ns [] s).ran _ (c f.callee.text.items f.callee.place ns [] s h)
      (λ t l m. sound_done t _ m refl refl))

  sound_both : (k : Setting) → CallsKeep k.call → (x : Name) (f : App) (y : Name) (g : App) → Keeps (run_both k x f y g)
  sound_both k c x f y g s h =
      sound_args f.args.items s _ h (λ ns. sound_args g.args.items s _ h (λ ms.
      sound_after s (k.call f.callee.text.items f.callee.place ns _ s).ran _ (c f.callee.text.items f.callee.place ns _ s h)
      (λ t l m. sound_after t (k.call g.callee.text.items g.callee.place ms [] t).ran _ (c g.callee.text.items g.callee.place ms [] t m)
      (λ u l m. sound_done u _ m refl refl))))

-- ---- statements

mutual
  pub sound_stmt : (k : Setting) → CallsKeep k.fuel k.call → (st : Stmt) → Keeps k.fuel (run k st)
  sound_stmt k c (Let x e) s h = sound_given k.fuel e s _ h (λ n. sound_done k.fuel s _ h refl refl)
  sound_stmt k c (Set x e) s h = sound_given k.fuel e s _ h (λ n. sound_done k.fuel s _ h refl refl)
  sound_stmt k c (Put t a b e) s h = sound_two k.fuel a b s _ h (λ i j. sound_given k.fuel e s _ h (λ n. sound_put k.fuel t i j n s h))
  sound_stmt k c (If' e p body q other) s h =
      sound_given k.fuel e s _ h (λ n. sound_choose k.fuel s n (block (run_all k body)) (block (run_all k other))
      (sound_block k.fuel (run_all k body) (sound_all k c body) s h) (sound_block k.fuel (run_all k other) (sound_all k c other) s h))
  sound_stmt k c (While' e p body) s h =
      sound_turns k.fuel (k.fuel + 1) e (block (run_all k body)) (sound_block k.fuel (run_all k body) (sound_all k c body)) s h (omega arith)
  sound_stmt k c (Loop' x a b p body) s h =
      sound_two k.fuel a b s _ h (λ i j. sound_iterate k.fuel (int_gap i j) x.text.items (run_all k body) [] [] i (sound_all k c body) s h)
  sound_stmt k c (Par' place x a b carry_place carries reduces p body) s h =
      sound_two k.fuel a b s _ h (λ i j.
      let all : State → Ran = iterate k.fuel x.text.items (run_all (record k { reduces = reduces.items }) body) (Chance ∷ []) [] (int_gap i j) i in
      sound_unless_wide k.fuel (too_wide i j) place (λ t. caught (left_in body) (all t))
      (λ t l. sound_caught k.fuel t (left_in body) (all t)
      (sound_iterate k.fuel (int_gap i j) x.text.items (run_all (record k { reduces = reduces.items }) body) (Chance ∷ []) [] i (sound_all (record k { reduces = reduces.items }) c body) t l)) s h)
  sound_stmt k c (Fold x e) s h = sound_given k.fuel e s _ h (λ n. sound_done k.fuel s _ h refl refl)
  sound_stmt k c (Call x f) s h = sound_run_call k.fuel k c x f s h
  sound_stmt k c (Both x f y g) s h = sound_both k.fuel k c x f y g s h
  sound_stmt k c (Print place e) s h = sound_given k.fuel e s _ h (λ n. done_with k.fuel s _ _ h refl refl)
  sound_stmt k c (Emit place t) s h = sound_noted k.fuel s (Emits t.text.items ∷ []) _ (done_with k.fuel s _ _ h refl refl)
  sound_stmt k c (Leave x e) s h = sound_given k.fuel e s _ h (λ n. sound_left k.fuel s n h)
  sound_stmt k c (Fill f t r es) s h = sound_done k.fuel s s h refl refl

  pub sound_all : {m : _} (k : Setting) → CallsKeep k.fuel k.call → (row : Row_of-Stmt m) → Keeps k.fuel (run_all k row)
  sound_all k c end_of-Stmt s h = sound_done k.fuel s s h refl refl
  sound_all k c (more_of-Stmt first rest) s h = sound_after k.fuel s (run k first s) (run_all k rest) (sound_stmt k c first s h) (λ t l m. sound_all k c rest t m)

pub sound_list : (k : Setting) → CallsKeep k.fuel k.call → (ss : List Stmt) → Keeps k.fuel (run_list k ss)
sound_list k c [] s h = sound_done k.fuel s s h refl refl
sound_list k c (first ∷ rest) s h = sound_after k.fuel s (run k first s) (run_list k rest) (sound_stmt k c first s h) (λ t l m. sound_list k c rest t m)

-- ---- calls

sound_enter : (k : Setting) → CallsKeep k.fuel k.call → (o : Option Func) (ns : List ℤ) (b : List Note) (s : State) → s.ticks ≤ k.fuel → Sound k.fuel s (enter k o ns b s).ran
sound_enter k c None ns b s h = sound_noted k.fuel s b (done s) (sound_done k.fuel s s h refl refl)
sound_enter k c (Some f) ns b s h =
    let t : State = record s { vars = bound f.params.items ns } in
    let r : Ran = noted b (run_list k f.body.items t) in
    let q : Sound k.fuel s r = sound_noted k.fuel s b (run_list k f.body.items t) (sound_from k.fuel s t (run_list k f.body.items t) refl refl (sound_list k c f.body.items t h)) in
    let e : Sound k.fuel s (after r (λ u. given f.result u (λ n. done u))) =
    sound_after k.fuel s r (λ u. given f.result u (λ n. done u)) q (λ u l m. sound_given k.fuel f.result u (λ n. done u) m (λ n. sound_done k.fuel u u m refl refl)) in
    record { later = e.later; within = e.within; spent = e.spent; more = e.more; grows = e.grows }

sound_call_on : (fuel : ℕ) (s : State) (go : State → Called) → s.ticks ≤ fuel → ((t : State) → t.ticks ≡ s.ticks + 1 → t.ticks ≤ fuel → Sound fuel t (go t).ran)
    → Sound fuel s (call_on (tick fuel s).stop (tick fuel s) go).ran
sound_call_on fuel s go h g = f (nat_lt s.ticks fuel) refl
  where
    f : (b : Bool) → nat_lt s.ticks fuel ≡ b → Sound fuel s (call_on (tick fuel s).stop (tick fuel s) go).ran
    f true e =
        let lt : s.ticks < fuel = ltb-true s.ticks fuel e in
        let t : State = record s { ticks = s.ticks + 1 } in
        let q : Sound fuel t (go t).ran = g t refl (omega arith) in
        let l : s.ticks + 1 ≤ (go t).ran.state.ticks = q.later in
        rw e (record { later = omega arith; within = q.within; spent = q.spent; more = q.more; grows = q.grows })
    f false e =
        let ge : fuel ≤ s.ticks = ltb-false s.ticks fuel e in
        rw e (record { later = omega arith; within = λ z. absurd (z refl); spent = λ z. refl; more = []; grows = sym (append-nil s.output) })

pub sound_call : (fs : List Func) (fuel room : ℕ) → CallsKeep fuel (call_at fs fuel room)
unfolding call_at
sound_call fs fuel zero f p ns b s h = sound_call_on fuel s _ h (λ t e l. sound_trap fuel t _ p l)
sound_call fs fuel (suc room) f p ns b s h =
    sound_call_on fuel s _ h (λ t e l. sound_enter (record { reduces = []; fuel = fuel; call = call_at fs fuel room }) (sound_call fs fuel room) (func_of fs f) ns b t l)

-- ---- programs

sound_unless_large : (fuel : ℕ) (b : Bool) (p : Place) (go : State → Ran) → Keeps fuel go → Keeps fuel (unless_large b p go)
sound_unless_large fuel true p go k s h = sound_trap fuel s _ p h
sound_unless_large fuel false p go k s h = k s h

sound_tables : (fuel : ℕ) (ts : List Table) (cells : ℕ) (ds : List TableDecl) → Keeps fuel (make_tables ts cells ds)
sound_tables fuel ts cells [] s h = sound_done fuel s s h refl refl
sound_tables fuel ts cells (Input x ∷ ds) s h =
    let t : State = add_table (table_of ts x.text.items) s in
    sound_from fuel s t (make_tables ts cells ds t) refl refl (sound_tables fuel ts cells ds t h)
sound_tables fuel ts cells (Made x a b ∷ ds) s h =
    sound_two fuel a b s _ h (λ m n.
    let rest : State → Ran = λ t. make_tables ts (cells + unsigned_abs m * unsigned_abs n) ds (add_table (zero_table x m n) t) in
    sound_unless_large fuel (is_too_large cells m n) x.place rest
    (λ t l. sound_from fuel t (add_table (zero_table x m n) t) (rest t) refl refl (sound_tables fuel ts (cells + unsigned_abs m * unsigned_abs n) ds (add_table (zero_table x m n) t) l)) s h)

pub sound_whole : (p : Program) (ts : List Table) (fuel : ℕ) → Sound fuel first_state (whole_run p ts fuel)
unfolding whole_run
sound_whole p ts fuel =
    sound_after fuel first_state (make_tables ts (input_cells p.tables.items ts) p.tables.items first_state) (run_list (setting p fuel 0 []) p.main.items)
    (sound_tables fuel ts (input_cells p.tables.items ts) p.tables.items first_state zero-le)
    (λ t l m. sound_list (setting p fuel 0 []) (sound_call p.funcs.items fuel _) p.main.items t m)

not_spent : (x : Stop) → (x ≡ NoFuel → ⊥) ⊎ (x ≡ NoFuel)
not_spent Done = inl (λ z. cc)
not_spent (Left n) = inl (λ z. cc)
not_spent (Trap k p) = inl (λ z. cc)
not_spent NoFuel = inr refl

pub meaning_ticks : (p : Program) (ts : List Table) (fuel : ℕ) → (meaning p ts fuel).ticks ≤ fuel + 1
unfolding meaning whole_run
meaning_ticks p ts fuel = f (not_spent (whole_run p ts fuel).stop)
  where
    f : ((whole_run p ts fuel).stop ≡ NoFuel → ⊥) ⊎ ((whole_run p ts fuel).stop ≡ NoFuel) → (whole_run p ts fuel).state.ticks ≤ fuel + 1
    f (inl d) = let l : (whole_run p ts fuel).state.ticks ≤ fuel = (sound_whole p ts fuel).within d in omega arith
    f (inr e) = let l : (whole_run p ts fuel).state.ticks ≡ fuel + 1 = (sound_whole p ts fuel).spent e in omega arith

pub meaning_spent : (p : Program) (ts : List Table) (fuel : ℕ) → ((meaning p ts fuel).stop ≡ NoFuel) ↔ (fuel < (meaning p ts fuel).ticks)
unfolding meaning whole_run
meaning_spent p ts fuel = (forward, λ h. back h (not_spent (whole_run p ts fuel).stop))
  where
    forward : (whole_run p ts fuel).stop ≡ NoFuel → fuel < (whole_run p ts fuel).state.ticks
    forward e = let l : (whole_run p ts fuel).state.ticks ≡ fuel + 1 = (sound_whole p ts fuel).spent e in omega arith

    back : fuel < (whole_run p ts fuel).state.ticks → ((whole_run p ts fuel).stop ≡ NoFuel → ⊥) ⊎ ((whole_run p ts fuel).stop ≡ NoFuel) → (whole_run p ts fuel).stop ≡ NoFuel
    back h (inl d) = let l : (whole_run p ts fuel).state.ticks ≤ fuel = (sound_whole p ts fuel).within d in absurd (omega arith)
    back h (inr e) = e
