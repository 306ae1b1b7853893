-- A run that doesn't stop for want of fuel is the same with more fuel.
use Rattle.std.proofs.Common.{◌≡◌, ◌<◌, ◌≤◌, ◌+◌, ◌-◌, ◌∷◌, [], ℕ, zero, suc, ℤ, pos, negsuc, ◌+ℤ◌}
use Rattle.std.proofs.Common.{List, Option, Some, None, Bool, true, false, nat_lt, length, refl}
use Rattle.std.proofs.Common.{sym, ap, ◌∙◌, arith}
use Rattle.std.specs.Int.{int_gap}
use Rattle.std.proofs.lemmas.Bool.{ltb-true}
use Rattle.std.proofs.lemmas.Bool.Decides.{nat_tests}
use Rattle.tp_value.specs.declared.limits.TheConstants.{MAX_CALL_DEPTH}
use Rattle.tp_value.specs.declared.Place.{Place}
use Rattle.tp_value.specs.declared.Stop.{Stop}
use Rattle.tp_value.specs.declared.Stop.TheVariants.{Done, Left, Trap, NoFuel}
use Rattle.tp_value.specs.declared.Table.{Table}
use Rattle.loop_syntax.specs.declared.Expr.{Expr}
use Rattle.loop_syntax.specs.declared.Name.{Name}
use Rattle.loop_syntax.specs.declared.Reduce.{Reduce}
use Rattle.loop_syntax.specs.declared.Stmt.{Stmt, Row_of-Stmt, end_of-Stmt, more_of-Stmt}
use Rattle.loop_syntax.specs.declared.Stmt.TheVariants.{Let, Set, Put, If', While', Loop', Par'}
use Rattle.loop_syntax.specs.declared.Stmt.TheVariants.{Fold, Call, Both, Print, Emit, Leave, Fill}
use Rattle.loop_syntax.specs.declared.Func.{Func}
use Rattle.loop_syntax.specs.declared.Program.{Program}
use Rattle.loop_rules.specs.Names.{func_of}
use Rattle.loop_meaning.specs.declared.value.Answer.{Answer}
use Rattle.loop_meaning.specs.declared.value.Answer.TheVariants.{Number, Traps}
use Rattle.loop_meaning.specs.State.{declare, State, Note, Chance, Ran, done, noted, after, go_on}
use Rattle.loop_meaning.specs.State.{tick, leave_block}
use Rattle.loop_meaning.specs.Expressions.{eval}
use Rattle.loop_meaning.specs.Leaving.{left_in, caught_by, caught}
use Rattle.loop_meaning.specs.Statements.{Setting, Called, given, given_answer, given_two}
use Rattle.loop_meaning.specs.Statements.{given_all, choose, block, turns, iteration, iterate}
use Rattle.loop_meaning.specs.Statements.{too_wide, unless_wide, with_call, set_var, two_calls, run}
use Rattle.loop_meaning.specs.Statements.{run_all, run_list}
use Rattle.loop_meaning.specs.Calls.{call_at, call_on, enter, bound, returned, setting}
use Rattle.loop_meaning.specs.Meaning.{make_tables, input_cells, first_state, whole_run, outcome_of}
use Rattle.loop_meaning.specs.Meaning.{meaning, count_chances, chances}

-- q is the run r, where that didn't stop for want of fuel
pub record Same (r q : Ran) : Type 0 where
  pub same : (r.stop ≡ NoFuel → ⊥) → q ≡ r

-- from every state
abbrev pub SameRuns : (State → Ran) → (State → Ran) → Type 0
SameRuns f g = (s : State) → Same (f s) (g s)

pub same_refl : (r : Ran) → Same r r
same_refl r = record { same = λ d. refl }

same_noted : (ns : List Note) (r q : Ran) → Same r q → Same (noted ns r) (noted ns q)
same_noted ns r q h = record { same = λ d. ap (noted ns) (h.same d) }

same_leave : (n : ℕ) (r q : Ran) → Same r q → Same (leave_block n r) (leave_block n q)
same_leave n r q h = record { same = λ d. ap (leave_block n) (h.same d) }

pub same_after : (r q : Ran) (f g : State → Ran) → Same r q → SameRuns f g → Same (after r f) (after q g)
same_after r q f g h k = record { same = go r.stop refl }
  where
    go : (x : Stop) → r.stop ≡ x → ((go_on x r f).stop ≡ NoFuel → ⊥) → after q g ≡ go_on x r f
    go Done e d =
        ap (λ z. after z g) (h.same (λ z. let c : Done ≡ NoFuel = sym e ∙ z in cc)) ∙ ap (λ x. go_on x r g) e ∙ ap (noted r.notes) ((k r.state).same d)
    go (Left n) e d = ap (λ z. after z g) (h.same d) ∙ ap (λ x. go_on x r g) e
    go (Trap a p) e d = ap (λ z. after z g) (h.same d) ∙ ap (λ x. go_on x r g) e
    go NoFuel e d = absurd (d e)

same_caught : (target : Option (List ℕ)) (r q : Ran) → Same r q → Same (caught target r) (caught target q)
same_caught target r q h = record { same = λ d. ap (caught target) (h.same (λ e. d (ap (λ x. (caught_by x target r).stop) e ∙ e))) }

same_given : (e : Expr) (s : State) (f g : ℤ → Ran) → ((n : ℤ) → Same (f n) (g n)) → Same (given e s f) (given e s g)
same_given e s f g h = go (eval s.vars s.tables e).answer (eval s.vars s.tables e).notes
  where
    go : (a : Answer) (ns : List Note) → Same (given_answer a ns s f) (given_answer a ns s g)
    go (Number n) ns = same_noted ns (f n) (g n) (h n)
    go (Traps k p) ns = same_refl _

same_two : (a b : Expr) (s : State) (f g : ℤ → ℤ → Ran) → ((m n : ℤ) → Same (f m n) (g m n)) → Same (given_two a b s f) (given_two a b s g)
same_two a b s f g h = same_given a s _ _ (λ m. same_given b s _ _ (h m))

same_args : (es : List Expr) (s : State) (f g : List ℤ → Ran) → ((ns : List ℤ) → Same (f ns) (g ns)) → Same (given_all es s f) (given_all es s g)
same_args [] s f g h = h []
same_args (e ∷ es) s f g h = same_given e s _ _ (λ n. same_args es s (λ ns. f (n ∷ ns)) (λ ns. g (n ∷ ns)) (λ ns. h (n ∷ ns)))

same_choose : (n : ℤ) (s : State) (f g a b : State → Ran) → Same (f s) (a s) → Same (g s) (b s) → Same (choose n f g s) (choose n a b s)
same_choose (pos zero) s f g a b p q = q
same_choose (pos (suc n)) s f g a b p q = p
same_choose (negsuc n) s f g a b p q = p

same_wide : (w : Bool) (p : Place) (f g : State → Ran) (s : State) → Same (f s) (g s) → Same (unless_wide w p f s) (unless_wide w p g s)
same_wide true p f g s h = same_refl _
same_wide false p f g s h = h

-- a call and its value
pub record SameCall (c d : Called) : Type 0 where
  pub same : (c.ran.stop ≡ NoFuel → ⊥) → d ≡ c

same_with_call : (c d : Called) (f g : ℤ → State → Ran) → SameCall c d → ((n : ℤ) → SameRuns (f n) (g n)) → Same (with_call c f) (with_call d g)
same_with_call c d f g h k = record { same = go c.ran.stop refl }
  where
    go : (x : Stop) → c.ran.stop ≡ x → ((go_on x c.ran (f c.value)).stop ≡ NoFuel → ⊥) → with_call d g ≡ go_on x c.ran (f c.value)
    go Done e n =
        ap (λ z. with_call z g) (h.same (λ z. let q : Done ≡ NoFuel = sym e ∙ z in cc)) ∙ ap (λ x. go_on x c.ran (g c.value)) e
        ∙ ap (noted c.ran.notes) ((k c.value c.ran.state).same n)
    go (Left m) e n = ap (λ z. with_call z g) (h.same n) ∙ ap (λ x. go_on x c.ran (g c.value)) e
    go (Trap a p) e n = ap (λ z. with_call z g) (h.same n) ∙ ap (λ x. go_on x c.ran (g c.value)) e
    go NoFuel e n = absurd (n e)

module _ (fuel enough : ℕ) (at_least : fuel ≤ enough) where
  same_tick : SameRuns (tick fuel) (tick enough)
  same_tick s = go (nat_lt s.ticks fuel) refl
    where
      go : (b : Bool) → nat_lt s.ticks fuel ≡ b → Same (tick fuel s) (tick enough s)
      go true e =
          let lt : s.ticks < fuel = ltb-true s.ticks fuel e in
          let l : s.ticks < enough = omega arith in
          let q : nat_lt s.ticks enough ≡ true = grind (arith, nat_tests) in
          rw (e, q) (same_refl _)
      go false e = rw e (record { same = λ d. absurd (d refl) })

  same_turns : (n m : ℕ) → n ≤ m → (e : Expr) (f g : State → Ran) → SameRuns f g → SameRuns (turns n fuel e f) (turns m enough e g)
  unfolding turns
  same_turns zero m l e f g h s = record { same = λ d. absurd (d refl) }
  same_turns (suc n) zero l e f g h s = absurd (omega arith)
  same_turns (suc n) (suc m) l e f g h s =
      same_given e s _ _ (λ v. same_choose v s _ done _ done
      (same_after _ _ (turns n fuel e f) (turns m enough e g) (same_after (tick fuel s) (tick enough s) f g (same_tick s) h) (same_turns n m (omega arith) e f g h))
      (same_refl _))

  same_iteration : (x : List ℕ) (f g : State → Ran) (ns : List Note) (i : ℤ) → SameRuns f g → SameRuns (iteration fuel x f ns i) (iteration enough x g ns i)
  same_iteration x f g ns i h s =
      same_leave (length s.vars) _ _ (same_after (tick fuel s) (tick enough s) _ _ (same_tick s) (λ t. same_noted ns _ _ (h (record t { vars = declare t.vars x i }))))

  same_iterate : (n : ℕ) (x : List ℕ) (f g : State → Ran) (again ns : List Note) (i : ℤ) → SameRuns f g → SameRuns (iterate fuel x f again ns n i) (iterate enough x g again ns n i)
  unfolding iterate
  same_iterate zero x f g again ns i h s = same_refl _
  same_iterate (suc n) x f g again ns i h s =
      same_after (iteration fuel x f ns i s) (iteration enough x g ns i s) _ _ (same_iteration x f g ns i h s) (same_iterate n x f g again again (i +ℤ pos 1) h)

  -- ---- statements, given what calls do

  abbrev SameCalls : (f g : List ℕ → Place → List ℤ → List Note → State → Called) → Type 0
  SameCalls f g = (x : List ℕ) (p : Place) (ns : List ℤ) (b : List Note) (s : State) → SameCall (f x p ns b s) (g x p ns b s)

  module _ (call recall : List ℕ → Place → List ℤ → List Note → State → Called) (calls : SameCalls call recall) where
    abbrev under : List Reduce → Setting
    under rs = record { reduces = rs; fuel = fuel; call = call }

    abbrev over : List Reduce → Setting
    over rs = record { reduces = rs; fuel = enough; call = recall }

    same_two_calls : (rs : List Reduce) (x f : Name) (ns : List ℤ) (y g : Name) (ms : List ℤ) (b : List Note) → SameRuns (two_calls (under rs) x f ns y g ms b) (two_calls (over rs) x f ns y g ms b)
    same_two_calls rs x f ns y g ms b s =
        same_with_call _ _ (λ v t. with_call (call g.text.items g.place ms [] t) (set v)) (λ v t. with_call (recall g.text.items g.place ms [] t) (set v)) (calls f.text.items f.place ns b s)
        (λ v t. same_with_call _ _ (set v) (set v) (calls g.text.items g.place ms [] t) (λ w u. same_refl _))
      where
        set : ℤ → ℤ → State → Ran
        set v w u = done (set_var y w (set_var x v u))

    mutual
      same_stmt : (rs : List Reduce) (st : Stmt) → SameRuns (run (under rs) st) (run (over rs) st)
      same_stmt rs (Let x e) s = same_refl _
      same_stmt rs (Set x e) s = same_refl _
      same_stmt rs (Put t a b e) s = same_refl _
      same_stmt rs (If' e p body q other) s =
          same_given e s _ _ (λ n. same_choose n s (block (run_all (under rs) body)) (block (run_all (under rs) other)) (block (run_all (over rs) body)) (block (run_all (over rs) other))
          (same_leave (length s.vars) _ _ (same_all rs body s)) (same_leave (length s.vars) _ _ (same_all rs other s)))
      same_stmt rs (While' e p body) s =
          same_turns (fuel + 1) (enough + 1) (omega arith) e (block (run_all (under rs) body)) (block (run_all (over rs) body)) (λ t. same_leave (length t.vars) _ _ (same_all rs body t)) s
      same_stmt rs (Loop' x a b p body) s =
          same_two a b s _ _ (λ i j. same_iterate (int_gap i j) x.text.items (run_all (under rs) body) (run_all (over rs) body) [] [] i (same_all rs body) s)
      same_stmt rs (Par' place x a b carry_place carries reduces p body) s =
          same_two a b s _ _ (λ i j. same_wide (too_wide i j) place _ _ s (same_caught (left_in body) _ _
          (same_iterate (int_gap i j) x.text.items (run_all (under reduces.items) body) (run_all (over reduces.items) body) (Chance ∷ []) [] i (same_all reduces.items body) s)))
      same_stmt rs (Fold x e) s = same_refl _
      same_stmt rs (Call x f) s =
          same_args f.args.items s _ _ (λ ns. same_with_call _ _ (λ v t. done (set_var x v t)) (λ v t. done (set_var x v t)) (calls f.callee.text.items f.callee.place ns [] s) (λ v t. same_refl _))
      same_stmt rs (Both x f y g) s =
          same_args f.args.items s _ _ (λ ns. same_args g.args.items s _ _ (λ ms. same_two_calls rs x f.callee ns y g.callee ms (Chance ∷ []) s))
      same_stmt rs (Print place e) s = same_refl _
      same_stmt rs (Emit place t) s = same_refl _
      same_stmt rs (Leave x e) s = same_refl _
      same_stmt rs (Fill f t r es) s = same_refl _

      same_all : {m : _} (rs : List Reduce) (row : Row_of-Stmt m) → SameRuns (run_all (under rs) row) (run_all (over rs) row)
      same_all rs end_of-Stmt s = same_refl _
      same_all rs (more_of-Stmt first rest) s = same_after _ _ _ _ (same_stmt rs first s) (same_all rs rest)

    same_list : (rs : List Reduce) (ss : List Stmt) → SameRuns (run_list (under rs) ss) (run_list (over rs) ss)
    same_list rs [] s = same_refl _
    same_list rs (first ∷ rest) s = same_after _ _ _ _ (same_stmt rs first s) (same_list rs rest)

    same_enter : (o : Option Func) (ns : List ℤ) (b : List Note) (s : State) → SameCall (enter (under []) o ns b s) (enter (over []) o ns b s)
    same_enter None ns b s = record { same = λ d. refl }
    same_enter (Some f) ns b s = record { same = λ d. ap (returned f.result s.vars) ((same_noted b _ _ (same_list [] f.body.items (record s { vars = bound f.params.items ns }))).same (begun d)) }
      where
        body : Ran
        body = noted b (run_list (under []) f.body.items (record s { vars = bound f.params.items ns }))

        begun : ((returned f.result s.vars body).ran.stop ≡ NoFuel → ⊥) → body.stop ≡ NoFuel → ⊥
        begun d e = d (ap (λ x. (go_on x body (λ u. given f.result u (λ n. done u))).stop) e ∙ e)

  -- ---- calls

  same_call_on : (s : State) (f g : State → Called) → ((t : State) → SameCall (f t) (g t)) → SameCall (call_on (tick fuel s).stop (tick fuel s) f) (call_on (tick enough s).stop (tick enough s) g)
  same_call_on s f g h = go (nat_lt s.ticks fuel) refl
    where
      go : (b : Bool) → nat_lt s.ticks fuel ≡ b → SameCall (call_on (tick fuel s).stop (tick fuel s) f) (call_on (tick enough s).stop (tick enough s) g)
      go true e =
          let lt : s.ticks < fuel = ltb-true s.ticks fuel e in
          let l : s.ticks < enough = omega arith in
          let q : nat_lt s.ticks enough ≡ true = grind (arith, nat_tests) in
          rw (e, q) (record { same = λ d. (h (record s { ticks = s.ticks + 1 })).same d })
      go false e = rw e (record { same = λ d. absurd (d refl) })

  same_call : (fs : List Func) (room : ℕ) → SameCalls (call_at fs fuel room) (call_at fs enough room)
  unfolding call_at
  same_call fs zero f p ns b s = same_call_on s _ _ (λ t. record { same = λ d. refl })
  same_call fs (suc room) f p ns b s = same_call_on s _ _ (same_enter (call_at fs fuel room) (call_at fs enough room) (same_call fs room) (func_of fs f) ns b)

  -- ---- programs

  pub same_at : (p : Program) (depth : ℕ) (rs : List Reduce) (body : List Stmt) → SameRuns (run_list (setting p fuel depth rs) body) (run_list (setting p enough depth rs) body)
  same_at p depth rs body = same_list (call_at p.funcs.items fuel (MAX_CALL_DEPTH - depth)) (call_at p.funcs.items enough (MAX_CALL_DEPTH - depth)) (same_call p.funcs.items _) rs body

  same_whole : (p : Program) (ts : List Table) → Same (whole_run p ts fuel) (whole_run p ts enough)
  unfolding whole_run
  same_whole p ts = same_after _ _ _ _ (same_refl (make_tables ts (input_cells p.tables.items ts) p.tables.items first_state)) (same_at p 0 [] p.main.items)

  pub same_meaning : (p : Program) (ts : List Table) → ((meaning p ts fuel).stop ≡ NoFuel → ⊥) → meaning p ts enough ≡ meaning p ts fuel
  unfolding meaning whole_run
  same_meaning p ts d = ap outcome_of ((same_whole p ts).same d)

  pub same_chances : (p : Program) (ts : List Table) → ((meaning p ts fuel).stop ≡ NoFuel → ⊥) → chances p ts enough ≡ chances p ts fuel
  unfolding meaning chances whole_run
  same_chances p ts d = ap (λ r. count_chances r.notes) ((same_whole p ts).same d)
