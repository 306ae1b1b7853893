-- How calls end.
use Rattle.std.proofs.Common.{◌≡◌, ℕ, zero, suc, ◌≤◌, ℤ, List, [], ◌∷◌, Option, Some, None, refl}
use Rattle.std.proofs.Common.{sym, ap, subst, drop, length, ◌<◌, ◌++◌, get_or, drop-cons}
use Rattle.std.proofs.Common.{append_assoc, ◌+◌, ◌∙◌, arith}
use mathlib.Core.Path.{fun_ext}
use Rattle.std.proofs.Math.ListN.{drop_of_length-le}
use Rattle.tp_value.specs.declared.TrapKind.TheVariants.{Deep}
use Rattle.tp_value.specs.declared.Place.{Place}
use Rattle.tp_value.specs.declared.Stop.{Stop}
use Rattle.tp_value.specs.declared.Stop.TheVariants.{Done, Left, Trap, NoFuel}
use Rattle.loop_syntax.specs.declared.Func.{Func}
use Rattle.loop_syntax.specs.declared.Name.{Name}
use Rattle.loop_syntax.specs.declared.Expr.{Expr}
use Rattle.loop_meaning.specs.declared.value.Answer.TheVariants.{Number}
use Rattle.loop_meaning.specs.Expressions.{eval}
use Rattle.loop_meaning.specs.State.{State, Note, Ran, done, after, go_on, tick, noted, trapped}
use Rattle.loop_meaning.specs.Statements.{Setting, Called, given, given_all, run_list, two_calls}
use Rattle.loop_meaning.specs.Statements.{with_call}
use Rattle.loop_meaning.specs.Statements.{set_var}
use Rattle.loop_meaning.specs.Calls.{call_at, call_on, no_value, enter, bound}
use Rattle.loop_rules.specs.Names.{func_of}
use Rattle.loop_meaning.specs.Ends.{Ends, EndAlike, CallEnds}
use Rattle.loop_meaning.proofs.Runs.{alike_refl, alike_trans, after_alike, given_number}

call_ended : (c : Called) (r : Ran) (x : Stop) (v : ℤ) (s : State) → c ≡ no_value r → Ends r x s → (x ≡ Done → ⊥) → CallEnds c x v s
call_ended c r x v s e f d = rw e (record { ran = f; value = λ h. absurd (d h) })

on_stop : (r : Ran) (x : Stop) (go : State → Called) → (x ≡ Done → ⊥) → call_on x r go ≡ no_value r
on_stop r Done go d = absurd (d refl)
on_stop r (Left n) go d = refl
on_stop r (Trap k p) go d = refl
on_stop r NoFuel go d = refl

on_spent : (r : Ran) (x : Stop) (v : ℤ) (s : State) (go : State → Called) → Ends r x s → (x ≡ Done → ⊥) → CallEnds (call_on r.stop r go) x v s
on_spent r x v s go f d = call_ended _ r x v s (subst (λ y. call_on y r go ≡ no_value r) (sym f.stop) (on_stop r x go d)) f d

on_done : (r : Ran) (t : State) (go : State → Called) (x : Stop) (v : ℤ) (s : State) → Ends r Done t → CallEnds (go t) x v s → CallEnds (call_on r.stop r go) x v s
on_done r t go x v s f c = rw (f.stop, f.state) (record { ran = record { stop = c.ran.stop; state = c.ran.state }; value = c.value })

module _ (fs : List Func) (fuel room : ℕ) (f : List ℕ) (p : Place) (ns : List ℤ) (b : List Note) (s : State) where
  pub call_spent : (x : Stop) (v : ℤ) (t : State) → Ends (tick fuel s) x t → (x ≡ Done → ⊥) → CallEnds (call_at fs fuel room f p ns b s) x v t
  unfolding call_at
  call_spent x v t e d = elim room as (λ m. CallEnds (call_at fs fuel m f p ns b s) x v t) [ zero ↦ on_spent _ x v t _ e d | suc m ↦ on_spent _ x v t _ e d ]

  pub call_deep : (v : ℤ) (t : State) → room ≡ 0 → Ends (tick fuel s) Done t → CallEnds (call_at fs fuel room f p ns b s) (Trap Deep p) v t
  unfolding call_at
  call_deep v t z e =
      rw z (on_done (tick fuel s) t (λ u. no_value (trapped Deep p u)) (Trap Deep p) v t e (record { ran = record { stop = refl; state = refl }; value = λ h. absurd (cc) }))

  pub call_enters : (r : ℕ) (o : Option Func) (t : State) (x : Stop) (v : ℤ) (u : State) → room ≡ suc r → func_of fs f ≡ o → Ends (tick fuel s) Done t → CallEnds (enter (record { reduces = []; fuel = fuel; call = call_at fs fuel r }) o ns b t) x v u → CallEnds (call_at fs fuel room f p ns b s) x v u
  unfolding call_at
  call_enters r o t x v u z q e c = rw (z, q) (on_done (tick fuel s) t (enter (record { reduces = []; fuel = fuel; call = call_at fs fuel r }) o ns b) x v u e c)

-- two calls end alike, with one value
pub record CallAlike (c d : Called) : Type 0 where
  pub ran : EndAlike c.ran d.ran
  pub value : c.value ≡ d.value

noted_after : (b : List Note) (r : Ran) (x : Stop) (go : State → Ran) → EndAlike (go_on x (noted b r) go) (go_on x r go)
noted_after b r Done go = record { stop = refl; state = refl }
noted_after b r (Left n) go = record { stop = refl; state = refl }
noted_after b r (Trap k p) go = record { stop = refl; state = refl }
noted_after b r NoFuel go = record { stop = refl; state = refl }

enter_notes : (k : Setting) (o : Option Func) (ns : List ℤ) (b : List Note) (s : State) → CallAlike (enter k o ns b s) (enter k o ns [] s)
enter_notes k None ns b s = record { ran = record { stop = refl; state = refl }; value = refl }
enter_notes k (Some f) ns b s =
    let r : Ran = run_list k f.body.items (record s { vars = bound f.params.items ns }) in
    let e : EndAlike (after (noted b r) (λ t. given f.result t (λ n. done t))) (after (noted [] r) (λ t. given f.result t (λ n. done t))) =
    alike_trans (noted_after b r r.stop _) (record { stop = sym (noted_after [] r r.stop _).stop; state = sym (noted_after [] r r.stop _).state }) in
    record { ran = record { stop = e.stop; state = ap {A = State} {B = State} (λ t. record t { vars = s.vars }) e.state }; value = refl }

on_alike : (x : Stop) (r : Ran) (f g : State → Called) → ((s : State) → CallAlike (f s) (g s)) → CallAlike (call_on x r f) (call_on x r g)
on_alike Done r f g h = record { ran = record { stop = (h r.state).ran.stop; state = (h r.state).ran.state }; value = (h r.state).value }
on_alike (Left n) r f g h = record { ran = alike_refl _; value = refl }
on_alike (Trap k p) r f g h = record { ran = alike_refl _; value = refl }
on_alike NoFuel r f g h = record { ran = alike_refl _; value = refl }

-- what is noted where a body begins plays no part in how a call ends
pub call_notes : (fs : List Func) (fuel room : ℕ) (f : List ℕ) (p : Place) (ns : List ℤ) (b : List Note) (s : State) → CallAlike (call_at fs fuel room f p ns b s) (call_at fs fuel room f p ns [] s)
unfolding call_at
call_notes fs fuel zero f p ns b s = record { ran = alike_refl _; value = refl }
call_notes fs fuel (suc room) f p ns b s = on_alike _ _ _ _ (enter_notes _ (func_of fs f) ns b)

-- the same of the calls of a `both`
pub both_notes : (k : Setting) (x f : Name) (ns : List ℤ) (y g : Name) (ms : List ℤ) (b : List Note) (s : State) → CallAlike (k.call f.text.items f.place ns b s) (k.call f.text.items f.place ns [] s) → EndAlike (two_calls k x f ns y g ms b s) (two_calls k x f ns y g ms [] s)
both_notes k x f ns y g ms b s h =
    let c : Called = k.call f.text.items f.place ns b s in
    let d : Called = k.call f.text.items f.place ns [] s in
    let rest = λ (v : ℤ) (t : State). with_call (k.call g.text.items g.place ms [] t) (λ w u. done (set_var y w (set_var x v u))) in
    subst (λ v. EndAlike (after c.ran (rest c.value)) (after d.ran (rest v))) h.value (after_alike c.ran d.ran (rest c.value) (rest c.value) h.ran (λ t. alike_refl _))

bound_nil : (xs : List Name) → bound xs [] ≡ []
bound_nil [] = refl
bound_nil (x ∷ xs) = refl

pub bound_end : (xs : List Name) (ns : List ℤ) (i : ℕ) → length ns ≤ i → bound (drop i xs) (drop i ns) ≡ []
bound_end xs ns i h = rw (drop_of_length-le ns h) (bound_nil (drop i xs))

-- ---- arguments

-- the arguments from the one at i on, where that has a number
module _ (es : List Expr) (i : ℕ) (e : Expr) (s : State) (n : ℤ) (lt : i < length es) (is : e ≡ get_or es i e) (h : (eval s.vars s.tables e).answer ≡ Number n) where
  first_given : (go : List ℤ → Ran) → EndAlike (given_all (drop i es) s go) (given_all (drop (suc i) es) s (λ ns. go (n ∷ ns)))
  first_given go = rw (drop-cons es i e lt, ← is) (given_number e s n _ h)

  -- behind those before it
  pub next_given : (ms more : List ℤ) (go : List ℤ → Ran) → more ≡ ms ++ n ∷ [] → EndAlike (given_all (drop i es) s (λ ns. go (ms ++ ns))) (given_all (drop (i + 1) es) s (λ ns. go (more ++ ns)))
  next_given ms more go q =
      let k : i + 1 ≡ suc i = omega arith in
      let next : (ns : List ℤ) → go (ms ++ n ∷ ns) ≡ go (more ++ ns) = λ ns. ap go (sym (append_assoc ms (n ∷ []) ns) ∙ ap (λ l. l ++ ns) (sym q)) in
      rw k (subst (λ f. EndAlike (given_all (drop i es) s (λ ns. go (ms ++ ns))) (given_all (drop (suc i) es) s f)) (fun_ext next) (first_given (λ ns. go (ms ++ ns))))
