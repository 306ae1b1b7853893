-- So do the calls in it: functions read only whole tables and write none.
use Rattle.frame_machine.proofs.Bends.{bent_straight, goes_straight, straight}
use Rattle.frame_machine.proofs.Following.{Follows, GoesOn, done_first, follows_after}
use Rattle.frame_machine.proofs.Following.{follows_alike, follows_tick, goes_done, later_after}
use Rattle.frame_machine.proofs.Following.{later_alike, later_tick, no_done, tick_no, tick_yes}
use Rattle.frame_machine.proofs.Moves.{agrees, moves_list}
use Rattle.frame_machine.proofs.Moving.{Base, Moves, Near, NearCall, moves_done, moves_given}
use Rattle.frame_machine.proofs.Moving.{moves_noted, moves_seq}
use Rattle.frame_machine.proofs.Owning.{Clear, Owns, demoted_all, demoted_owns, demoted_whole}
use Rattle.frame_machine.specs.Bodies.{FuncKeeps, FuncsKeep}
use Rattle.frame_machine.specs.Modes.{Modes, demoted}
use Rattle.frame_machine.specs.Parts.{Cells}
use native.Mathlib.Decide.{dec_lt}
use Rattle.loop_meaning.proofs.Runs.{after_done, after_stopped, alike_refl}
use Rattle.loop_meaning.specs.Calls.{bound, call_at, call_on, enter, no_value, number_in}
use Rattle.loop_meaning.specs.Ends.{EndAlike}
use Rattle.loop_meaning.specs.Expressions.{eval}
use Rattle.loop_meaning.specs.State.{Note, Ran, State, after, done, go_on, noted, tick, trapped}
use Rattle.loop_meaning.specs.Statements.{Called, given, run_list}
use Rattle.loop_rules.specs.Names.{func_of}
use Rattle.loop_syntax.specs.declared.Func.{Func}
use Rattle.std.proofs.Common.{List, None, Option, Some, [], ap, arith, refl}
use Rattle.std.proofs.Common.{subst, suc, sym, zero, ℕ, ℤ, ◌+◌, ◌<◌, ◌∙◌, ◌≡◌, ◌≤◌}
use Rattle.tp_value.specs.declared.Place.{Place}
use Rattle.tp_value.specs.declared.Stop.{Stop}
use Rattle.tp_value.specs.declared.Stop.TheVariants.{Done, Left, NoFuel, Trap}
use Rattle.tp_value.specs.declared.TrapKind.TheVariants.{Deep}

pub on_ran : (x : Stop) (r : Ran) (go : State → Called) → EndAlike (call_on x r go).ran (go_on x r (λ u. (go u).ran))
on_ran Done r go = record { stop = refl; state = refl }
on_ran (Left n) r go = alike_refl _
on_ran (Trap k p) r go = alike_refl _
on_ran NoFuel r go = alike_refl _

on_value : (x : Stop) (r : Ran) (go : State → Called) → x ≡ Done → (call_on x r go).value ≡ (go r.state).value
on_value x r go e = rw e refl

module _ (fuel t : ℕ) (o : List ℕ) (A : Cells) where
  none : List ℕ → Type 0
  none x = ⊥

  follows_base : (u v : State) → Base fuel t o A u v → Follows fuel t (Base fuel t o A) (tick fuel u) (tick fuel v)
  follows_base u v b =
      let c : v.ticks ≡ u.ticks + t = b.ticks in
      follows_tick fuel t (Base fuel t o A) u v c b.fits (λ l m. record { tables = b.tables; output = b.output; ticks = omega (arith, c); fits = omega (arith, m) })

  within_base : (u v : State) → Base fuel t o A u v → u.ticks ≤ fuel
  within_base u v b = let c : v.ticks ≡ u.ticks + t = b.ticks in let d : v.ticks ≤ fuel = b.fits in omega arith

  near_call_on : (go : State → Called) → NearCall fuel t o A go → NearCall fuel t o A (λ s. call_on (tick fuel s).stop (tick fuel s) go)
  near_call_on go q = record {
    later = λ u. later_alike fuel u _ (after (tick fuel u) (λ w. (go w).ran)) (on_ran (tick fuel u).stop (tick fuel u) go) (later_after fuel u (tick fuel u) (λ w. (go w).ran) (later_tick fuel u) q.later);
    vars = λ u d. vars u (dec_lt u.ticks fuel) d;
    near = λ u v b.
        follows_alike fuel t (Base fuel t o A) _ (after (tick fuel u) (λ w. (go w).ran)) _ (after (tick fuel v) (λ w. (go w).ran))
        (on_ran (tick fuel u).stop (tick fuel u) go) (on_ran (tick fuel v).stop (tick fuel v) go)
        (follows_after fuel t (Base fuel t o A) (tick fuel u) (tick fuel v) (λ w. (go w).ran) (λ w. (go w).ran) (follows_base u v b) (λ d. (later_tick fuel u).keeps (within_base u v b) (goes_done d)) q.later q.near);
    value = λ u v b i d.
        let both = on_ran (tick fuel u).stop (tick fuel u) go in
        let first : (tick fuel u).stop ≡ Done = done_first (tick fuel u) (λ w. (go w).ran) (sym both.stop ∙ d) in
        let end = after_done (tick fuel u) (tick fuel u).state (λ w. (go w).ran) (record { stop = first; state = refl }) in
        let total : (go (tick fuel u).state).ran.state.ticks + t ≤ fuel = rw (both.state ∙ end.state) at i in
        let later : (tick fuel u).state.ticks ≤ (go (tick fuel u).state).ran.state.ticks = (q.later (tick fuel u).state).later ((later_tick fuel u).keeps (within_base u v b) (goes_done first)) in
        let step = (follows_base u v b).inside (omega arith) in
        on_value (tick fuel v).stop (tick fuel v) go (step.0 ∙ first)
        ∙ q.value (tick fuel u).state (tick fuel v).state (step.2 (goes_done first)) total (sym end.stop ∙ sym both.stop ∙ d)
        ∙ sym (on_value (tick fuel u).stop (tick fuel u) go first);
  }
    where
      vars : (u : State) → Dec (u.ticks < fuel) → GoesOn (call_on (tick fuel u).stop (tick fuel u) go).ran.stop → (call_on (tick fuel u).stop (tick fuel u) go).ran.state.vars ≡ u.vars
      vars u (yes l) d =
          let both = on_ran (tick fuel u).stop (tick fuel u) go in
          let v : State = record u { ticks = u.ticks + 1 } in
          let end = after_done (tick fuel u) v (λ w. (go w).ran) (tick_yes fuel u l) in
          ap (λ s. s.vars) (both.state ∙ end.state) ∙ q.vars v (subst GoesOn (both.stop ∙ end.stop) d)
      vars u (no l) d =
          let both = on_ran (tick fuel u).stop (tick fuel u) go in
          let end = after_stopped (tick fuel u) NoFuel _ (λ w. (go w).ran) (tick_no fuel u (omega arith)) (λ z. no_done z) in
          absurd (subst GoesOn (both.stop ∙ end.stop) d)

  near_deep : (p : Place) → NearCall fuel t o A (λ u. no_value (trapped Deep p u))
  near_deep p = record {
    later = λ u. record { later = λ w. omega arith; keeps = λ w e. w };
    vars = λ u d. refl;
    near = λ u v b. record {
      inside = λ i. (refl, b.ticks, λ e. b);
      beyond = λ q. absurd (let c : v.ticks ≡ u.ticks + t = b.ticks in let d : v.ticks ≤ fuel = b.fits in omega arith);
    };
    value = λ u v b i d. refl;
  }

  module _ (m : Modes) (clear : Clear A m) (Safe : List ℕ → Type 0) where
    mode : Modes
    mode y = demoted (m y)

    near_enter : (call : List ℕ → Place → List ℤ → List Note → State → Called) → ((f : List ℕ) → Safe f → (p : Place) (ns : List ℤ) (b : List Note) → NearCall fuel t o A (call f p ns b))
        → (g : Option Func) → FuncKeeps Safe m g → (ns : List ℤ) (b : List Note) → NearCall fuel t o A (enter (record { reduces = []; fuel = fuel; call = call }) g ns b)
    near_enter call calls None fine ns b = record {
      later = λ u. record { later = λ w. omega arith; keeps = λ w e. w };
      vars = λ u d. refl;
      near = λ u v r. record {
        inside = λ i. (refl, r.ticks, λ e. r);
        beyond = λ q. absurd (let c : v.ticks ≡ u.ticks + t = r.ticks in let d : v.ticks ≤ fuel = r.fits in omega arith);
      };
      value = λ u v r i d. refl;
    }
    near_enter call calls (Some f) fine ns b = record {
      later = λ u. record { later = (whole.later (start u)).later; keeps = (whole.later (start u)).keeps };
      vars = λ u d. refl;
      near = λ u v r. let g = whole.near (start u) (start v) (starts u v r) in record {
        inside = λ i. (
          (g.inside i).0,
          (g.inside i).1,
          λ d. let q = ((g.inside i).2 d).base in record { tables = q.tables; output = q.output; ticks = q.ticks; fits = q.fits },
        );
        beyond = g.beyond;
      };
      value = λ u v r i d.
          let first : (body (start u)).stop ≡ Done = done_first (body (start u)) end d in
          let e = after_done (body (start u)) (body (start u)).state end (record { stop = first; state = refl }) in
          let total : (end (body (start u)).state).state.ticks + t ≤ fuel = rw e.state at i in
          let later : (body (start u)).state.ticks ≤ (end (body (start u)).state).state.ticks = (moves_end.later (body (start u)).state).later ((moves.later (start u)).keeps (within_base u v r) (goes_done first)) in
          let q = ((moves.near (start u) (start v) (starts u v r)).inside (omega arith)).2 (goes_done first) in
          ap number_in (agree (body (start u)).state (body (start v)).state q);
    }
      where
        cl : Clear A (λ y. demoted (m y))
        cl y e = clear y (demoted_whole (m y) e)

        start : State → State
        start s = record s { vars = bound f.params.items ns }

        body : State → Ran
        body s = noted b (run_list (record { reduces = []; fuel = fuel; call = call }) f.body.items s)

        end : State → Ran
        end s = given f.result s (λ n. done s)

        starts : (u v : State) → Base fuel t o A u v → Near fuel t o A straight (Owns A (λ y. demoted (m y))) (start u) (start v)
        starts u v r = record {
          vars = sym (bent_straight (bound f.params.items ns));
          claim = λ y. demoted_owns (A y) (m y) (bound f.params.items ns);
          base = record { tables = r.tables; output = r.output; ticks = r.ticks; fits = r.fits };
        }

        moves : Moves fuel t o A straight (λ x. ⊥) (Owns A (λ y. demoted (m y))) body
        moves = moves_noted fuel t o A straight (λ x. ⊥) (Owns A (λ y. demoted (m y))) b _
            (moves_list fuel t o A [] straight goes_straight Safe call calls (λ x. ⊥) [] (λ y. demoted (m y)) cl (λ y. demoted_all (λ x. ⊥) (m y)) f.body.items fine.0)

        agree : (u v : State) → Near fuel t o A straight (Owns A (λ y. demoted (m y))) u v → (eval v.vars v.tables f.result).answer ≡ (eval u.vars u.tables f.result).answer
        agree = agrees fuel t o A [] straight goes_straight Safe call calls (λ x. ⊥) (λ y. demoted (m y)) cl f.result fine.1

        moves_end : Moves fuel t o A straight (λ x. ⊥) (Owns A (λ y. demoted (m y))) end
        moves_end = moves_given fuel t o A straight (λ x. ⊥) (Owns A (λ y. demoted (m y))) f.result (λ n s. done s) agree (λ n. moves_done fuel t o A straight (λ x. ⊥) (Owns A (λ y. demoted (m y))))

        whole : Moves fuel t o A straight (λ x. ⊥) (Owns A (λ y. demoted (m y))) (λ s. after (body s) end)
        whole = moves_seq fuel t o A straight (λ x. ⊥) (Owns A (λ y. demoted (m y))) body end moves moves_end

    module _ (fs : List Func) (safe : FuncsKeep Safe m fs) where
      call_zero : (f : List ℕ) (p : Place) (ns : List ℤ) (b : List Note) → NearCall fuel t o A (call_at fs fuel 0 f p ns b)
      unfolding call_at
      call_zero f p ns b = near_call_on (λ u. no_value (trapped Deep p u)) (near_deep p)

      call_suc : (room : ℕ) → ((f : List ℕ) → Safe f → (p : Place) (ns : List ℤ) (b : List Note) → NearCall fuel t o A (call_at fs fuel room f p ns b)) → (f : List ℕ) → Safe f → (p : Place) (ns : List ℤ) (b : List Note) → NearCall fuel t o A (call_at fs fuel (suc room) f p ns b)
      unfolding call_at
      call_suc room c f s p ns b = near_call_on (enter (record { reduces = []; fuel = fuel; call = call_at fs fuel room }) (func_of fs f) ns b) (near_enter (call_at fs fuel room) c (func_of fs f) (safe f s) ns b)

      pub near_call : (room : ℕ) (f : List ℕ) → Safe f → (p : Place) (ns : List ℤ) (b : List Note) → NearCall fuel t o A (call_at fs fuel room f p ns b)
      near_call zero f s p ns b = call_zero f p ns b
      near_call (suc room) f s p ns b = call_suc room (near_call room) f s p ns b
