-- What a call means, as far as a task tells it: a tick, then a trap or the body of the function,
-- whose value is that of its result.
use Rattle.std.proofs.Common.{◌≡◌, ℕ, suc, Bool, true, false, cond, List, [], ◌∷◌, ◌++◌, Some, refl}
use Rattle.std.proofs.Common.{sym, ap, ◌∙◌, append-nil}
use Rattle.std.specs.Prelude.{ℤ, pos}
use Rattle.beat_count.specs.Ticks.{is_tick_allowed, ticked}
use Rattle.tp_value.specs.declared.Place.{Place}
use Rattle.tp_value.specs.declared.TrapKind.TheVariants.{Deep}
use Rattle.tp_value.specs.declared.Stop.{Stop}
use Rattle.tp_value.specs.declared.Stop.TheVariants.{Done, Left, Trap, NoFuel}
use Rattle.loop_syntax.specs.declared.Expr.{Expr}
use Rattle.loop_syntax.specs.declared.Func.{Func}
use Rattle.loop_syntax.specs.declared.Name.{Name}
use Rattle.loop_rules.specs.Names.{func_of}
use Rattle.loop_meaning.specs.declared.value.Answer.{Answer}
use Rattle.loop_meaning.specs.declared.value.Answer.TheVariants.{Number, Traps}
use Rattle.loop_meaning.specs.declared.value.Variable.{Variable}
use Rattle.loop_meaning.specs.Calls.{bound, number_in, returned, enter, call_on, no_value, call_at}
use Rattle.loop_meaning.specs.Expressions.{eval}
use Rattle.loop_meaning.specs.State as meaning
use Rattle.loop_meaning.specs.State.{Note, Ran, done, trapped, out_of_fuel, noted, after, go_on}
use Rattle.loop_meaning.specs.State.{tick}
use Rattle.loop_meaning.specs.Statements.{Called, Setting, given, given_answer, run_list, set_var}
use Rattle.loop_meaning.specs.Statements.{with_call}
use Rattle.scene_laws.proofs.Scenes.Results.{Result, end_by, fin, noting, noting_then, result}
use Rattle.scene_laws.proofs.Scenes.Results.{then}
use Rattle.scene_laws.proofs.Scenes.Results.{then_end, after_then}

-- the state at the end of a function: a number is its only variable
abbrev pub with_value : ℤ → meaning.State → meaning.State
with_value n s = record s { vars = record { name = []; value = n } ∷ [] }

abbrev first_value : List Variable → ℤ
first_value [] = pos 0
first_value (u ∷ us) = u.value

abbrev pub value_of : meaning.State → ℤ
value_of s = first_value s.vars

-- the end of a function whose result is given by an expression
abbrev pub value_then : Expr → meaning.State → Result
value_then e s = then (result (given e s (λ n. done (with_value n s)))) fin

-- a state with the variables of the caller again
abbrev pub back_with : List Variable → meaning.State → meaning.State
back_with vs s = record s { vars = vs }

-- goes on in the caller with the value of a call
abbrev pub going_back : List Variable → (ℤ → meaning.State → Ran) → (meaning.State → Result) →
    meaning.State → Result
going_back vs g k s = then (result (g (value_of s) (back_with vs s))) k

-- how the statements of a function run that may call at so many levels
abbrev pub body_set : List Func → ℕ → ℕ → Setting
body_set fs fuel room = record { reduces = []; fuel = fuel; call = call_at fs fuel room }

-- the state at the begin of a function
abbrev pub entered_with : Func → List ℤ → meaning.State → meaning.State
entered_with f ns s = record s { vars = bound f.params.items ns }

-- ---- the result

module _ (e : Expr) (vs : List Variable) (r : Ran) (g : ℤ → meaning.State → Ran)
    (k : meaning.State → Result) where
  -- the end of the function's run, where the run of its body stopped so
  abbrev ending : Stop → Ran
  ending x = go_on x r (λ s. given e s (λ n. done s))

  -- the same where the result has this answer
  abbrev end_at : Answer → Ran
  end_at a =
      noted r.notes (given_answer a (eval r.state.vars r.state.tables e).notes r.state
      (λ n. done r.state))

  abbrev ends_with : Answer → Ran → Result
  ends_with a end =
      then (result (record end { state = back_with vs end.state }))
      (λ s. then (result (g (number_in a) s)) k)

  abbrev read : List Note
  read = (eval r.state.vars r.state.tables e).notes

  answered : (a : Answer) →
      ends_with a (end_at a)
      ≡ then
      (noting r.notes (then
      (result (given_answer a read r.state (λ n. done (with_value n r.state)))) fin))
      (going_back vs g k)
  answered (Number n) =
      ap (λ (ns : List Note). noting (r.notes ++ ns) (then (result (g n (back_with vs r.state))) k))
      (sym (append-nil (read ++ [])))
  answered (Traps kind place) = refl

  stopped : (x : Stop) → r.stop ≡ x →
      ends_with (eval r.state.vars r.state.tables e).answer (ending x)
      ≡ then (then_end r.notes (end_by x r.state) (value_then e)) (going_back vs g k)
  stopped Done is = answered (eval r.state.vars r.state.tables e).answer
  stopped (Left number) is = rw is refl
  stopped (Trap kind place) is = rw is refl
  stopped NoFuel is = rw is refl

  pub returned_is : then (result (with_call (returned e vs r) g)) k
      ≡ then (then (result r) (value_then e)) (going_back vs g k)
  returned_is = after_then (returned e vs r).ran (g (returned e vs r).value) k ∙ stopped r.stop refl

-- the body of a function, its result, and what follows in the caller
pub enter_is : (set : Setting) (f : Func) (ns : List ℤ) (begin : List Note) (u : meaning.State)
    (g : ℤ → meaning.State → Ran) (k : meaning.State → Result)
    → then (result (with_call (enter set (Some f) ns begin u) g)) k
    ≡ noting begin (then
    (then (result (run_list set f.body.items (entered_with f ns u))) (value_then f.result))
    (going_back u.vars g k))
enter_is set f ns begin u g k =
    let body : Result = result (run_list set f.body.items (entered_with f ns u)) in
    returned_is f.result u.vars (noted begin (run_list set f.body.items (entered_with f ns u))) g k
    ∙ (ap (λ (r : Result). then r (going_back u.vars g k))
    (noting_then begin body (value_then f.result))
    ∙ noting_then begin (then body (value_then f.result)) (going_back u.vars g k))

-- ---- the tick

module _ (fuel : ℕ) (st : meaning.State) (go : meaning.State → Called) (g : ℤ → meaning.State → Ran)
    (k : meaning.State → Result) where
  abbrev later : meaning.State
  later = record st { ticks = ticked fuel st.ticks }

  abbrev ticked_by : Bool → Ran
  ticked_by b = cond b (done later) (out_of_fuel later)

  tick_by : (b : Bool) →
      then (result (with_call (call_on (ticked_by b).stop (ticked_by b) go) g)) k
      ≡ then (result (after (ticked_by b) (λ u. with_call (go u) g))) k
  tick_by true =
      after_then (noted [] (go later).ran) (g (go later).value) k
      ∙ sym (after_then (go later).ran (g (go later).value) k)
  tick_by false = refl

  pub tick_is : then (result (with_call (call_on (tick fuel st).stop (tick fuel st) go) g)) k
      ≡ then (result (after (tick fuel st) (λ u. with_call (go u) g))) k
  tick_is = tick_by (is_tick_allowed fuel st.ticks)

module _ (fs : List Func) (fuel : ℕ) (f : List ℕ) (p : Place) (ns : List ℤ) (begin : List Note)
    (st : meaning.State) (g : ℤ → meaning.State → Ran) (k : meaning.State → Result) where
  -- a call where no level is left
  pub deep_call : then (result (with_call (call_at fs fuel 0 f p ns begin st) g)) k
      ≡ then (result (after (tick fuel st) (trapped Deep p))) k
  unfolding call_at
  deep_call = tick_is fuel st (λ u. no_value (trapped Deep p u)) g k

  -- another call
  pub open_call : (room : ℕ) (func : Func) → func_of fs f ≡ Some func →
      then (result (with_call (call_at fs fuel (suc room) f p ns begin st) g)) k
      ≡ then
      (result (after (tick fuel st) (λ u.
      with_call (enter (body_set fs fuel room) (Some func) ns begin u) g)))
      k
  unfolding call_at
  open_call room func is =
      tick_is fuel st (enter (body_set fs fuel room) (func_of fs f) ns begin) g k
      ∙ ap
      (λ o.
      then
      (result (after (tick fuel st) (λ u.
      with_call (enter (body_set fs fuel room) o ns begin u) g)))
      k)
      is

-- ---- variables round a call

-- a variable is set in front of a call that runs, or behind it
module _ (fs : List Func) (fuel : ℕ) (f : List ℕ) (p : Place) (ns : List ℤ) (st : meaning.State)
    (g : ℤ → meaning.State → Ran) (k : meaning.State → Result) (x : Name) (v : ℤ) where
  abbrev set : meaning.State
  set = set_var x v st

  abbrev setting : ℤ → meaning.State → Ran
  setting u s = g u (set_var x v s)

  pub set_before : (room : ℕ) (func : Func) → func_of fs f ≡ Some func
      → then (result (with_call (call_at fs fuel (suc room) f p ns [] set) g)) k
      ≡ then (result (with_call (call_at fs fuel (suc room) f p ns [] st) setting)) k
  set_before room func is =
      open_call fs fuel f p ns [] set g k room func is
      ∙ (by_tick (is_tick_allowed fuel st.ticks)
      ∙ sym (open_call fs fuel f p ns [] st setting k room func is))
    where
      enters : (ℤ → meaning.State → Ran) → meaning.State → Ran
      enters h u = with_call (enter (body_set fs fuel room) (Some func) ns [] u) h

      late : meaning.State → meaning.State
      late s = record s { ticks = ticked fuel s.ticks }

      by_tick : (b : Bool)
          → then (result (after (cond b (done (late set)) (out_of_fuel (late set))) (enters g))) k
          ≡ then (result (after (cond b (done (late st)) (out_of_fuel (late st))) (enters setting)))
          k
      by_tick true =
          enter_is (body_set fs fuel room) func ns [] (late set) g k
          ∙ sym (enter_is (body_set fs fuel room) func ns [] (late st) setting k)
      by_tick false = refl
