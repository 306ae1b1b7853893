-- A call sees no variables of its caller, and leaves them.
use Rattle.std.proofs.Common.{◌≡◌, ℕ, zero, suc, ℤ, List, [], Option, Some, None, Bool, true, false}
use Rattle.std.proofs.Common.{nat_lt, refl, ap, ◌∙◌}
use Rattle.tp_value.specs.declared.Place.{Place}
use Rattle.tp_value.specs.declared.Stop.{Stop}
use Rattle.tp_value.specs.declared.Stop.TheVariants.{Done, Left, Trap, NoFuel}
use Rattle.tp_value.specs.declared.TrapKind.TheVariants.{Deep}
use Rattle.loop_syntax.specs.declared.Func.{Func}
use Rattle.loop_rules.specs.Names.{func_of}
use Rattle.loop_meaning.specs.declared.value.Variable.{Variable}
use Rattle.loop_meaning.specs.State.{State, Note, Ran, trapped, noted, tick}
use Rattle.loop_meaning.specs.Statements.{Setting, Called}
use Rattle.loop_meaning.specs.Calls.{enter, no_value, call_on, call_at}
use Rattle.loop_meaning.specs.Told.{leaving}

with_vars : List Variable → Ran → Ran
with_vars vs r = record r { state = record r.state { vars = vs } }

tick_vars : (fuel : ℕ) (s : State) (vs : List Variable) → tick fuel (record s { vars = vs }) ≡ with_vars vs (tick fuel s)
unfolding with_vars
tick_vars fuel s vs = go (nat_lt s.ticks fuel) refl
  where
    go : (b : Bool) → nat_lt s.ticks fuel ≡ b → tick fuel (record s { vars = vs }) ≡ with_vars vs (tick fuel s)
    go true e = rw e refl
    go false e = rw e refl

on_vars : (r : Ran) (go : State → Called) (vs : List Variable) → ((u : State) → go (record u { vars = vs }) ≡ leaving vs (go u)) → (x : Stop) → call_on x (with_vars vs r) go ≡ leaving vs (call_on x r go)
unfolding with_vars
on_vars r go vs h Done = ap {A = Called} {B = Called} (λ c. record { value = c.value; ran = noted r.notes c.ran }) (h r.state)
on_vars r go vs h (Left n) = refl
on_vars r go vs h (Trap k p) = refl
on_vars r go vs h NoFuel = refl

counted_vars : (fuel : ℕ) (go : State → Called) (s : State) (vs : List Variable) → ((u : State) → go (record u { vars = vs }) ≡ leaving vs (go u))
    → call_on (tick fuel (record s { vars = vs })).stop (tick fuel (record s { vars = vs })) go ≡ leaving vs (call_on (tick fuel s).stop (tick fuel s) go)
unfolding with_vars
counted_vars fuel go s vs h = ap (λ (r : Ran). call_on r.stop r go) (tick_vars fuel s vs) ∙ on_vars (tick fuel s) go vs h (tick fuel s).stop

enter_vars : (k : Setting) (o : Option Func) (ns : List ℤ) (b : List Note) (vs : List Variable) (u : State) → enter k o ns b (record u { vars = vs }) ≡ leaving vs (enter k o ns b u)
enter_vars k None ns b vs u = refl
enter_vars k (Some f) ns b vs u = refl

pub call_vars : (fs : List Func) (fuel room : ℕ) (f : List ℕ) (p : Place) (ns : List ℤ) (b : List Note) (s : State) (vs : List Variable) → call_at fs fuel room f p ns b (record s { vars = vs }) ≡ leaving vs (call_at fs fuel room f p ns b s)
unfolding call_at
call_vars fs fuel zero f p ns b s vs = counted_vars fuel (λ u. no_value (trapped Deep p u)) s vs (λ u. refl)
call_vars fs fuel (suc room) f p ns b s vs = counted_vars fuel (enter (record { reduces = []; fuel = fuel; call = call_at fs fuel room }) (func_of fs f) ns b) s vs (enter_vars _ (func_of fs f) ns b vs)
