-- What calls do.
use Rattle.std.specs.Prelude.{ℕ, zero, suc, ◌-◌, ℤ, pos, List, [], ◌∷◌, Option, Some, None}
use Rattle.tp_value.specs.declared.limits.TheConstants.{MAX_CALL_DEPTH}
use Rattle.tp_value.specs.declared.Place.{Place}
use Rattle.tp_value.specs.declared.TrapKind.TheVariants.{Deep}
use Rattle.tp_value.specs.declared.Stop.{Stop}
use Rattle.tp_value.specs.declared.Stop.TheVariants.{Done, Left, Trap, NoFuel}
use Rattle.loop_syntax.specs.declared.Name.{Name}
use Rattle.loop_syntax.specs.declared.Expr.{Expr}
use Rattle.loop_syntax.specs.declared.Reduce.{Reduce}
use Rattle.loop_syntax.specs.declared.Func.{Func}
use Rattle.loop_syntax.specs.declared.Program.{Program}
use Rattle.loop_rules.specs.Names.{func_of}
use Rattle.loop_meaning.specs.declared.value.Answer.{Answer}
use Rattle.loop_meaning.specs.declared.value.Answer.TheVariants.{Number, Traps}
use Rattle.loop_meaning.specs.declared.value.Variable.{Variable}
use Rattle.loop_meaning.specs.State.{State, Note, Ran, done, trapped, noted, after, tick}
use Rattle.loop_meaning.specs.Expressions.{eval}
use Rattle.loop_meaning.specs.Statements.{given, Called, Setting, run_list}

-- the parameters with their arguments
abbrev pub bound : List Name → List ℤ → List Variable
bound [] ns = []
bound (x ∷ xs) [] = []
bound (x ∷ xs) (n ∷ ns) = record { name = x.text.items; value = n } ∷ bound xs ns

abbrev pub number_in : Answer → ℤ
number_in (Number n) = n
number_in (Traps k p) = pos 0

-- the end of a function whose body ended so, with its result; the caller's variables are visible
-- again
abbrev pub returned : Expr → List Variable → Ran → Called
returned e vs r = record {
  value = number_in (eval r.state.vars r.state.tables e).answer;
  ran =
      let end : Ran = after r (λ s. given e s (λ n. done s)) in
      record end { state = record end.state { vars = vs } };
}

-- the body of a function, with fresh variables
abbrev pub enter : Setting → Option Func → List ℤ → List Note → State → Called
enter k None ns begin s = record { value = pos 0; ran = noted begin (done s) }
enter k (Some f) ns begin s =
    returned f.result s.vars
    (noted begin (run_list k f.body.items (record s { vars = bound f.params.items ns })))

abbrev pub no_value : Ran → Called
no_value r = record { value = pos 0; ran = r }

-- goes on to the body of a call where the tick was counted
abbrev pub call_on : Stop → Ran → (State → Called) → Called
call_on Done r go =
    let c : Called = go r.state in
    record { value = c.value; ran = noted r.notes c.ran }
call_on (Left n) r go = no_value r
call_on (Trap k p) r go = no_value r
call_on NoFuel r go = no_value r

-- a call where this many more calls may be open: it counts a tick, and then traps where there is no
-- room for it
unfoldable pub call_at : List Func → ℕ → ℕ → List ℕ → Place → List ℤ → List Note → State → Called
call_at fs fuel zero f p ns begin s =
    let t : Ran = tick fuel s in call_on t.stop t (λ u. no_value (trapped Deep p u))
call_at fs fuel (suc room) f p ns begin s =
    let t : Ran = tick fuel s in
    call_on t.stop t
    (enter (record { reduces = []; fuel = fuel; call = call_at fs fuel room }) (func_of fs f) ns
    begin)

-- how statements run at a depth of calls, where main has depth 0, under a reduce list
abbrev pub setting : Program → ℕ → ℕ → List Reduce → Setting
setting p fuel depth rs =
    record { reduces = rs; fuel = fuel; call = call_at p.funcs.items fuel (MAX_CALL_DEPTH - depth) }
