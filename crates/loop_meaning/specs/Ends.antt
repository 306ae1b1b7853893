-- How the evaluator's memory stands for a state, and its answers for the end of a run.
use Rattle.std.specs.Prelude.{◌≡◌, ℤ, List}
use Rattle.tp_value.specs.declared.Stop.{Stop}
use Rattle.tp_value.specs.declared.Stop.TheVariants.{Done, Trap}
use Rattle.loop_syntax.specs.declared.Expr.{Expr}
use Rattle.loop_meaning.specs.declared.setting.Setting.{Setting}
use Rattle.loop_meaning.specs.declared.memory.Memory.{Memory}
use Rattle.loop_meaning.specs.declared.argument.Numbers.{Numbers}
use Rattle.loop_meaning.specs.declared.argument.Numbers.TheVariants.{All, Traps}
use Rattle.loop_meaning.specs.State.{State, Ran}
use Rattle.loop_meaning.specs.Statements as Meant
use Rattle.loop_meaning.specs.Statements.{Called, given_all}
use Rattle.loop_meaning.specs.Calls.{setting}

abbrev pub setting_of : Setting → Meant.Setting
setting_of k = setting k.program.now k.fuel k.depth k.reduces.now

abbrev pub state_of : Memory → State
state_of m =
    record {
      vars = m.vars.items;
      tables = m.tables.items;
      output = m.output.items;
      ticks = m.ticks;
    }

-- the run ends with this stop, in this state
pub record Ends (r : Ran) (x : Stop) (s : State) : Type 0 where
  pub stop : r.stop ≡ x
  pub state : r.state ≡ s

-- two runs end alike
pub record EndAlike (r q : Ran) : Type 0 where
  pub stop : r.stop ≡ q.stop
  pub state : r.state ≡ q.state

-- a call ends with this stop, in this state, and where it is done with this value
pub record CallEnds (c : Called) (x : Stop) (v : ℤ) (s : State) : Type 0 where
  pub ran : Ends c.ran x s
  pub value : x ≡ Done → c.value ≡ v

-- the arguments are these numbers, or one of them traps so
abbrev pub NumbersOf : List Expr → State → Numbers → Type 0
NumbersOf es s (All v) = (go : List ℤ → Ran) → EndAlike (given_all es s go) (go v.items)
NumbersOf es s (Traps k p) = (go : List ℤ → Ran) → Ends (given_all es s go) (Trap k p) s
