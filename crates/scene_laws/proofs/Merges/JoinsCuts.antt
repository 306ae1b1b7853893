-- Where iterations of a `par` that aren't begun are cut in two, from the state that a task shows.
use Rattle.std.proofs.Common.{ℕ, ◌≤◌, [], ◌∷◌, refl}
use Rattle.std.specs.Prelude.{ℤ, pos, ◌+ℤ◌}
use Rattle.tp_value.specs.declared.limits.TheConstants.{MAX_CALL_DEPTH}
use Rattle.loop_syntax.specs.declared.ParLoop.{ParLoop}
use Rattle.loop_syntax.specs.declared.Program.{Program}
use Rattle.loop_meaning.specs.State.{Chance, State}
use Rattle.frame_machine.specs.Iterating.{CutLoop, LoopCut, LoopInRange}
use Rattle.frame_machine.specs.Modes.{Modes}

-- The lower iterations go on from a state, and the upper ones begin with its variables and tables.
-- Each iteration but the first of a part notes a chance.
abbrev pub cut_here : ℕ → ℤ → ℕ → ℕ → State → CutLoop
cut_here room m below above s = record {
  room = room;
  first = m;
  below = below;
  above = above;
  state = s;
  begin = [];
  again = Chance ∷ [];
  upper_begin = [];
  upper_again = Chance ∷ [];
  vars = s.vars;
  tables = s.tables;
}

pub may_cut_here : (p : Program) (outer : Modes) (l : ParLoop) (fuel room : ℕ) (m : ℤ)
    (below above : ℕ) (s : State) → room ≤ MAX_CALL_DEPTH
    → LoopInRange p l s m (m +ℤ pos below) → s.ticks ≤ fuel
    → LoopCut p outer l fuel (cut_here room m below above s)
may_cut_here p outer l fuel room m below above s low range within = record {
  calls = low;
  range = range;
  within = within;
  round = record { names = refl; values = λ x plain. refl };
  given = λ t.
      record { rows = refl; cols = refl; size = refl; cells = λ i j seen has. refl };
}
