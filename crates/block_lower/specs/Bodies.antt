-- What the code of main's statements, or of a function's, stands on.
use Rattle.std.specs.Prelude.{ℕ, ◌+◌, ◌≤◌, List, [], ◌∷◌}
use Rattle.tp_value.specs.declared.limits.TheConstants.{MAX_DECLARED_VARIABLES}
use Rattle.tp_value.specs.declared.limits.TheConstants.{MAX_ACTIVATION_CELLS}
use Rattle.block_lower.specs.declared.body.Body.{Body}
use Rattle.block_lower.specs.declared.body.Callee.{Callee}
use Rattle.scene_laws.specs.Layout.{value_cell, Entry, Activation}

abbrev pub entry : Callee → Entry
entry c = record { name = c.name.items; label = c.label; parameters = c.parameters; size = c.size }

abbrev pub entries : List Callee → List Entry
entries [] = []
entries (c ∷ cs) = entry c ∷ entries cs

-- the activation of a body, where these are the tables
abbrev pub activation : Body → List (List ℕ) → Activation
activation on tables =
    record {
      tables = tables;
      functions = entries on.callees.items;
      calls = on.quiet_calls;
      dispatch = on.dispatch;
      most = on.most;
      size = on.size;
    }

-- behind the cells of its variables, the activation of a body has room for so many values
pub record HasRoomFor (on : Body) (n : ℕ) : Type 0 where
  pub few : on.most ≤ MAX_DECLARED_VARIABLES
  pub room : value_cell on.most + n ≤ on.size
  pub fits : on.size ≤ MAX_ACTIVATION_CELLS
