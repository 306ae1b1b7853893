-- The rules on names: C1, what they stand for and that calls fit, and C10, that nothing sets a
-- loop's variable.
use Rattle.std.specs.Prelude.{ℕ, Bool, true, false, cond, ◌||◌, ◌&&◌, not, List, [], ◌∷◌, ◌++◌}
use Rattle.std.specs.Prelude.{length, nat_lt, nat_eq, bytes_eq, Option, Some, None}
use Rattle.tp_value.specs.declared.Place.{Place}
use Rattle.loop_syntax.specs.declared.Name.{Name}
use Rattle.loop_syntax.specs.declared.Reduce.{Reduce}
use Rattle.loop_syntax.specs.declared.Func.{Func}
use Rattle.loop_rules.specs.Names.{is_in, texts, func_names, first_named, func_of}
use Rattle.loop_rules.specs.Sites.{Act, DeclaresTable, DeclaresFunc, Declares, Uses, Assigns, Folds}
use Rattle.loop_rules.specs.Sites.{AssignsBoth, NamesTable, Calls, Parallel, Leaves, Spot}

-- the place of a name, where the test holds
abbrev pub at : Name → Bool → List Place
at name test = cond test (name.place ∷ []) []

-- whether one place comes before another
abbrev pub is_before : Place → Place → Bool
is_before place other =
    nat_lt place.line other.line || (nat_eq place.line other.line && nat_lt place.col other.col)

-- whether that table is declared, and not after that name
abbrev pub is_table_by : Option Name → Name → Bool
is_table_by None name = false
is_table_by (Some table) name = not (is_before name.place table.place)

-- whether that function is declared before that name
abbrev pub is_func_before : Option Func → Name → Bool
is_func_before None name = false
is_func_before (Some func) name = is_before func.name.place name.place

-- whether a name is visible, as a variable, a table or a function
abbrev pub is_visible : Spot → List ℕ → Bool
is_visible spot name =
    is_in spot.scope name || (is_in (texts spot.tables) name || is_in (func_names spot.funcs) name)

-- whether there is no such function, or it has another number of parameters
abbrev pub misfits : Option Func → ℕ → Bool
misfits None arguments = true
misfits (Some func) arguments = not (nat_eq (length func.params.items) arguments)

abbrev pub unseen_targets : List (List ℕ) → List Reduce → List Place
unseen_targets variables [] = []
unseen_targets variables (reduce ∷ reduces) =
    at reduce.target (not (is_in variables reduce.target.text.items))
    ++ unseen_targets variables reduces

-- a name that is used and isn't visible as what it is used for; one that is declared while it is
-- visible, or as a table or a function after another one of that name; a call that misfits; one
-- target twice in a `both`
abbrev pub misnamed : Act → Spot → List Place
misnamed (DeclaresTable table) spot =
    at table (is_in (texts spot.tables) table.text.items
    || is_func_before (func_of spot.funcs table.text.items) table)
misnamed (DeclaresFunc func) spot =
    at func.name (is_in (func_names spot.funcs) func.name.text.items
    || is_table_by (first_named spot.tables func.name.text.items) func.name)
misnamed (Declares name) spot = at name (is_visible spot name.text.items)
misnamed (Uses name) spot = at name (not (is_in spot.scope name.text.items))
misnamed (Assigns name) spot = at name (not (is_in spot.scope name.text.items))
misnamed (Folds name) spot = at name (not (is_in spot.scope name.text.items))
misnamed (Leaves name) spot = at name (not (is_in spot.scope name.text.items))
misnamed (AssignsBoth name other) spot = at other (bytes_eq name.text.items other.text.items)
misnamed (NamesTable table) spot = at table (not (is_in (texts spot.tables) table.text.items))
misnamed (Calls func arguments) spot =
    at func (misfits (func_of spot.funcs func.text.items) arguments)
misnamed (Parallel place carry_place loop) spot = unseen_targets spot.scope loop.reduces
misnamed _ spot = []

abbrev pub loop_targets : List (List ℕ) → List Reduce → List Place
loop_targets variables [] = []
loop_targets variables (reduce ∷ reduces) =
    at reduce.target (is_in variables reduce.target.text.items) ++ loop_targets variables reduces

-- a loop's variable as a target
abbrev pub loop_variable_set : Act → Spot → List Place
loop_variable_set (Assigns name) spot = at name (is_in spot.loops name.text.items)
loop_variable_set (Folds name) spot = at name (is_in spot.loops name.text.items)
loop_variable_set (Parallel place carry_place loop) spot = loop_targets spot.loops loop.reduces
loop_variable_set _ spot = []
