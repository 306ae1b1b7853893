-- The rules on variables round a `par`: C2 on those that its body may not set, C3 on those that it
-- reduces.
use Rattle.std.specs.Prelude.{ℕ, Bool, true, false, ◌||◌, ◌&&◌, not, List, [], ◌∷◌, ◌++◌, Option}
use Rattle.std.specs.Prelude.{Some, None}
use Rattle.tp_value.specs.declared.Place.{Place}
use Rattle.tp_value.specs.declared.Op.{Op}
use Rattle.tp_value.specs.declared.Op.TheVariants.{Add, Mul, Min, Max, Affine}
use Rattle.loop_syntax.specs.declared.Reduce.{Reduce}
use Rattle.loop_rules.specs.Names.{is_in, operator_of}
use Rattle.loop_rules.specs.Sites.{Loop, Act, Declares, Uses, Assigns, Folds, Parallel, Leaves}
use Rattle.loop_rules.specs.Sites.{Spot}
use Rattle.loop_rules.specs.Scopes.{at}

abbrev pub any_loop : (Loop → Bool) → List Loop → Bool
any_loop test [] = false
any_loop test (loop ∷ loops) = test loop || any_loop test loops

-- a variable declared outside the body of a `par` round, as target of `=`, `call` or `both`
abbrev pub outer_set : Act → Spot → List Place
outer_set (Assigns variable) spot =
    at variable (any_loop (λ loop. is_in loop.outside variable.text.items) spot.rounds)
outer_set _ spot = []

abbrev pub same_op : Op → Op → Bool
same_op Add Add = true
same_op Mul Mul = true
same_op Min Min = true
same_op Max Max = true
same_op Affine Affine = true
same_op _ _ = false

abbrev pub is_op : Op → Option Op → Bool
is_op op None = false
is_op op (Some other) = same_op op other

abbrev pub some_op : Option Op → Bool
some_op None = false
some_op (Some op) = true

-- whether a `par` reduces that variable
abbrev pub reduced : List ℕ → Loop → Bool
reduced variable loop = some_op (operator_of loop.reduces variable)

abbrev pub nearest_reduces : List Loop → List ℕ → Bool
nearest_reduces [] variable = false
nearest_reduces (loop ∷ loops) variable = reduced variable loop

-- whether a `par` round reduces the variable with another operator
abbrev pub other_operator : Reduce → Loop → Bool
other_operator reduce loop =
    reduced reduce.target.text.items loop
    && not (is_op reduce.op (operator_of loop.reduces reduce.target.text.items))

-- whether the variable is declared outside the body of a `par` round that doesn't reduce it with
-- that operator
abbrev pub reduced_otherwise : Reduce → Loop → Bool
reduced_otherwise reduce loop =
    is_in loop.outside reduce.target.text.items
    && not (is_op reduce.op (operator_of loop.reduces reduce.target.text.items))

abbrev pub bad_targets : List (List ℕ) → List Reduce → List Loop → List Place
bad_targets before [] rounds = []
bad_targets before (reduce ∷ reduces) rounds =
    at reduce.target
    (any_loop (other_operator reduce) rounds || any_loop (reduced_otherwise reduce) rounds
    || is_in before reduce.target.text.items)
    ++ bad_targets (reduce.target.text.items ∷ before) reduces rounds

-- a reduced variable inside the body other than in `fold` or in a `reduce` list with its operator;
-- a `fold` whose nearest `par` doesn't reduce its target, or that has none; a `reduce` list that
-- doesn't agree with those round or names a variable twice
abbrev pub misreduced : Act → Spot → List Place
misreduced (Uses variable) spot = at variable (any_loop (reduced variable.text.items) spot.rounds)
misreduced (Assigns variable) spot =
    at variable (any_loop (reduced variable.text.items) spot.rounds)
misreduced (Declares variable) spot =
    at variable (any_loop (reduced variable.text.items) spot.rounds)
misreduced (Leaves variable) spot =
    at variable (any_loop (reduced variable.text.items) spot.rounds)
misreduced (Folds variable) spot =
    at variable (not (nearest_reduces spot.rounds variable.text.items))
misreduced (Parallel place carry_place loop) spot = bad_targets [] loop.reduces spot.rounds
misreduced _ spot = []
