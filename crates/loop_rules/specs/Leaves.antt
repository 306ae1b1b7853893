-- The rule on `leave`, C12.
use Rattle.std.specs.Prelude.{ℕ, Bool, true, false, ◌||◌, ◌&&◌, not, List, [], ◌∷◌, ◌++◌, bytes_eq}
use Rattle.tp_value.specs.declared.Place.{Place}
use Rattle.loop_syntax.specs.declared.Name.{Name}
use Rattle.loop_rules.specs.Names.{is_in}
use Rattle.loop_rules.specs.Sites.{Loop, Act, Leaves, LeavesAll, Spot}
use Rattle.loop_rules.specs.Scopes.{at}
use Rattle.loop_rules.specs.Reductions.{any_loop}

abbrev pub is_empty : {A : Type 0} → List A → Bool
is_empty [] = true
is_empty (first ∷ rest) = false

-- whether there is no `par` to leave, or the nearest one carries or reduces
abbrev pub cannot_leave : List Loop → Bool
cannot_leave [] = true
cannot_leave (loop ∷ loops) = not (is_empty loop.carries) || not (is_empty loop.reduces)

-- whether one of the visible variables is declared inside the body of the nearest `par`
abbrev pub is_inner : List (List ℕ) → List Loop → List ℕ → Bool
is_inner scope [] variable = false
is_inner scope (loop ∷ loops) variable = is_in scope variable && not (is_in loop.outside variable)

-- whether another name is among these
abbrev pub has_other : List (List ℕ) → List ℕ → Bool
has_other [] name = false
has_other (first ∷ rest) name = not (bytes_eq first name) || has_other rest name

-- of the targets of one `par`: those that are declared outside the body of another `par` round it,
-- those that are the variable of a loop round it, and those behind another one
abbrev pub bad_lefts : List (List ℕ) → List Name → Spot → List Place
bad_lefts before [] spot = []
bad_lefts before (target ∷ targets) spot =
    at target
    (any_loop (λ loop. is_in loop.outside target.text.items) spot.rounds
    || is_in spot.loops target.text.items
    || has_other before target.text.items)
    ++ bad_lefts (target.text.items ∷ before) targets spot

-- a `leave` that has no `par` round it, whose nearest `par` carries or reduces, or whose target is
-- declared inside the body of that `par`, as the variable of a loop in there is, and its own; and
-- of all the `leave` statements of a `par` those that are amiss by what is round it or before them
abbrev pub misleft : Act → Spot → List Place
misleft (Leaves target) spot =
    at target
    (cannot_leave spot.rounds || is_inner spot.scope spot.rounds target.text.items)
misleft (LeavesAll targets) spot = bad_lefts [] targets spot
misleft _ spot = []
