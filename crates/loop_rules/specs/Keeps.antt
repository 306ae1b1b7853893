-- The rules on where output and carries may stand: C7 in functions, C9 in the `par` loops of main.
use Rattle.std.specs.Prelude.{ℕ, zero, suc, List, [], ◌∷◌}
use Rattle.tp_value.specs.declared.Place.{Place}
use Rattle.loop_syntax.specs.declared.Carry.{Carry}
use Rattle.loop_rules.specs.declared.part.Part.{Part}
use Rattle.loop_rules.specs.declared.part.Part.TheVariants.{OfSize, OfFunc, OfMain}
use Rattle.loop_rules.specs.Sites.{Act, WritesCell, Shows, Parallel, Spot}

-- a place, where it is part of a function
abbrev pub in_function : Part → Place → List Place
in_function OfSize place = []
in_function OfFunc place = place ∷ []
in_function OfMain place = []

-- the word `carry`, where there is an item
abbrev pub carry_word : Part → Place → List Carry → List Place
carry_word part place [] = []
carry_word part place (item ∷ items) = in_function part place

-- a table write, a `print`, an `emit` or a `carry` in a function
abbrev pub unfit_for_functions : Act → Spot → List Place
unfit_for_functions (WritesCell table row_index column_index) spot =
    in_function spot.part table.place
unfit_for_functions (Shows place) spot = in_function spot.part place
unfit_for_functions (Parallel place carry_place loop) spot =
    carry_word spot.part carry_place loop.carries
unfit_for_functions _ spot = []

-- a place of main, where so many `par` loops are round it
abbrev pub in_par_of_main : Part → ℕ → Place → List Place
in_par_of_main OfSize pars place = []
in_par_of_main OfFunc pars place = []
in_par_of_main OfMain zero place = []
in_par_of_main OfMain (suc pars) place = place ∷ []

-- a `print` or an `emit` inside a `par` of main
abbrev pub shown_in_par : Act → Spot → List Place
shown_in_par (Shows place) spot = in_par_of_main spot.part spot.depth place
shown_in_par _ spot = []
