-- The search over functions.
use Rattle.std.specs.Prelude.{List, [], ◌∷◌, Option}
use Rattle.loop_syntax.specs.declared.Func.{Func}
use Rattle.loop_rules.specs.Names.{texts}
use Rattle.loop_rules.specs.Sites.{in_list}
use Rattle.loop_rules.specs.declared.fault.Fault.{Fault}
use Rattle.loop_check.specs.declared.reader.Reader.{Reader}
use Rattle.loop_rules.specs.Search.{lowest_in}
use Rattle.loop_check.specs.Search.{checked_rules}
use Rattle.loop_check.specs.Walk.{spot}

-- the first of what was found and what the bodies of functions break
abbrev pub lowest_of_funcs : List Reader → Option Fault → List Func → Option Fault
lowest_of_funcs readers found [] = found
lowest_of_funcs readers found (func ∷ funcs) =
    lowest_of_funcs readers
    (lowest_in (checked_rules readers) found
    (in_list (spot (texts func.params.items) [] []) func.body.items))
    funcs
