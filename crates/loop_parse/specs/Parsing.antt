-- What ends the reading of a program.
use Rattle.std.specs.Prelude.{◌≡◌, ℕ, List, [], ◌∷◌, Result, Ok, Err}
use Rattle.loop_syntax.specs.declared.program.Program.{Program}
use Rattle.loop_syntax.specs.Tree.{ProgramTree, program_of}
use Rattle.loop_parse.specs.declared.reader.Unparsed.{Unparsed}
use Rattle.loop_parse.specs.declared.reader.Unparsed.TheVariants as halts
use Rattle.loop_parse.specs.declared.parser.ParseFault.{ParseFault}
use Rattle.loop_parse.specs.declared.parser.ParseFault.TheVariants as parsing
use Rattle.loop_parse.specs.Terms.{Token, seen}
use Rattle.loop_parse.specs.Text.{place_at}

-- the program, where nothing stands after it, else a fault of the form
abbrev pub Finishes : ProgramTree → List Token → Result Program ParseFault → Type 0
Finishes tree rest (Ok found) = (rest ≡ []) × (program_of found ≡ tree)
Finishes tree [] (Err fault) = ⊥
Finishes tree (t ∷ ts) (Err fault) = fault ≡ parsing.Form t.place

-- the fault where reading stopped
abbrev pub IsPlaced : List ℕ → Unparsed → ParseFault → Type 0
IsPlaced source (halts.Form rest) fault =
    fault ≡ parsing.Form (place_at source (seen source rest.now))
IsPlaced source (halts.Deep rest) fault =
    fault ≡ parsing.Deep (place_at source (seen source rest.now))
IsPlaced source halts.NoMemory fault = fault ≡ parsing.NoMemory
