-- The rules of disjoint writes, as the search for the first broken one asks for them.
use Rattle.std.specs.Prelude.{ℕ, Bool, false, ◌||◌, ◌&&◌, List, [], ◌∷◌, bytes_eq}
use Rattle.tp_value.specs.declared.Place.{Place}
use Rattle.loop_rules.specs.declared.rule.Rule.TheVariants.{OuterVariables, Reductions, TableWrites}
use Rattle.loop_rules.specs.declared.rule.Rule.TheVariants.{TableReads}
use Rattle.loop_rules.specs.declared.rule.Rule.TheVariants.{CarryLists, ReadingCalls, Leaves}
use Rattle.loop_rules.specs.Sites.{Loop, Act, Calls, Spot}
use Rattle.loop_rules.specs.Scopes.{at}
use Rattle.loop_rules.specs.Reductions.{any_loop, outer_set, misreduced}
use Rattle.loop_rules.specs.Carries.{carries, miswritten, misread, miscarried}
use Rattle.loop_rules.specs.Leaves.{misleft}
use Rattle.loop_rules.specs.Search.{Asked}
use Rattle.loop_check.specs.declared.reader.Reader.{Reader}

-- whether a function is among these with a table that a `par` round carries
abbrev pub reads_carried : List Reader → List ℕ → List Loop → Bool
reads_carried [] callee rounds = false
reads_carried (reader ∷ readers) callee rounds =
    (bytes_eq reader.func.now callee && any_loop (carries reader.table.now) rounds)
    || reads_carried readers callee rounds

-- a call to one of these functions inside a `par` that carries its table
abbrev pub calls_reader : List Reader → Act → Spot → List Place
calls_reader readers (Calls callee arguments) spot =
    at callee (reads_carried readers callee.text.items spot.rounds)
calls_reader readers _ spot = []

-- the rules that `check` asks for, where these functions read these tables
abbrev pub checked_rules : List Reader → List Asked
checked_rules readers =
    record { rule = OuterVariables; broken = outer_set }
    ∷ record { rule = Reductions; broken = misreduced }
    ∷ record { rule = TableWrites; broken = miswritten }
    ∷ record { rule = TableReads; broken = misread }
    ∷ record { rule = CarryLists; broken = miscarried }
    ∷ record { rule = ReadingCalls; broken = calls_reader readers }
    ∷ record { rule = Leaves; broken = misleft }
    ∷ []
