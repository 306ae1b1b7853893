-- What a source text parses as.
use Rattle.std.specs.Prelude.{ℕ, List}
use Rattle.loop_syntax.specs.declared.program.Program.{Program}
use Rattle.loop_syntax.specs.Tree.{program_of}
use Rattle.loop_parse.specs.Text.{Reads, TextFault, FirstTextFault, IsOnlyTree}

-- the text parses as this program's tree, as no other one, and has no fault
abbrev pub ParsesAs : List ℕ → Program → Type 0
ParsesAs source program =
    Reads source (program_of program)
    × IsOnlyTree source (program_of program)
    × ((fault : TextFault) → FirstTextFault source fault → ⊥)
