-- How a run of a program must end, over the tables that it is given in tests.
use Rattle.std.specs.Prelude.{pos, List, [], ◌∷◌, codes}
use Rattle.tp_value.specs.declared.values.Table.{Table}
use Rattle.loop_syntax.specs.declared.program.Program.{Program}
use Rattle.loop_syntax.specs.declared.program.TableDecl.{TableDecl}
use Rattle.loop_syntax.specs.declared.program.TableDecl.TheVariants.{Input}
use Rattle.loop_meaning.specs.Meaning.{meaning}
use Rattle.tpal_machine.specs.declared.ends.Ending.{Ending}
use Rattle.tpal_machine.specs.declared.ends.Ending.TheVariants.{Root}

-- a table of one column
abbrev pub column : Table
column = record {
  name = codes "a";
  rows = 4;
  cols = 1;
  cells = pos 1 ∷ pos 2 ∷ pos 3 ∷ pos 4 ∷ [];
}

-- what a program is given: the column, where its one table is an input, and else nothing
abbrev pub given_to : List TableDecl → List Table
given_to (Input x ∷ []) = column ∷ []
given_to declared = []

-- with a fuel of a million ticks
abbrev pub owed : Program → Ending
owed program = Root (meaning program (given_to program.tables.items) 1000000)
