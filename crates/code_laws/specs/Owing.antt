-- What the code of a program owes.
use Rattle.std.specs.Prelude.{ℕ, false, List}
use Rattle.slices.specs.Holding.{Holding}
use Rattle.std.specs.List.{All}
use Rattle.tp_value.specs.declared.values.Table.{Table}
use Rattle.loop_syntax.specs.declared.program.Program.{Program}
use Rattle.loop_meaning.specs.Meaning.{chances, meaning}
use Rattle.tpal_syntax.specs.Listing.{Listing}
use Rattle.tpal_machine.specs.declared.ends.Ending.TheVariants.{Root}
use Rattle.tpal_machine.specs.Owes.{Owes}
use Rattle.tpal_machine.specs.State.{first_state}
use Rattle.scene_laws.specs.Tables.{AreDeclared, AreHeld, AreNamed, IsTable}

-- A code has a program's tables, and its first task owes the program's meaning, whatever is given
-- and whatever is promoted, for every heartbeat and every fuel. As long as it isn't diverted, it
-- enters at least as many promotion points as the program has chances.
pub record OwesMeaning (program : Program) (listing : Listing) : Type 0 where
  pub declared : AreDeclared program.tables.items listing.tables
  pub promoted : (given : List Table) (holdings : List Holding) (heartbeat fuel : ℕ)
      → All IsTable given
      → AreNamed program.tables.items given
      → AreHeld program.tables.items given holdings
      → Owes listing heartbeat false (chances program given fuel) (first_state holdings fuel)
      (Root (meaning program given fuel))
