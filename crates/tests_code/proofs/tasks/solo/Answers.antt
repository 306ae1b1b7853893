use Rattle.std.proofs.Common.{List}
use Rattle.tp_value.specs.declared.values.Table.{Table}
use Rattle.loop_syntax.specs.declared.program.TableDecl.{TableDecl}
use Rattle.loop_meaning.specs.Meaning.{meaning}
use Rattle.scene_laws.specs.Tables.{AreHeld, AreNamed}
use Rattle.tests_code.specs.Owed.{given_to}
use Rattle.tests_code.proofs.GivenTables.{first_owes}
use Rattle.tests_code.proofs.tasks.solo.Goals as goal

-- the first task owes the program's meaning
pub solo_run-requires-clause-owes : goal.solo_run-requires-clause-owes
solo_run-requires-clause-owes c =
    let declared : List TableDecl = c.args.on.now.program.tables.items in
    let given : List Table = given_to declared in
    let named : AreNamed declared given =
    rw c.in_ok-tables.ensures.ok_part at c.in_ok-held.ensures.named in
    let held : AreHeld declared given c.in_ok-tables.tables.items =
    rw c.in_ok-tables.ensures.ok_part at c.in_ok-held.ensures.held in (
      meaning c.args.on.now.program given 1000000,
      first_owes c.args.on.now.program c.args.on.now.code c.in_ok-tables.tables.items c.new.result 1
          c.requires.owes named held c.new.ensures,
    )
