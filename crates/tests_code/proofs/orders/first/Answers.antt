use Rattle.std.proofs.Common.{List}
use Rattle.tp_value.specs.declared.values.Table.{Table}
use Rattle.loop_syntax.specs.declared.program.TableDecl.{TableDecl}
use Rattle.scene_laws.specs.Tables.{AreHeld, AreNamed}
use Rattle.tests_code.specs.Owed.{given_to, owed}
use Rattle.tests_code.proofs.GivenTables.{first_owes}
use Rattle.tests_code.proofs.orders.first.Goals as goal

-- the code owes the meaning, however many promotion points it enters
pub returns-clause-sound : goal.returns-clause-sound
returns-clause-sound c =
    let declared : List TableDecl = c.args.on.now.program.tables.items in
    let given : List Table = given_to declared in
    let named : AreNamed declared given =
    rw c.in_ok-tables.ensures.ok_part at c.in_ok-held.ensures.named in
    let held : AreHeld declared given c.in_ok-tables.tables.items =
    rw c.in_ok-tables.ensures.ok_part at c.in_ok-held.ensures.held in
    c.in_ok-first.ensures.sound (owed c.args.on.now.program)
    (first_owes c.args.on.now.program c.args.on.now.code c.in_ok-tables.tables.items c.new.result
    c.args.plan.heartbeat c.requires.owes named held c.new.ensures)
