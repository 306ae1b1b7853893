use Rattle.tpal_tool.proofs.GivenTables.{given_tables}
use Rattle.tpal_tool.proofs.inputs.tables_of.Goals as goal

pub returns-in-Ok-clause-tables : goal.returns-in-Ok-clause-tables
returns-in-Ok-clause-tables c = given_tables c.args.text.now c.in-Ok.given.items c.in-Ok.ensures.tables
