use Rattle.tests_code.specs.Owed.{owed}
use Rattle.tests_code.proofs.orders.happen.Goals as goal

pub apply-requires-clause-sides : goal.apply-requires-clause-sides
apply-requires-clause-sides c = c.sides_fit.ensures (owed c.args.on.now.program) c.requires.sound
