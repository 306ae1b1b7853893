use Rattle.sum_code.specs.Sum.{prints_sum}
use Rattle.tests_core.proofs.orders.happen.Goals as goal

pub apply-requires-clause-sides : goal.apply-requires-clause-sides
apply-requires-clause-sides c = c.sides_fit.ensures (prints_sum 100) c.requires.sound
