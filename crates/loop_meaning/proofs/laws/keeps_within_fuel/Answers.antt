use Rattle.loop_meaning.proofs.Spending.{meaning_ticks, meaning_spent}
use Rattle.loop_meaning.proofs.laws.keeps_within_fuel.Goals as goal

pub returns-clause-ticks : goal.returns-clause-ticks
returns-clause-ticks c = meaning_ticks c.args.program.now c.args.tables.now c.args.fuel

pub returns-clause-spent : goal.returns-clause-spent
returns-clause-spent c = meaning_spent c.args.program.now c.args.tables.now c.args.fuel
