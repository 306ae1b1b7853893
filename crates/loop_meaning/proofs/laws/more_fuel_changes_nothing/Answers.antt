use Rattle.loop_meaning.proofs.MoreFuel.{same_at, same_meaning, same_chances}
use Rattle.loop_meaning.proofs.laws.more_fuel_changes_nothing.Goals as goal

pub returns-clause-outcome : goal.returns-clause-outcome
returns-clause-outcome c = λ more l d. same_meaning c.args.fuel more l c.args.program.now c.args.tables.now d

pub returns-clause-chances : goal.returns-clause-chances
returns-clause-chances c = λ more l d. same_chances c.args.fuel more l c.args.program.now c.args.tables.now d

pub returns-clause-statements : goal.returns-clause-statements
returns-clause-statements c = λ more l depth rs body s d. (same_at c.args.fuel more l c.args.program.now depth rs body s).same d
