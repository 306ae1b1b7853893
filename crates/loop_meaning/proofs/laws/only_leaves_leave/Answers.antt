use Rattle.loop_meaning.proofs.OnlyLeaves.{statements_stay, iterations_stay, calls_stay}
use Rattle.loop_meaning.proofs.OnlyLeaves.{meaning_stays}
use Rattle.loop_meaning.proofs.laws.only_leaves_leave.Goals as goal

pub returns-clause-statements : goal.returns-clause-statements
returns-clause-statements c = λ depth rs body s n only l. statements_stay c.args.program.now c.args.fuel only depth rs body s n l

pub returns-clause-iterations : goal.returns-clause-iterations
returns-clause-iterations c = λ depth rs body x again ns m i s n only l. iterations_stay c.args.program.now c.args.fuel only depth rs body x again ns m i s n l

pub returns-clause-calls : goal.returns-clause-calls
returns-clause-calls c = λ depth rs f place ns begin s n only. calls_stay c.args.program.now c.args.fuel only depth rs f place ns begin s n

pub returns-clause-outcome : goal.returns-clause-outcome
returns-clause-outcome c = λ n only l. meaning_stays c.args.program.now c.args.fuel only c.args.tables.now n l
