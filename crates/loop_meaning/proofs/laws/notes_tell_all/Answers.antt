use Rattle.loop_meaning.proofs.Telling.{statements_tell, iterations_tell, call_tells}
use Rattle.loop_meaning.proofs.laws.notes_tell_all.Goals as goal

pub returns-clause-statements : goal.returns-clause-statements
returns-clause-statements c = λ depth rs body. statements_tell c.args.program.now c.args.fuel depth rs body

pub returns-clause-iterations : goal.returns-clause-iterations
returns-clause-iterations c = λ depth rs body x again ns a b n i. iterations_tell c.args.program.now c.args.fuel depth rs body x again ns a b n i

pub returns-clause-calls : goal.returns-clause-calls
returns-clause-calls c = λ depth rs f place ns begin a. call_tells c.args.program.now c.args.fuel depth rs f place ns begin a
