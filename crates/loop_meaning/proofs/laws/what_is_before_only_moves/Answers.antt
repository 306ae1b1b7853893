use Rattle.loop_meaning.proofs.Telling.{statements_move, iterations_move, call_moves}
use Rattle.loop_meaning.proofs.laws.what_is_before_only_moves.Goals as goal

pub returns-clause-statements : goal.returns-clause-statements
returns-clause-statements c = λ depth rs body. statements_move c.args.program.now c.args.fuel depth rs body

pub returns-clause-iterations : goal.returns-clause-iterations
returns-clause-iterations c = λ depth rs body x again ns a b n i. iterations_move c.args.program.now c.args.fuel depth rs body x again ns a b n i

pub returns-clause-calls : goal.returns-clause-calls
returns-clause-calls c = λ depth rs f place ns begin a. call_moves c.args.program.now c.args.fuel depth rs f place ns begin a
