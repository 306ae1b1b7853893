use Rattle.loop_meaning.proofs.Telling.{keeps_output, call_counts, statements_still}
use Rattle.loop_meaning.proofs.Telling.{iterations_still}
use Rattle.loop_meaning.proofs.laws.only_prints_print.Goals as goal

pub returns-clause-statements : goal.returns-clause-statements
returns-clause-statements c = λ depth rs body s only h. keeps_output c.args.program.now c.args.fuel depth only rs body s h

pub returns-clause-untouched : goal.returns-clause-untouched
returns-clause-untouched c = λ prints depth rs body s only h. statements_still c.args.program.now c.args.fuel depth only prints rs body h s

pub returns-clause-iterations : goal.returns-clause-iterations
returns-clause-iterations c = λ prints depth rs body x again ns a b n i s only h. iterations_still c.args.program.now c.args.fuel depth only prints rs body h x again ns a b n i s

pub returns-clause-output : goal.returns-clause-output
returns-clause-output c = λ depth rs f place ns begin s only. (call_counts c.args.program.now c.args.fuel depth only rs f place ns begin s).1

pub returns-clause-tables : goal.returns-clause-tables
returns-clause-tables c = λ depth rs f place ns begin s only. (call_counts c.args.program.now c.args.fuel depth only rs f place ns begin s).0

pub returns-clause-writes : goal.returns-clause-writes
returns-clause-writes c = λ depth rs f place ns begin s only. (call_counts c.args.program.now c.args.fuel depth only rs f place ns begin s).2
