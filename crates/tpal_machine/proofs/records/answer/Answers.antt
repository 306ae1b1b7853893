use Rattle.std.proofs.Common.{subst, sym}
use Rattle.tpal_machine.specs.Belonging.{RunsOn}
use Rattle.tpal_machine.proofs.Given.{answered_runs}
use Rattle.tpal_machine.proofs.records.answer.Goals as goal

pub returns-clause-belongs : goal.returns-clause-belongs
returns-clause-belongs c = λ code belongs. subst (RunsOn code) (sym c.given.ensures) (answered_runs code c.args.task c.args.rec c.requires.waits belongs)
