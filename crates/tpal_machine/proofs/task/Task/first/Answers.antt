use Rattle.std.proofs.Common.{subst, sym}
use Rattle.std.proofs.lemmas.Result.{IfOk-weaker}
use Rattle.tpal_machine.specs.Belonging.{RunsOn}
use Rattle.tpal_machine.proofs.Given.{first_of}
use Rattle.tpal_machine.proofs.task.Task.first.Goals as goal

pub returns-clause-belongs : goal.returns-clause-belongs
returns-clause-belongs c =
    let code = c.args.code.now in
    let runs =
    first_of code c.args.tables.items c.args.fuel c.blocks-blocks.ensures.right
    c.requires.tables in
    IfOk-weaker c.first_task.result _ _ (λ task same. subst (RunsOn code) (sym same) runs)
    c.first_task.ensures
