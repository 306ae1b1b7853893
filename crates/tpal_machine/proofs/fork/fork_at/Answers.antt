use Rattle.std.proofs.Common.{subst}
use Rattle.stack_marks.specs.Causes.{CutCause}
use Rattle.stack_marks.specs.Stacks.{StackValue}
use Rattle.tpal_machine.proofs.fork.fork_at.Goals as goal

pub returns-in-Err-clause-err : goal.returns-in-Err-clause-err
returns-in-Err-clause-err c =
    let taken = rw c.deref_mut.ensures.value at c.replace-stack.ensures.value in
    c.cut_trouble.ensures c.args.machine.value.stack c.args.mark _
    (subst (λ (st : StackValue). CutCause c.in-Err.fault st c.args.mark.base c.args.mark.cells)
    taken c.in-Err.ensures.cause)
