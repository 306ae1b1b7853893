use Rattle.std.proofs.Common.{◌+◌, Ok, ap, sym, ◌∙◌}
use Rattle.stack_marks.specs.Stacks.{StackValue}
use Rattle.tpal_machine.specs.Effect.{with_mark, with_stack}
use Rattle.tpal_machine.specs.Ops.Anywhere.{standing}
use Rattle.tpal_machine.specs.Seen.{state_of}
use Rattle.tpal_machine.specs.State.{State}
use Rattle.tpal_machine.proofs.Refusals.{mark_goes}
use Rattle.tpal_machine.proofs.stack.mark_from.Goals as goal

pub returns-in-Ok-clause-effect : goal.returns-in-Ok-clause-effect
returns-in-Ok-clause-effect c =
    (λ i. with_mark (state_of c.args.machine.now) (record { at = c.args.base + sym c.from.ensures i; base = c.args.base; cells = sym c.from-2.ensures i; split = c.args.split }))
    ∙ mark_goes (state_of c.args.machine.now) (record { at = c.args.base + c.from.result; base = c.args.base; cells = c.from-2.result; split = c.args.split }) c.in-Ok.ensures.inside c.in-Ok.ensures.newest
    ∙ ap (λ (st : StackValue). Ok (with_stack (state_of c.args.machine.now) st)) (sym c.in-Ok.ensures.marked)

pub returns-in-Ok-clause-anywhere : goal.returns-in-Ok-clause-anywhere
returns-in-Ok-clause-anywhere c beat at =
    let before : State = standing beat at c.args.machine.now in
    (λ i. with_mark before (record { at = c.args.base + sym c.from.ensures i; base = c.args.base; cells = sym c.from-2.ensures i; split = c.args.split }))
    ∙ mark_goes before (record { at = c.args.base + c.from.result; base = c.args.base; cells = c.from-2.result; split = c.args.split }) c.in-Ok.ensures.inside c.in-Ok.ensures.newest
    ∙ ap (λ (st : StackValue). Ok (with_stack before st)) (sym c.in-Ok.ensures.marked)
