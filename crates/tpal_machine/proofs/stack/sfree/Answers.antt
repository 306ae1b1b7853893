use Rattle.std.proofs.Common.{ℕ, Ok, ap, sym, ◌∙◌}
use Rattle.stack_marks.specs.Stacks.{StackValue}
use Rattle.tpal_machine.specs.Effect.{sfree, with_stack}
use Rattle.tpal_machine.specs.Ops.Anywhere.{standing}
use Rattle.tpal_machine.specs.Seen.{state_of}
use Rattle.tpal_machine.specs.State.{State}
use Rattle.tpal_machine.proofs.Refusals.{sfree_goes}
use Rattle.tpal_machine.proofs.stack.sfree.Goals as goal

pub returns-in-Ok-clause-effect : goal.returns-in-Ok-clause-effect
returns-in-Ok-clause-effect c =
    ap (λ (n : ℕ). sfree n (state_of c.args.machine.now)) (sym c.from.ensures)
    ∙ sfree_goes c.from.result (state_of c.args.machine.now) c.in-Ok.ensures.held c.in-Ok.ensures.unmarked
    ∙ ap (λ (st : StackValue). Ok (with_stack (state_of c.args.machine.now) st)) (sym c.in-Ok.ensures.popped)

pub returns-in-Ok-clause-anywhere : goal.returns-in-Ok-clause-anywhere
returns-in-Ok-clause-anywhere c beat at =
    let before : State = standing beat at c.args.machine.now in
    ap (λ (n : ℕ). sfree n before) (sym c.from.ensures)
    ∙ sfree_goes c.from.result before c.in-Ok.ensures.held c.in-Ok.ensures.unmarked
    ∙ ap (λ (st : StackValue). Ok (with_stack before st)) (sym c.in-Ok.ensures.popped)
