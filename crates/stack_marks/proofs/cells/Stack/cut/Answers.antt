use Rattle.std.proofs.Common.{◌≡◌, ◌∙◌, ap, sym, ◌+◌, arith}
use Rattle.stack_marks.specs.Stacks.{from_position, left_base}
use Rattle.stack_marks.proofs.Moving.{from_lowest}
use Rattle.stack_marks.proofs.cells.Stack.cut.Goals as goal

pub returns-in-Ok-clause-left : goal.returns-in-Ok-clause-left
returns-in-Ok-clause-left c =
    let lowest = c.self.inside.base in
    let begins : c.args.self.base + c.start_of-from.result ≡ left_base c.args.kind c.args.base c.args.cells =
    ap (λ v. v.base + c.start_of-from.result) (sym c.self.view_is)
    ∙ ap (λ from. lowest + from) c.start_of-from.ensures
    ∙ from_lowest c.args.kind lowest c.args.base c.args.cells (omega (arith, c.if-base-self.false)) in
    c.parts.ensures.left ∙ ap (from_position c.args.self) begins
