use Rattle.std.proofs.Common.{◌≡◌, ap, ◌∙◌}
use Rattle.loop_meaning.specs.Leaving.{or_else, left_of, left_list}
use Rattle.loop_meaning.proofs.Caught.{left_if, left_while, left_loop}
use Rattle.loop_meaning.proofs.left.+targets.Goals as goal

pub left_of-returns-in-Some : goal.left_of-returns-in-Some
left_of-returns-in-Some t c =
    let h = rw c.deref.ensures.value at c.in-Some.ensures in
    ap left_of c.in-If.is ∙ left_if c.in-If.field-0 c.in-If.body c.in-If.other ∙ ap (λ x. or_else x (left_list c.in-If.other.items)) h

pub left_of-returns-in-None : goal.left_of-returns-in-None
left_of-returns-in-None t c =
    let h = rw c.deref.ensures.value at c.in-None.ensures in
    let q : left_of c.args.statement.now ≡ left_list c.in-If.other.items =
    ap left_of c.in-If.is ∙ left_if c.in-If.field-0 c.in-If.body c.in-If.other ∙ ap (λ x. or_else x (left_list c.in-If.other.items)) h in
    rw q (rw c.deref-in-None.ensures.value at c.left_list-in-None.ensures)

pub left_of-returns-in-While : goal.left_of-returns-in-While
left_of-returns-in-While t c =
    let q : left_of c.args.statement.now ≡ left_list c.in-While.body.items = ap left_of c.in-While.is ∙ left_while c.in-While.field-0 c.in-While.body in
    rw q (rw c.deref-in-While.ensures.value at c.left_list-in-While.ensures)

pub left_of-returns-in-Loop : goal.left_of-returns-in-Loop
left_of-returns-in-Loop t c =
    let q : left_of c.args.statement.now ≡ left_list c.in-Loop.body.items = ap left_of c.in-Loop.is ∙ left_loop c.in-Loop.field-0 c.in-Loop.field-1 c.in-Loop.field-2 c.in-Loop.body in
    rw q (rw c.deref-in-Loop.ensures.value at c.left_list-in-Loop.ensures)
