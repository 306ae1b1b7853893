use Rattle.std.proofs.Common.{arith}
use Rattle.scene_laws.proofs.Counts.Adding.{added_of_vec, par_of_vec, second_of_vec}
use Rattle.block_lower.proofs.sizes.+sizes.Goals as goal

pub added-returns-in-If : goal.added-returns-in-If
added-returns-in-If t c =
    let first = rw c.deref.ensures.value at c.added_by_body.ensures in
    let second = rw c.deref-in-If.ensures.value at c.added_by_second.ensures in
    rw c.in-If.is (omega (arith, added_of_vec c.args.calls c.in-If.body, second_of_vec c.args.calls c.in-If.other, first, second, c.branch_blocks.ensures))

pub added-returns-in-While : goal.added-returns-in-While
added-returns-in-While t c =
    let inner = rw c.deref-in-While.ensures.value at c.added_by_body-in-While.ensures in
    rw c.in-While.is (omega (arith, added_of_vec c.args.calls c.in-While.body, inner))

pub added-returns-in-Loop : goal.added-returns-in-Loop
added-returns-in-Loop t c =
    let inner = rw c.deref-in-Loop.ensures.value at c.added_by_body-in-Loop.ensures in
    rw c.in-Loop.is (omega (arith, added_of_vec c.args.calls c.in-Loop.body, inner))

pub added-returns-in-Par : goal.added-returns-in-Par
added-returns-in-Par t c =
    rw c.in-Par.is (omega (arith, par_of_vec c.args.calls c.in-Par.l.carries.items c.in-Par.l.reduces.items c.in-Par.l.body, c.added_by_par.ensures))
