use Rattle.std.proofs.Common.{arith}
use Rattle.scene_laws.proofs.Counts.Counting.{blocks_of_vec}
use Rattle.block_lower.proofs.count.+count.Goals as goal

pub in_stmt-returns-in-If : goal.in_stmt-returns-in-If
in_stmt-returns-in-If t c =
    let first = rw c.deref.ensures.value at c.in_list.ensures in
    let second = rw c.deref-in-If.ensures.value at c.in_list-in-If.ensures in
    rw c.in-If.is (omega (arith, blocks_of_vec c.in-If.body, blocks_of_vec c.in-If.other, first, second))

pub in_stmt-returns-in-While : goal.in_stmt-returns-in-While
in_stmt-returns-in-While t c =
    let inner = rw c.deref-in-While.ensures.value at c.in_list-in-While.ensures in
    rw c.in-While.is (omega (arith, blocks_of_vec c.in-While.body, inner))

pub in_stmt-returns-in-Loop : goal.in_stmt-returns-in-Loop
in_stmt-returns-in-Loop t c =
    let inner = rw c.deref-in-Loop.ensures.value at c.in_list-in-Loop.ensures in
    rw c.in-Loop.is (omega (arith, blocks_of_vec c.in-Loop.body, inner))

pub in_stmt-returns-in-Par : goal.in_stmt-returns-in-Par
in_stmt-returns-in-Par t c =
    let inner = rw c.deref-in-Par.ensures.value at c.in_list-in-Par.ensures in
    rw c.in-Par.is (omega (arith, blocks_of_vec c.in-Par.l.body, inner))
