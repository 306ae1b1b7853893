use Rattle.std.proofs.Common.{arith, length-append}
use Rattle.loop_rules.specs.Declarations.{declared_all}
use Rattle.loop_syntax.specs.declared.Stmt.TheBlock.{hidden-the_row-Stmt-0}
use Rattle.scene_laws.proofs.Counts.Adding.{declared_of_vec}
use Rattle.block_lower.proofs.sizes.+declared.Goals as goal

pub declared-returns-in-If : goal.declared-returns-in-If
declared-returns-in-If t c =
    let first = rw c.deref.ensures.value at c.declared_by_list.ensures in
    let second = rw c.deref-in-If.ensures.value at c.declared_by_list-in-If.ensures in
    rw c.in-If.is (omega (arith, length-append (declared_all (hidden-the_row-Stmt-0 c.in-If.body)) (declared_all (hidden-the_row-Stmt-0 c.in-If.other)), declared_of_vec c.in-If.body, declared_of_vec c.in-If.other, first, second))

pub declared-returns-in-While : goal.declared-returns-in-While
declared-returns-in-While t c =
    let inner = rw c.deref-in-While.ensures.value at c.declared_by_list-in-While.ensures in
    rw c.in-While.is (omega (arith, declared_of_vec c.in-While.body, inner))

pub declared-returns-in-Loop : goal.declared-returns-in-Loop
declared-returns-in-Loop t c =
    let inner = rw c.deref-in-Loop.ensures.value at c.declared_by_list-in-Loop.ensures in
    rw c.in-Loop.is (omega (arith, declared_of_vec c.in-Loop.body, inner))

pub declared-returns-in-Par : goal.declared-returns-in-Par
declared-returns-in-Par t c =
    let inner = rw c.deref-in-Par.ensures.value at c.declared_by_list-in-Par.ensures in
    rw c.in-Par.is (omega (arith, declared_of_vec c.in-Par.l.body, inner))
