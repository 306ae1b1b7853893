use Rattle.std.proofs.Common.{sym, ◌∙◌}
use Rattle.block_lower.proofs.TreeBuilt.{built_of_vec}
use Rattle.block_lower.proofs.built.+is_built.Goals as goal

pub is_built-returns-then-list_is_built : goal.is_built-returns-then-list_is_built
is_built-returns-then-list_is_built t c =
    let first = rw c.deref.ensures.value at c.list_is_built.ensures in
    let second = rw c.deref-then-list_is_built.ensures.value
    at c.list_is_built-then-list_is_built.ensures in
    rw (c.in-If.is, built_of_vec c.in-If.body ∙ sym first ∙ c.if-list_is_built.true)
    (second ∙ sym (built_of_vec c.in-If.other))

pub is_built-returns-else-list_is_built : goal.is_built-returns-else-list_is_built
is_built-returns-else-list_is_built t c =
    let first = rw c.deref.ensures.value at c.list_is_built.ensures in
    rw (c.in-If.is, built_of_vec c.in-If.body ∙ sym first ∙ c.if-list_is_built.false)
    c.if-list_is_built.false

pub is_built-returns-in-While : goal.is_built-returns-in-While
is_built-returns-in-While t c =
    let inner = rw c.deref-in-While.ensures.value at c.list_is_built-in-While.ensures in
    rw c.in-While.is (inner ∙ sym (built_of_vec c.in-While.body))

pub is_built-returns-in-Loop : goal.is_built-returns-in-Loop
is_built-returns-in-Loop t c =
    let inner = rw c.deref-in-Loop.ensures.value at c.list_is_built-in-Loop.ensures in
    rw c.in-Loop.is (inner ∙ sym (built_of_vec c.in-Loop.body))

pub is_built-returns-in-Par : goal.is_built-returns-in-Par
is_built-returns-in-Par t c =
    let inner = rw c.deref-in-Par.ensures.value at c.list_is_built-in-Par.ensures in
    rw c.in-Par.is (inner ∙ sym (built_of_vec c.in-Par.l.body))
