use Rattle.std.proofs.Common.{sym, ◌∙◌}
use Rattle.scene_laws.proofs.Counts.QuietRows.{quiet_of_vec}
use Rattle.block_lower.proofs.quiet.+is_quiet.Goals as goal

pub is_quiet-returns-then-list_is_quiet : goal.is_quiet-returns-then-list_is_quiet
is_quiet-returns-then-list_is_quiet t c =
    let first = rw c.deref.ensures.value at c.list_is_quiet.ensures in
    let second = rw c.deref-then-list_is_quiet.ensures.value
    at c.list_is_quiet-then-list_is_quiet.ensures in
    rw (c.in-If.is, quiet_of_vec c.args.calls c.in-If.body ∙ sym first ∙ c.if-list_is_quiet.true)
    (second ∙ sym (quiet_of_vec c.args.calls c.in-If.other))

pub is_quiet-returns-else-list_is_quiet : goal.is_quiet-returns-else-list_is_quiet
is_quiet-returns-else-list_is_quiet t c =
    let first = rw c.deref.ensures.value at c.list_is_quiet.ensures in
    rw (c.in-If.is, quiet_of_vec c.args.calls c.in-If.body ∙ sym first ∙ c.if-list_is_quiet.false)
    c.if-list_is_quiet.false

pub is_quiet-returns-in-While : goal.is_quiet-returns-in-While
is_quiet-returns-in-While t c =
    let inner = rw c.deref-in-While.ensures.value at c.list_is_quiet-in-While.ensures in
    rw c.in-While.is (inner ∙ sym (quiet_of_vec c.args.calls c.in-While.body))

pub is_quiet-returns-in-Loop : goal.is_quiet-returns-in-Loop
is_quiet-returns-in-Loop t c =
    let inner = rw c.deref-in-Loop.ensures.value at c.list_is_quiet-in-Loop.ensures in
    rw c.in-Loop.is (inner ∙ sym (quiet_of_vec c.args.calls c.in-Loop.body))
