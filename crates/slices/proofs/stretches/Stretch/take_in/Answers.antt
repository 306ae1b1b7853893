use Rattle.std.proofs.Common.{arith}
use Rattle.slices.proofs.Slots.{slot-none, joined_at, joined_count}
use Rattle.slices.proofs.stretches.Stretch.take_in.Goals as goal

pub returns-in-Ok-clause-joined : goal.returns-in-Ok-clause-joined
returns-in-Ok-clause-joined c = λ i. rw (c.append.ensures.items, c.in-Ok.is) (joined_at _ _ _ _ i (omega arith))

pub returns-in-Ok-clause-emptied : goal.returns-in-Ok-clause-emptied
returns-in-Ok-clause-emptied c = λ i. rw (c.append.ensures.other_items, c.in-Ok.is) (slot-none _ i)

pub returns-in-Ok-clause-counted : goal.returns-in-Ok-clause-counted
returns-in-Ok-clause-counted c = λ i. rw (c.append.ensures.items, c.in-Ok.is) (joined_count _ _ _ _ i (omega arith))
