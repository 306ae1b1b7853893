use Rattle.std.proofs.Common.{arith}
use Rattle.slices.proofs.Slots.{slot_some, slot_before, slot_past}
use Rattle.slices.proofs.stretches.Stretch.reach.Goals as goal

pub returns-then-at-self-clause-none : goal.returns-then-at-self-clause-none
returns-then-at-self-clause-none c = λ e. slot_before _ _ _ c.if-at-self.true

pub returns-clause-here : goal.returns-clause-here
returns-clause-here c = λ i h k. slot_some _ _ i (omega (arith, h)) (omega (arith, k))

pub returns-clause-none : goal.returns-clause-none
returns-clause-none c = λ e. slot_past _ _ _ (omega (arith, e))
