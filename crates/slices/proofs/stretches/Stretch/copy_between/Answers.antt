use Rattle.slices.proofs.Slots.{slot-range}
use Rattle.slices.proofs.stretches.Stretch.copy_between.Goals as goal

pub returns : goal.returns
returns c = λ i. rw (c.in_ok-from_slice.ensures.items, c.deref.ensures.value, c.max-start.ensures) (slot-range c.args.self.now.start c.args.self.now.cells.items c.args.low c.args.high _ _ i (cc) (cc))
