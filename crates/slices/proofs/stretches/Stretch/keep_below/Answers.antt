use Rattle.slices.proofs.Slots.{slot-take}
use Rattle.slices.proofs.stretches.Stretch.keep_below.Goals as goal

pub returns : goal.returns
returns c = λ i. rw (c.truncate.ensures.items, c.saturating_sub.ensures) (slot-take c.args.self.now.start c.args.self.now.cells.items c.args.high i)
