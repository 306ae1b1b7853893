use Rattle.std.proofs.Common.{arith}
use Rattle.std.proofs.Common.{to_z-of_z}
use Rattle.slices.proofs.Slots.{slot_before, slot_inside, slot_past, slot-set}
use Rattle.slices.proofs.stretches.Stretch.put.Goals as goal

pub returns-then-at-self-clause-found : goal.returns-then-at-self-clause-found
returns-then-at-self-clause-found c = rw (slot_before c.args.self.now.start c.args.self.now.cells.items c.args.at c.if-at-self.true)

pub returns-then-index-len-clause-found : goal.returns-then-index-len-clause-found
returns-then-index-len-clause-found c = rw (slot_past c.args.self.now.start c.args.self.now.cells.items c.args.at (omega arith))

pub returns-clause-found : goal.returns-clause-found
returns-clause-found c = rw (slot_inside c.args.self.now.start c.args.self.now.cells.items c.args.at c.args.value c.if-at-self.false (omega arith))

pub returns-clause-cells : goal.returns-clause-cells
returns-clause-cells c = λ i. rw (to_z-of_z c.ranges.value) (slot-set c.args.self.now.start c.args.self.now.cells.items c.args.at i c.args.value c.if-at-self.false (omega arith))
