use Rattle.std.proofs.Common.{sym, arith, rules}
use Rattle.slices.proofs.Slots.{slot_before, slot_inside, slot_past}
use Rattle.slices.proofs.stretches.Stretch.get.Goals as goal

pub returns-then-at-self : goal.returns-then-at-self
returns-then-at-self c = sym (slot_before _ _ _ c.if-at-self.true)

pub returns-then-index-len : goal.returns-then-index-len
returns-then-index-len c = rw (slot_inside c.args.self.now.start c.args.self.now.cells.items c.args.at c.index.result.now c.if-at-self.false (omega (arith, c.if-index-len.true, c.len.ensures))) (search rules)

pub returns-else-index-len : goal.returns-else-index-len
returns-else-index-len c = sym (slot_past _ _ _ (omega (arith, c.if-index-len.false, c.len.ensures)))
