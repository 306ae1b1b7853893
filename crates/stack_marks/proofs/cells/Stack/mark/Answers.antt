use Rattle.std.proofs.Common.{arith}
use Rattle.stack_marks.proofs.Rising.{one_more}
use Rattle.stack_marks.proofs.cells.Stack.mark.Goals as goal

pub invariant_of-self : goal.invariant_of-self
invariant_of-self c = record {
  base_low = c.self.invariant.base_low;
  top_low = c.self.invariant.top_low;
  in_order = rw c.add.ensures.marks (one_more c.self.inside.base _ c.self.inside.links.marks c.args.mark c.self.invariant.in_order c.if-stands_from.ensures.no (omega arith) (omega arith));
  lowest = rw c.add.ensures.lowest c.self.invariant.lowest;
  room = omega (arith, c.add.ensures.lowest, c.add.ensures.room, c.self.invariant.room);
}
