use Rattle.std.proofs.Common.{arith}
use Rattle.stack_marks.proofs.Rising.{narrow}
use Rattle.stack_marks.proofs.cells.Stack.pop.Goals as goal

pub invariant_of-self : goal.invariant_of-self
invariant_of-self c = record {
  base_low = c.self.invariant.base_low;
  top_low = omega (arith, c.truncate.ensures.len, c.self.invariant.top_low);
  in_order = narrow c.self.inside.base _ _ c.self.inside.links.marks c.self.invariant.in_order (λ k d h. let r = c.if-stands_from.ensures.no k d h in omega (arith, r, c.truncate.ensures.len));
  lowest = c.self.invariant.lowest;
  room = omega (arith, c.truncate.ensures.len, c.self.invariant.room);
}
