use Rattle.std.proofs.Common.{◌≡◌, ◌^◌, length}
use Rattle.stack_marks.specs.Stacks.{InOrder}
use Rattle.stack_marks.specs.Links.{from_on}
use Rattle.stack_marks.proofs.links.Links.keep_from.Given as goal

abbrev pub invariant-loop-mark : goal.invariant-loop-mark
invariant-loop-mark l = record {
  order : InOrder 0 (2 ^ 62) l.self.marks;
  same : from_on l.self l.low ≡ from_on l.initial.self l.low;
}

abbrev pub decreases-loop-mark : goal.decreases-loop-mark
decreases-loop-mark l = length l.self.marks
