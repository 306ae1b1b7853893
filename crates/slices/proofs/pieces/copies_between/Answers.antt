use Rattle.std.proofs.Common.{arith}
use Rattle.slices.proofs.SpanLists.{copied_more, copied_count}
use Rattle.slices.proofs.pieces.copies_between.Goals as goal

pub loop-span-preserved : goal.loop-span-preserved
loop-span-preserved c = record {
  cells = λ i. copied_more c.args.spans.now c.loop-span.parts.items _ c.loop-span.span-index c.args.low c.args.high i c.span-item.result c.in_ok-part.part c.loop-span-test.true c.span-item.is (c.in_ok-part.ensures i) (c.loop-span.invariant.cells i) (c.in_ok-push_held.ensures.cells i);
  reaching = λ i. copied_count c.args.spans.now c.loop-span.parts.items _ c.loop-span.span-index c.args.low c.args.high i c.span-item.result c.in_ok-part.part c.loop-span-test.true c.span-item.is (c.in_ok-part.ensures i) (c.loop-span.invariant.reaching i) (c.in_ok-push_held.ensures.reaching i);
  len = omega (arith, c.in_ok-push_held.ensures.len, c.loop-span.invariant.len);
}
