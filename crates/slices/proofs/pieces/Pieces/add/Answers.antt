use Rattle.std.proofs.Common.{◌∙◌, ap, arith}
use Rattle.slices.specs.Spans.{spans_at, span_at, or_else}
use Rattle.slices.proofs.SpanLists.{swap_last, pushed_last, count_spans}
use Rattle.slices.proofs.pieces.Pieces.add.Goals as goal

pub returns-then-join-clause-cells : goal.returns-then-join-clause-cells
returns-then-join-clause-cells c = λ i le.
    c.join_more.ensures.cells i (omega (arith, c.if-join.ensures.counted i, le))
    ∙ ap (λ v. or_else v (spans_at c.args.self.now.more.items i)) (c.if-join.ensures.joined i (omega (arith, le)))
    ∙ swap_last (span_at c.args.self.now.first i) (span_at c.args.span i) (spans_at c.args.self.now.more.items i) (omega (arith, le, count_spans c.args.self.now.more.items i))

pub returns-else-join-clause-cells : goal.returns-else-join-clause-cells
returns-else-join-clause-cells c = λ i le. rw c.push_reserved.ensures.items (pushed_last c.args.self.now.first c.join.new.self c.args.self.now.more.items c.args.span c.join.new.other i (c.if-join.ensures.apart i).0 (c.if-join.ensures.apart i).1).0

pub returns-else-join-clause-reaching : goal.returns-else-join-clause-reaching
returns-else-join-clause-reaching c = λ i. rw c.push_reserved.ensures.items (pushed_last c.args.self.now.first c.join.new.self c.args.self.now.more.items c.args.span c.join.new.other i (c.if-join.ensures.apart i).0 (c.if-join.ensures.apart i).1).1
