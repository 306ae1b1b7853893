use Rattle.std.proofs.Common.{subst}
use Rattle.std.specs.Prelude.{IsSome}
use Rattle.slices.specs.Spans.{span_at}
use Rattle.slices.proofs.SpanLists.{some_around, neither}
use Rattle.slices.proofs.pieces.meets_one_of.Goals as goal

pub returns-then-meets-clause-yes : goal.returns-then-meets-clause-yes
returns-then-meets-clause-yes c =
    let m = c.if-meets.ensures.yes in
    (m.0, some_around c.args.spans.now c.loop-span.span-index c.span-item.result m.0 c.loop-span-test.true (subst (λ s. IsSome (span_at s m.0)) c.span-item.is m.1), m.2)

pub loop-span-preserved : goal.loop-span-preserved
loop-span-preserved c = λ i s. neither c.args.spans.now c.loop-span.span-index c.span-item.result i c.loop-span-test.true c.span-item.is (c.loop-span.invariant i s) (λ t. c.if-meets.ensures.no i t s)
