use Rattle.std.proofs.Common.{subst}
use Rattle.std.specs.Prelude.{IsSome}
use Rattle.slices.specs.Spans.{span_at}
use Rattle.slices.proofs.SpanLists.{some_around}
use Rattle.slices.proofs.pieces.reach_of.Goals as goal

pub returns-then-reach-gt0-clause-here : goal.returns-then-reach-gt0-clause-here
returns-then-reach-gt0-clause-here c = λ i h k. some_around c.args.spans.now c.loop-span.span-index c.span-item.result i c.loop-span-test.true (subst (λ s. IsSome (span_at s i)) c.span-item.is (c.reach-reach.ensures.here i h k))
