use Rattle.std.proofs.Common.{sym, ap, ◌∙◌, arith}
use Rattle.slices.specs.Spans.{or_else, count, spans_at}
use Rattle.slices.proofs.SpanLists.{or_else-none, spans_at-push, holders-push}
use Rattle.slices.proofs.pieces.push_held.Goals as goal

pub returns-then-is_empty-clause-cells : goal.returns-then-is_empty-clause-cells
returns-then-is_empty-clause-cells c = λ i. sym (ap (or_else (spans_at c.args.spans.now.items i)) (c.if-is_empty.ensures i) ∙ or_else-none _)

pub returns-then-is_empty-clause-reaching : goal.returns-then-is_empty-clause-reaching
returns-then-is_empty-clause-reaching c = λ i. omega (arith, ap count (c.if-is_empty.ensures i))

pub returns-clause-cells : goal.returns-clause-cells
returns-clause-cells c = λ i. rw (c.in_ok-push.ensures.items) (spans_at-push _ _ i)

pub returns-clause-reaching : goal.returns-clause-reaching
returns-clause-reaching c = λ i. rw (c.in_ok-push.ensures.items) (holders-push _ _ i)
