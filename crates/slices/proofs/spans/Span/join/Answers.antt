use Rattle.std.proofs.Common.{arith, sym, ap, ◌∙◌}
use Rattle.slices.specs.Spans.{or_else, count, span_at}
use Rattle.slices.proofs.SpanLists.{or_else-none}
use Rattle.slices.proofs.spans.Span.join.Goals as goal

pub returns-then-is_empty-clause-emptied : goal.returns-then-is_empty-clause-emptied
returns-then-is_empty-clause-emptied c = λ i. rw c.swap.ensures.y_after (c.if-is_empty.ensures i)

pub returns-then-is_empty-clause-counted : goal.returns-then-is_empty-clause-counted
returns-then-is_empty-clause-counted c = λ i. rw c.swap.ensures.x_after (omega (arith, ap count (c.if-is_empty.ensures i)))

pub returns-then-is_empty-clause-joined : goal.returns-then-is_empty-clause-joined
returns-then-is_empty-clause-joined c = λ i _. rw c.swap.ensures.x_after (sym (ap (λ v. or_else v (span_at c.args.other.now i)) (c.if-is_empty.ensures i)))

pub returns-then-is_empty-2-clause-counted : goal.returns-then-is_empty-2-clause-counted
returns-then-is_empty-2-clause-counted c = λ i. omega (arith, ap count (c.if-is_empty-2.ensures i))

pub returns-then-is_empty-2-clause-joined : goal.returns-then-is_empty-2-clause-joined
returns-then-is_empty-2-clause-joined c = λ i _. sym (ap (or_else (span_at c.args.self.now i)) (c.if-is_empty-2.ensures i) ∙ or_else-none _)
