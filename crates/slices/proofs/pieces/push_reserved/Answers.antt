use Rattle.slices.proofs.SpanLists.{spans_at-push, holders-push}
use Rattle.slices.proofs.pieces.push_reserved.Goals as goal

pub returns-then-not-is_empty-clause-cells : goal.returns-then-not-is_empty-clause-cells
returns-then-not-is_empty-clause-cells c = λ i. rw c.push_reserved.ensures.items (spans_at-push _ _ i)

pub returns-then-not-is_empty-clause-reaching : goal.returns-then-not-is_empty-clause-reaching
returns-then-not-is_empty-clause-reaching c = λ i. rw c.push_reserved.ensures.items (holders-push _ _ i)
