use Rattle.std.proofs.Common.{arith, ◌≡◌, ◌+◌, ◌∙◌, ap, sym, ℕ}
use Rattle.slices.specs.Spans.{or_else, count, between, in_list, chunks_at}
use Rattle.slices.proofs.Places.{joined_between, between_nothing}
use Rattle.slices.proofs.chunks.Chunks.take_in.Goals as goal

module _ (c : goal.After-self-1) where
  others : (i : ℕ) → between c.args.self.now.end c.args.other.now.end i (in_list c.args.self.now.end c.args.other.now.list.items i) ≡ chunks_at c.args.other.now i
  others i = sym (ap (λ s. between s c.args.other.now.end i (in_list s c.args.other.now.list.items i)) c.if-other-end.false)

pub returns-clause-joined : goal.returns-clause-joined
returns-clause-joined c = λ i. rw c.replace-self.ensures.value
    ((joined_between c.args.self.now.start c.args.self.now.end c.args.other.now.end i _ _ _ (omega (arith, c.if-start-end.false)) (omega (arith, c.if-other-end-2.false)) (c.if-not-joined.ensures.below i) (c.if-not-joined.ensures.above i)).0
    ∙ ap (or_else (chunks_at c.args.self.now i)) (others c i))

pub returns-clause-emptied : goal.returns-clause-emptied
returns-clause-emptied c = λ i. rw c.replace-self.ensures.after (between_nothing c.args.other.now.start c.args.self.now.end i _ (omega (arith, c.if-other-end.false)))

pub returns-clause-counted : goal.returns-clause-counted
returns-clause-counted c = λ i. rw c.replace-self.ensures.value
    ((joined_between c.args.self.now.start c.args.self.now.end c.args.other.now.end i _ _ _ (omega (arith, c.if-start-end.false)) (omega (arith, c.if-other-end-2.false)) (c.if-not-joined.ensures.below i) (c.if-not-joined.ensures.above i)).1
    ∙ ap (λ v. count (chunks_at c.args.self.now i) + count v) (others c i))
