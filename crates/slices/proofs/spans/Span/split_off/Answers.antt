use Rattle.std.proofs.Common.{arith, ◌∙◌, ap}
use Rattle.slices.specs.Spans.{span_at}
use Rattle.slices.proofs.Starts.{moved_kept, moved_given}
use Rattle.slices.proofs.spans.Span.split_off.Goals as goal

pub returns-then-at-start-clause-kept : goal.returns-then-at-start-clause-kept
returns-then-at-start-clause-kept c = λ i. ap (λ s. span_at s i) c.replace.ensures.after ∙ c.none-none.ensures i ∙ moved_kept c.args.self.now c.args.at i (omega (arith, c.if-at-start.true, c.start.ensures))

pub returns-then-at-start-clause-given : goal.returns-then-at-start-clause-given
returns-then-at-start-clause-given c = λ i. ap (λ s. span_at s i) c.replace.ensures.value ∙ moved_given c.args.self.now c.args.at i (omega (arith, c.if-at-start.true, c.start.ensures))
