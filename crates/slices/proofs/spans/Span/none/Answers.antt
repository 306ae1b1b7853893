use Rattle.std.proofs.Common.{◌∙◌, ap}
use Rattle.slices.specs.Spans.{slot, span_at}
use Rattle.slices.proofs.Slots.{slot-none}
use Rattle.slices.proofs.spans.Span.none.Goals as goal

pub returns : goal.returns
returns c = λ i. ap (λ s. span_at s i) c.whole.ensures ∙ ap (λ xs. slot 0 xs i) c.new.ensures.items ∙ slot-none 0 i
