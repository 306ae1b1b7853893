use Rattle.std.proofs.Common.{arith, sym, ◌≡◌, ◌∙◌, ap, length}
use Rattle.std.proofs.lemmas.Bool.{eqb-true, OnTrue_from}
use Rattle.slices.specs.Spans.{span_at}
use Rattle.slices.proofs.Slots.{slot-empty}
use Rattle.slices.proofs.spans.Span.is_empty.Goals as goal

pub returns-in-Flat : goal.returns-in-Flat
returns-in-Flat c = OnTrue_from c.is_empty.result _ (λ t. λ i.
    let e : length c.in-Flat.flat.cells.items ≡ 0 = omega (arith, eqb-true _ _ (sym c.is_empty.ensures ∙ t)) in
    ap (λ s. span_at s i) c.in-Flat.is ∙ slot-empty c.in-Flat.flat.start c.in-Flat.flat.cells.items i e)
