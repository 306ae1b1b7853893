use Rattle.std.proofs.Common.{◌≡◌, ◌<◌, inl, inr, ◌∙◌, ap, subst, length, get_or}
use Rattle.std.specs.Prelude.{IsSome}
use Rattle.slices.specs.Spans.{span_at}
use Rattle.slices.proofs.SpanLists.{some_around, some_or_else, either_more}
use Rattle.slices.proofs.pieces.Pieces.overlaps.Goals as goal

pub returns-then-meets-2-clause-yes : goal.returns-then-meets-2-clause-yes
returns-then-meets-2-clause-yes c =
    let m = c.if-meets-2.ensures.yes in
    let xs = c.args.other.now.more.items in
    let lt : c.loop-span.span-index < length xs = subst (λ ys. c.loop-span.span-index < length ys) c.deref-span-items.ensures.value c.loop-span-test.true in
    let is : c.span-item.result ≡ get_or xs c.loop-span.span-index c.span-item.result = c.span-item.is ∙ ap (λ ys. get_or ys c.loop-span.span-index c.span-item.result) c.deref-span-items.ensures.value in
    (m.0, m.1, some_or_else _ _ (inr (some_around xs c.loop-span.span-index c.span-item.result m.0 lt (subst (λ v. IsSome (span_at v m.0)) is m.2))))

pub loop-span-preserved : goal.loop-span-preserved
loop-span-preserved c = λ i t.
    let xs = c.args.other.now.more.items in
    let lt : c.loop-span.span-index < length xs = subst (λ ys. c.loop-span.span-index < length ys) c.deref-span-items.ensures.value c.loop-span-test.true in
    let is : c.span-item.result ≡ get_or xs c.loop-span.span-index c.span-item.result = c.span-item.is ∙ ap (λ ys. get_or ys c.loop-span.span-index c.span-item.result) c.deref-span-items.ensures.value in
    elim (either_more xs c.loop-span.span-index c.span-item.result i lt is t) [
      | inl before ↦ c.loop-span.invariant i before
      | inr here ↦ c.if-meets-2.ensures.no i here
    ]
