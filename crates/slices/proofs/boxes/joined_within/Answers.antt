use Rattle.std.proofs.Common.{arith, sym, ◌∙◌, ap, ◌-◌, ◌/◌, get_or}
use Rattle.slices.specs.Spans.{number}
use Rattle.slices.proofs.Places.{blended_below, blended_above, next_above, length-front}
use Rattle.slices.proofs.boxes.joined_within.Goals as goal

pub returns-in-Ok-clause-below : goal.returns-in-Ok-clause-below
returns-in-Ok-clause-below c = λ i h k. rw (c.append.ensures.items, c.in-Ok.is, c.truncate.ensures.items, c.reserve.ensures.items)
    (blended_below c.args.start c.args.end i c.args.lower.now.items c.args.upper.now.items c.index.result.now c.index_mut.result.now _ h k c.requires.inside (omega (arith, c.requires.len, c.requires.inside, c.requires.order)) (omega arith)
    (λ j m. c.blend.ensures.below j m ∙ ap (λ zs. number zs j) (c.deref.ensures ∙ ap (λ b. b.value) (c.index.ensures ∙ ap (λ zs. get_or zs (c.args.end / 256 - c.args.start / 256) c.index.result.now) c.reserve.ensures.items))))

pub returns-in-Ok-clause-above : goal.returns-in-Ok-clause-above
returns-in-Ok-clause-above c = λ i h. rw (c.append.ensures.items, c.in-Ok.is, c.truncate.ensures.items, c.reserve.ensures.items)
    (next_above c.args.start c.args.end i _ _ (omega (arith, c.requires.order)) h (sym (length-front c.args.lower.now.items (c.args.end / 256 - c.args.start / 256) (omega (arith, c.requires.len, c.requires.inside, c.requires.order))))
    ∙ blended_above c.args.end i c.args.upper.now.items c.index_mut.result.now _ (omega arith) h (λ j m. c.blend.ensures.above j m ∙ ap (λ zs. number zs j) (c.deref_mut.ensures.value ∙ ap (λ b. b.value) c.index_mut.ensures.value)))
