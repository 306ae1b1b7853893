use Rattle.std.proofs.Common.{arith, sym, ◌∙◌, ap, ◌<◌, length, is_some, to_z-of_z}
use Rattle.slices.proofs.SpanLists.{same_set, first_around, put_at, count_put, passed_more}
use Rattle.slices.proofs.SpanLists.{none_of_is_some}
use Rattle.slices.proofs.pieces.put_in.Goals as goal

pub returns-then-put-clause-found : goal.returns-then-put-clause-found
returns-then-put-clause-found c =
    let h : c.loop-span.span-index < length c.loop-span.spans = omega arith in
    c.if-put.ensures.found ∙ ap is_some (sym (first_around c.loop-span.spans c.loop-span.span-index c.span-item.result c.args.at h c.loop-span.invariant.passed (sym c.if-put.ensures.found)) ∙ c.loop-span.invariant.same c.args.at)

pub returns-then-put-clause-cells : goal.returns-then-put-clause-cells
returns-then-put-clause-cells c = λ i.
    let h : c.loop-span.span-index < length c.loop-span.spans = omega arith in
    rw (← c.loop-span.invariant.same i) (put_at c.loop-span.spans c.loop-span.span-index c.span-item.result c.put.new.self c.args.at i c.args.value h c.loop-span.invariant.passed (λ j. rw (to_z-of_z c.ranges.value) at (c.if-put.ensures.cells j)))

pub returns-then-put-clause-reaching : goal.returns-then-put-clause-reaching
returns-then-put-clause-reaching c = λ i.
    let h : c.loop-span.span-index < length c.loop-span.spans = omega arith in
    count_put c.loop-span.spans c.loop-span.span-index c.span-item.result c.put.new.self c.args.at i c.args.value h (sym c.if-put.ensures.found) (λ j. rw (to_z-of_z c.ranges.value) at (c.if-put.ensures.cells j)) ∙ c.loop-span.invariant.reaching i

pub loop-span-preserved : goal.loop-span-preserved
loop-span-preserved c =
    let h : c.loop-span.span-index < length c.loop-span.spans = omega arith in
    record {
      same = λ i. (same_set c.loop-span.spans c.loop-span.span-index c.span-item.result c.put.new.self i h (c.if-put.ensures.cells i)).0 ∙ c.loop-span.invariant.same i;
      reaching = λ i. (same_set c.loop-span.spans c.loop-span.span-index c.span-item.result c.put.new.self i h (c.if-put.ensures.cells i)).1 ∙ c.loop-span.invariant.reaching i;
      passed = passed_more c.loop-span.spans c.loop-span.span-index c.span-item.result c.put.new.self c.args.at h c.loop-span.invariant.passed (c.if-put.ensures.cells c.args.at ∙ none_of_is_some _ c.if-put.ensures.found);
    }
