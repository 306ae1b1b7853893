use Rattle.std.proofs.Common.{◌≡◌, ◌<◌, ◌∙◌, arith, ap, sym, length, get_or, cond, None, ℕ}
use Rattle.std.specs.Prelude.{nat_lt}
use Rattle.slices.specs.Spans.{span_at}
use Rattle.slices.proofs.Splits.{same_left, kept_more, given_more, reaching_more, reaching_stopped}
use Rattle.slices.proofs.Splits.{kept_stopped, sides_count, left_more, left_after, on_err}
use Rattle.slices.proofs.pieces.split_each.Goals as goal

pub loop-span-preserved : goal.loop-span-preserved
loop-span-preserved c =
    let h : c.loop-span.span-index < length c.loop-span.spans = omega arith in
    let l : c.loop-span.span-index < length c.args.spans.now = omega (arith, h, c.loop-span.auto.spans) in
    let is : c.span-item.result ≡ get_or c.args.spans.now c.loop-span.span-index c.span-item.result = same_left c.loop-span.spans c.args.spans.now c.loop-span.span-index c.span-item.result c.loop-span.invariant.left c.span-item.is in
    let kept : (i : ℕ) → span_at c.split_off.new.self i ≡ cond (nat_lt i c.args.at) (span_at c.span-item.result i) None = λ i. c.in_ok-part.ensures.kept i ∙ ap (λ s. cond (nat_lt i c.args.at) (span_at s i) None) (sym c.span-item.is) in
    let given : (i : ℕ) → span_at c.in_ok-part.part i ≡ cond (nat_lt i c.args.at) None (span_at c.span-item.result i) = λ i. c.in_ok-part.ensures.given i ∙ ap (λ s. cond (nat_lt i c.args.at) None (span_at s i)) (sym c.span-item.is) in
    record {
      kept = λ i. kept_more c.loop-span.spans c.args.spans.now c.loop-span.span-index c.args.at i c.span-item.result c.split_off.new.self h l is (kept i) (c.loop-span.invariant.kept i);
      given = λ i. given_more c.loop-span.parts.items _ c.args.spans.now c.loop-span.span-index c.args.at i c.span-item.result c.in_ok-part.part l is (given i) (c.loop-span.invariant.given i) (c.push_reserved.ensures.cells i);
      reaching = λ i. reaching_more c.loop-span.spans c.loop-span.parts.items _ c.args.spans.now c.loop-span.span-index i c.span-item.result c.split_off.new.self c.in_ok-part.part h l is (sides_count (nat_lt i c.args.at) _ _ _ (kept i) (given i)) (c.loop-span.invariant.reaching i) (c.push_reserved.ensures.reaching i);
      left = left_more c.loop-span.spans c.args.spans.now c.loop-span.span-index c.split_off.new.self c.loop-span.invariant.left;
      len = omega (arith, c.push_reserved.ensures.len, c.loop-span.invariant.len);
      capacity = c.push_reserved.ensures.capacity ∙ c.loop-span.invariant.capacity;
    }

pub returns-in_err-part-clause-reaching : goal.returns-in_err-part-clause-reaching
returns-in_err-part-clause-reaching c = λ i.
    let h : c.loop-span.span-index < length c.loop-span.spans = omega arith in
    let l : c.loop-span.span-index < length c.args.spans.now = omega (arith, h, c.loop-span.auto.spans) in
    let is : c.span-item.result ≡ get_or c.args.spans.now c.loop-span.span-index c.span-item.result = same_left c.loop-span.spans c.args.spans.now c.loop-span.span-index c.span-item.result c.loop-span.invariant.left c.span-item.is in
    reaching_stopped c.loop-span.spans c.loop-span.parts.items c.args.spans.now c.loop-span.span-index i c.span-item.result c.split_off.new.self h l is
    (c.in_err-part.ensures.err i ∙ ap (λ s. span_at s i) (sym c.span-item.is)) (left_after c.loop-span.spans c.args.spans.now c.loop-span.span-index c.loop-span.invariant.left) (c.loop-span.invariant.reaching i)

pub returns-in_err-part-clause-err : goal.returns-in_err-part-clause-err
returns-in_err-part-clause-err c = on_err c.from_residual.result (λ i le.
    let h : c.loop-span.span-index < length c.loop-span.spans = omega arith in
    let l : c.loop-span.span-index < length c.args.spans.now = omega (arith, h, c.loop-span.auto.spans) in
    let is : c.span-item.result ≡ get_or c.args.spans.now c.loop-span.span-index c.span-item.result = same_left c.loop-span.spans c.args.spans.now c.loop-span.span-index c.span-item.result c.loop-span.invariant.left c.span-item.is in
    kept_stopped c.loop-span.spans c.loop-span.parts.items c.args.spans.now c.loop-span.span-index c.args.at i c.span-item.result c.split_off.new.self h l is
    (c.in_err-part.ensures.err i ∙ ap (λ s. span_at s i) (sym c.span-item.is)) (left_after c.loop-span.spans c.args.spans.now c.loop-span.span-index c.loop-span.invariant.left) (c.loop-span.invariant.kept i) (c.loop-span.invariant.given i) le)
