use Rattle.std.proofs.Common.{◌≡◌, ◌^◌, length, subst, sym, ap, ◌∙◌, arith}
use Rattle.std.specs.Prelude.{Some, slice_get, filter, nat_le, []}
use Rattle.stack_marks.specs.Stacks.{InOrder}
use Rattle.stack_marks.specs.Links.{from_on}
use Rattle.stack_marks.proofs.Rising.{no_first, first_from, first_gone, below_gone, shorter}
use Rattle.stack_marks.proofs.Rising.{without_first}
use Rattle.stack_marks.proofs.links.Links.keep_from.Goals as goal

pub returns-then-mark-low : goal.returns-then-mark-low
returns-then-mark-low c =
    let v = c.loop-mark.self in
    let front : slice_get v.marks 0 ≡ Some c.in-Some.mark = sym c.oldest.ensures ∙ c.in-Some.is in
    let all = first_from 0 (2 ^ 62) c.args.low v.marks c.in-Some.mark c.loop-mark.invariant.order front c.if-mark-low.true in
    sym (λ i. record { lowest = v.lowest; room = v.room; marks = all i }) ∙ c.loop-mark.invariant.same

pub loop-mark-smaller : goal.loop-mark-smaller
loop-mark-smaller c =
    let v = c.loop-mark.self in
    let front : slice_get v.marks 0 ≡ Some c.in-Some.mark = sym c.oldest.ensures ∙ c.in-Some.is in
    let gone = ap (λ z. length z.marks) c.take.ensures ∙ ap length (first_gone 0 (2 ^ 62) v.marks c.in-Some.mark c.loop-mark.invariant.order front) in
    let less = shorter v.marks c.in-Some.mark front in
    omega (arith, gone, less)

pub loop-mark-preserved : goal.loop-mark-preserved
loop-mark-preserved c =
    let v = c.loop-mark.self in
    let front : slice_get v.marks 0 ≡ Some c.in-Some.mark = sym c.oldest.ensures ∙ c.in-Some.is in
    let gone = first_gone 0 (2 ^ 62) v.marks c.in-Some.mark c.loop-mark.invariant.order front in
    let same = below_gone 0 (2 ^ 62) c.args.low v.marks c.in-Some.mark c.loop-mark.invariant.order front c.if-mark-low.false in
    record {
      order = subst (InOrder 0 (2 ^ 62)) (sym (ap (λ z. z.marks) c.take.ensures ∙ gone)) (without_first 0 (2 ^ 62) v.marks c.loop-mark.invariant.order);
      same = ap (λ z. from_on z c.args.low) c.take.ensures
          ∙ (λ i. from_on (record { lowest = v.lowest; room = v.room; marks = gone i }) c.args.low)
          ∙ (λ i. record { lowest = v.lowest; room = v.room; marks = same i })
          ∙ c.loop-mark.invariant.same;
    }

pub returns : goal.returns
returns c =
    let v = c.loop-mark.self in
    let empty : v.marks ≡ [] = no_first v.marks (sym c.in_default.ensures) in
    let all : filter (λ m. nat_le c.args.low m.at) v.marks ≡ v.marks = ap (filter (λ m. nat_le c.args.low m.at)) empty ∙ sym empty in
    sym (λ i. record { lowest = v.lowest; room = v.room; marks = all i }) ∙ c.loop-mark.invariant.same
