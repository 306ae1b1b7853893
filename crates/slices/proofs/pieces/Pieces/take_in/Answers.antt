use Rattle.std.proofs.Common.{◌≡◌, ◌+◌, ◌∙◌, ap, sym, arith, ◌++◌, ◌∷◌, []}
use Rattle.slices.specs.Spans.{spans_at, span_at, or_else, holders, count}
use Rattle.slices.specs.Pieces.{piece_at}
use Rattle.slices.proofs.SpanLists.{moved_last, holders-push}
use Rattle.slices.proofs.pieces.Pieces.take_in.Goals as goal

pub loop-span-preserved : goal.loop-span-preserved
loop-span-preserved c =
    let last : c.loop-span.more.items ≡ c.pop.new.self.items ++ c.in-Some.span ∷ [] = c.in-Some.ensures.items in
    record {
      cells = λ i le.
          let n : holders c.loop-span.more.items i ≡ holders c.pop.new.self.items i + count (span_at c.in-Some.span i) = ap (λ ys. holders ys i) last ∙ holders-push _ _ i in
          ap (λ v. or_else v (spans_at c.pop.new.self.items i)) (c.add-in-Some.ensures.cells i (omega (arith, n, le, c.loop-span.invariant.reaching i)))
          ∙ moved_last (piece_at c.loop-span.self i) c.pop.new.self.items c.in-Some.span i (omega (arith, n, le, c.loop-span.invariant.reaching i))
          ∙ ap (λ ys. or_else (piece_at c.loop-span.self i) (spans_at ys i)) (sym last)
          ∙ c.loop-span.invariant.cells i le;
      reaching = λ i.
          let n : holders c.loop-span.more.items i ≡ holders c.pop.new.self.items i + count (span_at c.in-Some.span i) = ap (λ ys. holders ys i) last ∙ holders-push _ _ i in
          omega (arith, n, c.add-in-Some.ensures.reaching i, c.loop-span.invariant.reaching i);
      room = omega (arith, c.add-in-Some.ensures.len, c.add-in-Some.ensures.capacity, c.in-Some.ensures.len, c.loop-span.invariant.room);
      len = omega (arith, c.add-in-Some.ensures.len, c.in-Some.ensures.len, c.loop-span.invariant.len);
      capacity = c.add-in-Some.ensures.capacity ∙ c.loop-span.invariant.capacity;
    }

pub returns-clause-len : goal.returns-clause-len
returns-clause-len c = omega (arith, c.add.ensures.len, c.loop-span.invariant.len)

pub returns-clause-capacity : goal.returns-clause-capacity
returns-clause-capacity c = c.loop-span.invariant.capacity ∙ c.add.ensures.capacity
