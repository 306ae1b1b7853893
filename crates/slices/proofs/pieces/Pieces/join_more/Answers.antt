use Rattle.std.proofs.Common.{ℕ, ◌<◌, ◌∙◌, ap, arith, length, set, ◌+◌}
use Rattle.slices.specs.Spans.{spans_at, span_at, or_else, holders, count}
use Rattle.slices.proofs.SpanLists.{joined_item, same_item}
use Rattle.slices.proofs.pieces.Pieces.join_more.Goals as goal

pub loop-k-preserved-then-join : goal.loop-k-preserved-then-join
loop-k-preserved-then-join c =
    let lt : c.loop-k.k < length c.loop-k.self.more.items = omega arith in
    let joined = λ (i : ℕ). joined_item c.loop-k.self.first c.join.new.self c.loop-k.self.more.items c.loop-k.k c.index_mut.result.now c.join.new.other i lt c.index_mut.ensures.value (c.if-join.ensures.counted i) (c.if-join.ensures.joined i) in
    record {
      cells = λ i le. rw c.remove.ensures.items ((joined i).1 (omega (arith, c.loop-k.invariant.reaching i, le)) ∙ c.loop-k.invariant.cells i le);
      reaching = λ i. rw c.remove.ensures.items ((joined i).0 ∙ c.loop-k.invariant.reaching i);
      len = omega arith;
      capacity = c.remove.ensures.capacity ∙ c.loop-k.invariant.capacity;
    }

pub loop-k-preserved-then-join-2 : goal.loop-k-preserved-then-join-2
loop-k-preserved-then-join-2 c =
    let lt : c.loop-k.k < length c.loop-k.self.more.items = omega arith in
    let joined = λ (i : ℕ). joined_item c.loop-k.self.first c.join.new.self c.loop-k.self.more.items c.loop-k.k c.index_mut.result.now c.join.new.other i lt c.index_mut.ensures.value (c.if-join.ensures.counted i) (c.if-join.ensures.joined i) in
    record {
      cells = λ i le. rw c.remove.ensures.items ((joined i).1 (omega (arith, c.loop-k.invariant.reaching i, le)) ∙ c.loop-k.invariant.cells i le);
      reaching = λ i. rw c.remove.ensures.items ((joined i).0 ∙ c.loop-k.invariant.reaching i);
      len = omega arith;
      capacity = c.remove.ensures.capacity ∙ c.loop-k.invariant.capacity;
    }

pub loop-k-preserved : goal.loop-k-preserved
loop-k-preserved c =
    let lt : c.loop-k.k < length c.loop-k.self.more.items = omega arith in
    let same = λ (i : ℕ). same_item c.loop-k.self.more.items c.loop-k.k c.index_mut.result.now c.join.new.other i lt c.index_mut.ensures.value (c.if-join.ensures.apart i).1 in
    record {
      cells = λ i le. ap (λ v. or_else v (spans_at (set c.loop-k.self.more.items c.loop-k.k c.join.new.other) i)) (c.if-join.ensures.apart i).0 ∙ ap (or_else (span_at c.loop-k.self.first i)) (same i).0 ∙ c.loop-k.invariant.cells i le;
      reaching = λ i. ap (λ v. count v + holders (set c.loop-k.self.more.items c.loop-k.k c.join.new.other) i) (c.if-join.ensures.apart i).0 ∙ ap (λ n. count (span_at c.loop-k.self.first i) + n) (same i).1 ∙ c.loop-k.invariant.reaching i;
      len = c.loop-k.invariant.len;
      capacity = c.loop-k.invariant.capacity;
    }
