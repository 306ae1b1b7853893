use Rattle.std.proofs.Common.{◌≡◌, ◌≤◌, ◌+◌, ◌∙◌, arith, ap, ℕ}
use Rattle.std.specs.Prelude.{nat_lt}
use Rattle.std.specs.Vec.{with_items}
use Rattle.std.proofs.lemmas.List.{with_items_is}
use Rattle.slices.specs.Spans.{or_else, count, span_at, spans_at, holders}
use Rattle.slices.proofs.SpanLists.{count_spans}
use Rattle.slices.proofs.Splits.{first_again, sides_count}
use Rattle.slices.proofs.pieces.Pieces.split_off.Goals as goal

-- what the further spans and their parts hold together, where one of them could not be cut
module _ (c : goal.After-take_in) where
  reached : (i : ℕ) → holders c.split_each.new.spans i + holders c.split_each.new.parts.items i ≡ holders c.args.self.now.more.items i
  reached i = c.in-Err.ensures.reaching i ∙ ap (λ zs. holders zs i) (c.deref_mut.ensures.value ∙ c.reserve.ensures.items)

  few : (i : ℕ) → holders c.args.self.now.more.items i ≤ 1
  few i = omega (arith, c.requires i)

  together : (i : ℕ) → or_else (spans_at c.split_each.new.spans i) (spans_at c.split_each.new.parts.items i) ≡ spans_at c.args.self.now.more.items i
  together i =
      let m = c.deref_mut.ensures.value ∙ c.reserve.ensures.items in
      c.in-Err.ensures.err i (omega (arith, few i, ap (λ zs. holders zs i) m)) ∙ ap (λ zs. spans_at zs i) m

  same : (with_items c.reserve.new.self c.split_each.new.spans).items ≡ c.split_each.new.spans
  same = with_items_is c.reserve.new.self c.split_each.new.spans (omega arith)

  first : (i : ℕ) → count (span_at c.split_off.new.self i) + count (span_at c.in_ok-first.first i) ≡ count (span_at c.args.self.now.first i)
  first i = sides_count (nat_lt i c.args.at) _ _ _ (c.in_ok-first.ensures.kept i) (c.in_ok-first.ensures.given i)

pub returns-in-Err-clause-err : goal.returns-in-Err-clause-err
returns-in-Err-clause-err c = λ i. (
  c.take_in.ensures.cells i (omega (arith, ap (λ zs. holders zs i) (same c), reached c i, first c i, c.requires i))
      ∙ ap (λ zs. or_else (or_else (span_at c.split_off.new.self i) (spans_at zs i)) (or_else (span_at c.in_ok-first.first i) (spans_at c.split_each.new.parts.items i))) (same c)
      ∙ first_again (nat_lt i c.args.at) _ _ (spans_at c.split_each.new.spans i) (spans_at c.split_each.new.parts.items i) (span_at c.args.self.now.first i) (c.in_ok-first.ensures.kept i) (c.in_ok-first.ensures.given i)
      (omega (arith, ap count (together c i), count_spans c.args.self.now.more.items i, c.requires i))
      ∙ ap (or_else (span_at c.args.self.now.first i)) (together c i),
  c.take_in.ensures.reaching i
      ∙ ap (λ zs. count (span_at c.split_off.new.self i) + holders zs i + (count (span_at c.in_ok-first.first i) + holders c.split_each.new.parts.items i)) (same c)
      ∙ omega (arith, reached c i, first c i),
)
