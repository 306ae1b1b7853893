use Rattle.std.proofs.Common.{◌≡◌, sym, ap, ◌∙◌, drop}
use Rattle.std.specs.Prelude.{pos, not, slice_get, Some}
use Rattle.std.specs.Ordering.{int_eq}
use Rattle.stack_marks.specs.Stacks.{without_oldest}
use Rattle.stack_marks.proofs.Rising.{some_kept, first_gone}
use Rattle.stack_marks.proofs.cells.Stack.drop_oldest.Goals as goal

pub invariant_of-self : goal.invariant_of-self
invariant_of-self c = record {
  base_low = c.self.invariant.base_low;
  top_low = c.self.invariant.top_low;
  in_order = rw c.take.ensures (some_kept (λ m. not (int_eq (pos m.at) (pos c.in-Some.mark.at))) c.self.inside.base _ c.self.inside.links.marks c.self.invariant.in_order);
  lowest = rw c.take.ensures c.self.invariant.lowest;
  room = rw c.take.ensures c.self.invariant.room;
}

pub returns-in-Some-clause-dropped : goal.returns-in-Some-clause-dropped
returns-in-Some-clause-dropped c =
    let s = c.self.inside in
    let front : slice_get s.links.marks 0 ≡ Some c.in-Some.mark = sym c.oldest-oldest.ensures ∙ c.in-Some.is in
    let gone : c.take.new.self.marks ≡ drop 1 s.links.marks = ap (λ v. v.marks) c.take.ensures ∙ first_gone s.base _ s.links.marks c.in-Some.mark c.self.invariant.in_order front in
    (λ i. record { base = s.base; cells = s.cells.items; marks = gone i }) ∙ ap without_oldest c.self.view_is
