use Rattle.std.proofs.Common.{◌≡◌, ◌+◌, subst, sym, ap, ◌∙◌, arith, to_z-of_z}
use Rattle.std.specs.Prelude.{IsSome, Any, pos, not}
use Rattle.std.specs.Ordering.{int_eq}
use Rattle.stack_marks.specs.View.{stack_value}
use Rattle.stack_marks.specs.Stacks.{word_at}
use Rattle.stack_marks.proofs.Rising.{some_kept, word_some}
use Rattle.stack_marks.proofs.cells.Stack.unmark.Goals as goal

pub invariant_of-self : goal.invariant_of-self
invariant_of-self c = record {
  base_low = c.self.invariant.base_low;
  top_low = c.self.invariant.top_low;
  in_order = rw c.take.ensures (some_kept (λ m. not (int_eq (pos m.at) (pos (c.self.inside.base + c.in-Some.index)))) c.self.inside.base _ c.self.inside.links.marks c.self.invariant.in_order);
  lowest = rw c.take.ensures c.self.invariant.lowest;
  room = rw c.take.ensures c.self.invariant.room;
}

pub returns-clause-held : goal.returns-clause-held
returns-clause-held c =
    let at : c.args.at ≡ pos (c.self.inside.base + c.in-Some.index) = sym (to_z-of_z c.ranges.at) ∙ c.in-Some.ensures.0 in
    let y = c.if-not-is_marked.ensures.yes in
    subst (λ s. IsSome (word_at s c.args.at) × Any (λ m. pos m.at ≡ c.args.at) s.marks) c.self.view_is (
      word_some (stack_value c.self.inside) c.in-Some.index c.args.at at (omega (arith, c.in-Some.ensures.1)),
      (y.0, y.1, y.2, y.3, ap pos y.4 ∙ sym at),
    )
