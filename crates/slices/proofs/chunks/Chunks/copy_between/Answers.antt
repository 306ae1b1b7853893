use Rattle.std.proofs.Common.{arith, ◌∙◌, ap, sym, refl, ◌-◌, min, max, take, drop}
use Rattle.slices.specs.Spans.{held_in, in_list}
use Rattle.slices.proofs.Places.{copied_in, between_both, between_nothing}
use Rattle.slices.proofs.chunks.Chunks.copy_between.Goals as goal

pub returns-then-start-end : goal.returns-then-start-end
returns-then-start-end c = λ i.
    let v = in_list c.args.self.now.start c.args.self.now.list.items i in
    between_nothing 0 0 i _ (omega arith)
    ∙ sym (between_nothing (max c.args.low c.args.self.now.start) (min c.args.high c.args.self.now.end) i v (omega (arith, c.max-start.ensures, c.min-end.ensures, c.if-start-end.true)))
    ∙ between_both c.args.low c.args.high c.args.self.now.start c.args.self.now.end i v v (λ _ _. refl)

pub returns : goal.returns
returns c = λ i. rw (c.max-start.ensures, c.min-end.ensures)
    (between_both c.args.low c.args.high c.args.self.now.start c.args.self.now.end i _ _
    (λ h k. copied_in c.args.self.now.start (max c.args.low c.args.self.now.start) (min c.args.high c.args.self.now.end - 1) i c.args.self.now.list.items c.in_ok-list.list.items c.min-from.result c.min-to.result
    (omega arith) h (omega (arith, k)) (omega (arith, c.min-from.ensures, c.max-start.ensures, c.len-len.ensures)) (omega (arith, c.min-to.ensures, c.min-end.ensures, c.len-len.ensures))
    (λ m j. c.in_ok-list.ensures m j ∙ ap (λ zs. held_in (take (c.min-to.result - c.min-from.result) (drop c.min-from.result zs)) m j) c.deref.ensures.value)))
