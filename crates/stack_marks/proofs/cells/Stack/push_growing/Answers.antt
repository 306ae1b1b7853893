use Rattle.std.proofs.Common.{◌≡◌, ◌+◌, ◌∙◌, ap, length, arith}
use Rattle.std.specs.Prelude.{replicate}
use Rattle.std.proofs.lemmas.List.{length-append, length-replicate}
use Rattle.tpal_syntax.specs.declared.words.Word.TheVariants.{Nil}
use Rattle.stack_marks.proofs.Rising.{widen}
use Rattle.stack_marks.proofs.cells.Stack.push_growing.Goals as goal

pub invariant_of-self-2 : goal.invariant_of-self-2
invariant_of-self-2 c =
    let base = c.self.inside.base in
    let old = c.self.inside.cells.items in
    let reserved = c.reserve-2.new.self.items in
    let size : length c.add_nothing.new.cells.items ≡ length old + c.args.cells = ap length c.in_ok-add_nothing.ensures.added ∙ length-append reserved (replicate c.args.cells Nil) ∙ ap (λ n. n + length (replicate c.args.cells Nil)) (ap length c.reserve-2.ensures.items) ∙ ap (λ n. length old + n) (length-replicate c.args.cells Nil) in
    record {
      base_low = c.self.invariant.base_low;
      top_low = omega (arith, size, c.if-self-len-gt-MAX_STACK_POSITION.false);
      in_order = rw c.in_ok-reserve.ensures.marks (widen base base _ _ c.self.inside.links.marks (omega arith) (omega (arith, size)) c.self.invariant.in_order);
      lowest = rw c.in_ok-reserve.ensures.lowest c.self.invariant.lowest;
      room = omega (arith, size, c.in_ok-reserve.ensures.room, c.in_ok-reserve.ensures.lowest, c.skipped.ensures);
    }
