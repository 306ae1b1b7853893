use Rattle.std.proofs.Common.{ap, length, arith}
use Rattle.std.specs.Prelude.{replicate}
use Rattle.std.proofs.lemmas.List.{length-append, length-replicate}
use Rattle.tpal_syntax.specs.declared.words.Word.TheVariants.{Nil}
use Rattle.stack_marks.proofs.Rising.{widen}
use Rattle.stack_marks.proofs.cells.Stack.push.Goals as goal

pub invariant_of-self-2 : goal.invariant_of-self-2
invariant_of-self-2 c = record {
  base_low = c.self.invariant.base_low;
  top_low = omega (arith, ap length c.in_ok-add_nothing.ensures.added, length-append c.self.inside.cells.items (replicate c.args.cells Nil), length-replicate c.args.cells Nil);
  in_order = widen c.self.inside.base c.self.inside.base _ _ c.self.inside.links.marks (omega arith) (omega (arith, ap length c.in_ok-add_nothing.ensures.added, length-append c.self.inside.cells.items (replicate c.args.cells Nil), length-replicate c.args.cells Nil)) c.self.invariant.in_order;
  lowest = c.self.invariant.lowest;
  room = omega (arith, ap length c.in_ok-add_nothing.ensures.added, length-append c.self.inside.cells.items (replicate c.args.cells Nil), length-replicate c.args.cells Nil, c.if-room-skipped.false, c.room.ensures, c.skipped.ensures);
}
