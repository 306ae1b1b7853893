use Rattle.std.proofs.Common.{refl}
use Rattle.loop_check.proofs.statement.assigns.Goals as goal

pub returns : goal.returns
returns c = rw (c.note_if-2.ensures, c.note_if.ensures, c.any_round-outside.ensures, c.any_round-reduced.ensures, c.deref.ensures.value, c.deref-2.ensures.value) refl
