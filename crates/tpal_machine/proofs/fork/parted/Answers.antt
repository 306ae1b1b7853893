use Rattle.std.proofs.Common.{sym}
use Rattle.tpal_machine.proofs.fork.parted.Goals as goal

pub returns-clause-parts : goal.returns-clause-parts
returns-clause-parts c = sym (rw c.deref_mut.ensures.value at c.in_ok-rest.ensures.parts)
