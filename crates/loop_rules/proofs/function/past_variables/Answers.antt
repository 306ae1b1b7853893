use Rattle.std.proofs.Common.{refl}
use Rattle.std.specs.Borrow.{Bor}
use Rattle.loop_syntax.specs.declared.Name.{Name}
use Rattle.loop_rules.proofs.Searching.{past_at, past_out}
use Rattle.loop_rules.proofs.function.past_variables.Goals as goal

pub returns-then-names-gt-MAX_DECLARED_VARIABLES : goal.returns-then-names-gt-MAX_DECLARED_VARIABLES
returns-then-names-gt-MAX_DECLARED_VARIABLES c =
    let noted = rw (← c.index-names-200.is) at c.note.ensures in
    rw (past_at {A = Bor Name} (λ x. x.now) c.args.names.now 200 c.index-names-200.result c.if-names-gt-MAX_DECLARED_VARIABLES.true c.index-names-200.is) noted

pub returns-else-names-gt-MAX_DECLARED_VARIABLES : goal.returns-else-names-gt-MAX_DECLARED_VARIABLES
returns-else-names-gt-MAX_DECLARED_VARIABLES c =
    rw (past_out {A = Bor Name} (λ x. x.now) c.args.names.now 200 c.if-names-gt-MAX_DECLARED_VARIABLES.false) refl
