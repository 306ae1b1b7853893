use Rattle.std.proofs.Common.{false, [], sym, subst, ap}
use Rattle.std.specs.Prelude.{length}
use Rattle.tpal_machine.specs.Owes.{Bound}
use Rattle.tpal_machine.specs.State.{first_state}
use Rattle.tpal_machine.proofs.Given.{first_of}
use Rattle.sum_code.proofs.KeptSum.{owes_nothing}
use Rattle.sum_code.proofs.laws.kept_sum_owes_nothing.Goals as goal

pub returns-clause-belongs : goal.returns-clause-belongs
returns-clause-belongs c = λ limit.
    (first_of c.args.code.now [] limit c.blocks-blocks.ensures.right
    (sym (ap (λ code. length code.tables) c.requires))).belongs

pub returns-clause-owes_nothing : goal.returns-clause-owes_nothing
returns-clause-owes_nothing c = λ heartbeat least limit e short owes.
    owes_nothing heartbeat limit least e short
    (subst (λ code. Bound code heartbeat false least (first_state [] limit) e) c.requires owes.bound)
