use Rattle.std.proofs.Common.{false, [], refl, sym, subst, ap}
use Rattle.std.specs.Prelude.{length}
use Rattle.tpal_machine.specs.Owes.{Bound}
use Rattle.tpal_machine.specs.State.{first_state}
use Rattle.tpal_machine.proofs.Given.{first_of}
use Rattle.sum_code.specs.Sum.{prints_sum}
use Rattle.sum_code.proofs.Unmarked.{owes_sum, enters_none}
use Rattle.sum_code.proofs.laws.unmarked_has_no_point.Goals as goal

pub returns-clause-owed : goal.returns-clause-owed
returns-clause-owed c = λ heartbeat limit. record {
  belongs =
      (first_of c.args.code.now [] limit c.blocks-blocks.ensures.right
      (sym (ap (λ code. length code.tables) c.requires))).belongs;
  waits_not = refl;
  bound =
      subst (λ code. Bound code heartbeat false 0 (first_state [] limit) (prints_sum 3))
      (sym c.requires) (owes_sum heartbeat limit);
}

pub returns-clause-no_point : goal.returns-clause-no_point
returns-clause-no_point c = λ heartbeat least limit e owes.
    enters_none heartbeat limit least e
    (subst (λ code. Bound code heartbeat false least (first_state [] limit) e) c.requires owes.bound)
