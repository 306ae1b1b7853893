use Rattle.std.proofs.Common.{false, [], refl, sym, subst, ap}
use Rattle.std.specs.Prelude.{length}
use Rattle.tpal_machine.specs.Owes.{Bound}
use Rattle.tpal_machine.specs.Sample.{prints_five}
use Rattle.tpal_machine.specs.State.{first_state}
use Rattle.tpal_machine.proofs.Given.{first_of}
use Rattle.tpal_machine.proofs.Sample.{sum_owes}
use Rattle.tpal_machine.proofs.laws.sum_owes.Goals as goal

pub returns : goal.returns
returns c = λ heartbeat limit. record {
  belongs = (first_of c.args.code.now [] limit c.blocks-blocks.ensures.right (sym (ap (λ code. length code.tables) c.requires))).belongs;
  waits_not = refl;
  bound = subst (λ code. Bound code heartbeat false 0 (first_state [] limit) prints_five) (sym c.requires) (sum_owes heartbeat limit);
}
