use Rattle.std.proofs.Common.{false, [], refl, sym, subst, ap, ◌-◌}
use Rattle.std.specs.Prelude.{length}
use Rattle.tpal_machine.specs.Owes.{Bound}
use Rattle.tpal_machine.specs.State.{first_state}
use Rattle.tpal_machine.proofs.Given.{first_of}
use Rattle.sum_code.specs.Sum.{prints_sum}
use Rattle.sum_code.proofs.Summing.{run_owes}
use Rattle.sum_code.proofs.laws.each_number_is_a_point.Goals as goal

pub returns : goal.returns
returns c = λ heartbeat limit. record {
  belongs =
      (first_of c.args.code.now [] limit c.blocks-blocks.ensures.right
      (sym (ap (λ code. length code.tables) c.requires.code))).belongs;
  waits_not = refl;
  bound =
      subst
      (λ code.
      Bound code heartbeat false (c.args.count - 1) (first_state [] limit)
      (prints_sum c.args.count))
      (sym c.requires.code) (run_owes c.args.count heartbeat limit c.requires.some c.requires.few);
}
