use Rattle.tpal_machine.proofs.Undiverted as undiverted
use Rattle.tpal_machine.proofs.laws.owes_serially.Goals as goal

pub returns : goal.returns
returns c = λ heartbeat n state e one. record {
  belongs = one.belongs;
  waits_not = one.waits_not;
  bound = undiverted.owes_serially c.args.code.now heartbeat n state e one.bound;
}
