use Rattle.tpal_machine.proofs.Undiverted as undiverted
use Rattle.tpal_machine.proofs.laws.owes_unmarked.Goals as goal

pub returns : goal.returns
returns c = λ heartbeat n state e one free. record {
  belongs = one.belongs;
  waits_not = one.waits_not;
  bound = undiverted.owes_unmarked c.args.code.now heartbeat n state e one.bound free;
}
