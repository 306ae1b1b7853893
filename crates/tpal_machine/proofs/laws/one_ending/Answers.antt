use Rattle.tpal_machine.proofs.Owing as owing
use Rattle.tpal_machine.proofs.laws.one_ending.Goals as goal

pub returns : goal.returns
returns c = λ heartbeat due n m state e f one other. owing.one_ending c.args.code.now heartbeat due n m state e f one.bound other.bound
