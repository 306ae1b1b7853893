use Rattle.tpal_machine.proofs.Owing.{no_least}
use Rattle.tpal_machine.proofs.laws.owes_at_all.Goals as goal

pub returns : goal.returns
returns c = λ heartbeat n due state e owes. record { belongs = owes.belongs; waits_not = owes.waits_not; bound = no_least c.args.code.now heartbeat due n state e owes.bound }
