use Rattle.tpal_verify.proofs.Least.{same_flows}
use Rattle.tpal_verify.proofs.laws.flows_come_in_any_order.Goals as goal

pub returns : goal.returns
returns c = λ shapes flows others p q. same_flows shapes flows others p q
