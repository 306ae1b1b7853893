use Rattle.tpal_machine.proofs.Undiverted.{agrees}
use Rattle.tpal_machine.proofs.laws.undiverted_step.Goals as goal

pub returns : goal.returns
returns c = λ heartbeat state. agrees c.args.code.now heartbeat state
