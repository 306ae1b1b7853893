use Rattle.tpal_machine.proofs.Owed.{after_step}
use Rattle.tpal_machine.proofs.laws.owes_after_step.Goals as goal

pub returns : goal.returns
returns c = λ heartbeat n due state e owes. after_step c.args.code.now heartbeat c.blocks-blocks.ensures.right due n state e owes
