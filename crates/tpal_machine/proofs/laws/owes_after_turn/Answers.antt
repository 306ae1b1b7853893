use Rattle.tpal_machine.proofs.Owed.{after_turn}
use Rattle.tpal_machine.proofs.laws.owes_after_turn.Goals as goal

pub returns : goal.returns
returns c = λ budget heartbeat n allowed due state e owes. after_turn c.args.code.now heartbeat c.blocks-blocks.ensures.right budget n allowed due state e owes
