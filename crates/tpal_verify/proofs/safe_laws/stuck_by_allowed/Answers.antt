use Rattle.tpal_verify.proofs.FirstTask.{stuck_by}
use Rattle.tpal_verify.proofs.safe_laws.stuck_by_allowed.Goals as goal

pub returns : goal.returns
returns c = λ shapes heartbeat allowed state fault meets knows runs is. stuck_by c.args.code.now shapes meets c.blocks-blocks.ensures.right heartbeat allowed state fault knows runs is
