use Rattle.schedule_core.proofs.Ruling.{one_outcome}
use Rattle.schedule_core.proofs.laws.one_outcome.Goals as goal

pub returns : goal.returns
returns c = λ heartbeat forks records workers fuel held out e last events few room paid some owes run is. one_outcome c.args.code.now c.blocks-blocks.ensures.right heartbeat forks records workers fuel held out e last events few room paid some owes run is
