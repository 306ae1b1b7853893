use Rattle.schedule_core.proofs.Sharing.{shared_end}
use Rattle.schedule_core.proofs.solo_laws.solo_run_counts.Goals as goal

pub returns : goal.returns
returns c = λ heartbeat forks fuel held out outcome tally paid room owes run. shared_end c.args.code.now c.blocks-blocks.ensures.right heartbeat forks fuel held out outcome tally paid room owes run
