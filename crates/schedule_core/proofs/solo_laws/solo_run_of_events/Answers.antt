use Rattle.schedule_core.proofs.Sharing.{solo_shared}
use Rattle.schedule_core.proofs.solo_laws.solo_run_of_events.Goals as goal

pub returns : goal.returns
returns c = λ heartbeat forks fuel held out outcome tally owes run. solo_shared c.args.code.now c.blocks-blocks.ensures.right heartbeat forks fuel held out outcome tally owes run
