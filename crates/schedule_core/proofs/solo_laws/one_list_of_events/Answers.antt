use Rattle.schedule_core.proofs.OneList.{one_shared}
use Rattle.schedule_core.proofs.solo_laws.one_list_of_events.Goals as goal

pub returns : goal.returns
returns c = λ heartbeat forks fuel held out outcome other tally later paid room owes one two. one_shared c.args.code.now c.blocks-blocks.ensures.right heartbeat forks fuel held out outcome other tally later paid room owes one two
