use Rattle.schedule_core.proofs.Ruling.{not_stuck}
use Rattle.schedule_core.proofs.laws.never_stuck.Goals as goal

pub returns : goal.returns
returns c = λ heartbeat forks records workers w out config task due allowed few room so q st. not_stuck c.args.code.now c.blocks-blocks.ensures.right heartbeat forks records workers w out config task due allowed few room so q st
