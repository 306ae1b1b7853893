use Rattle.tpal_machine.proofs.Given.{pauses_at}
use Rattle.tpal_machine.proofs.Turns.{turn_once, turn_goes_on}
use Rattle.tpal_machine.proofs.laws.turns_by_steps.Goals as goal

pub returns-clause-once : goal.returns-clause-once
returns-clause-once c = λ heartbeat allowed state. turn_once heartbeat allowed c.args.code.now state

pub returns-clause-on : goal.returns-clause-on
returns-clause-on c = λ first more heartbeat allowed beats state after is. turn_goes_on first more heartbeat allowed c.args.code.now beats state after is

pub returns-clause-pauses : goal.returns-clause-pauses
returns-clause-pauses c = λ budget heartbeat allowed state after runs is. pauses_at budget c.args.code.now heartbeat allowed state after c.blocks-blocks.ensures.right runs is
