use Rattle.tpal_machine.proofs.Keeping.{step_keeps, turn_keeps}
use Rattle.tpal_machine.proofs.laws.kept_by_steps.Goals as goal

pub returns-clause-step : goal.returns-clause-step
returns-clause-step c = λ heartbeat allowed state. step_keeps heartbeat c.args.code.now allowed state

pub returns-clause-turn : goal.returns-clause-turn
returns-clause-turn c = λ budget heartbeat allowed state. turn_keeps budget heartbeat c.args.code.now allowed state
