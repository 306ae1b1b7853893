use Rattle.tpal_machine.proofs.Belonging.{step_of}
use Rattle.tpal_machine.proofs.Given.{answered_of, joined_of_code}
use Rattle.tpal_machine.proofs.laws.belongs_after.Goals as goal

pub returns-clause-step : goal.returns-clause-step
returns-clause-step c = λ heartbeat allowed state runs. step_of c.args.code.now heartbeat allowed state c.blocks-blocks.ensures.right runs

pub returns-clause-answered : goal.returns-clause-answered
returns-clause-answered c = λ rec waits is. answered_of c.args.code.now waits rec is

pub returns-clause-joined : goal.returns-clause-joined
returns-clause-joined c = λ rest left right rest_of left_of right_of. joined_of_code c.args.code.now rest left right c.blocks-blocks.ensures.right rest_of left_of right_of
