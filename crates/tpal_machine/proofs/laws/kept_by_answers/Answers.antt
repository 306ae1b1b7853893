use Rattle.tpal_machine.proofs.Keeping.{answer_keeps}
use Rattle.tpal_machine.proofs.laws.kept_by_answers.Goals as goal

pub returns : goal.returns
returns c = λ rec waits asked none. answer_keeps rec waits asked none
