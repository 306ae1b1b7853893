use Rattle.loop_check.proofs.Spared.{spared_law}
use Rattle.loop_check.proofs.laws.spared.Goals as goal

pub returns : goal.returns
returns c = λ none. spared_law c.args.program.now none
