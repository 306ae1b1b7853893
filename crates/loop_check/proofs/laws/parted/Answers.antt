use Rattle.loop_check.proofs.Parts.{parted_law}
use Rattle.loop_check.proofs.laws.parted.Goals as goal

pub returns : goal.returns
returns c = λ none. parted_law c.args.program.now none
