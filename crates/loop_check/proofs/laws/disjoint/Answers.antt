use Rattle.loop_check.proofs.Law.{disjoint_law}
use Rattle.loop_check.proofs.laws.disjoint.Goals as goal

pub returns : goal.returns
returns c = λ none. disjoint_law c.args.program.now none
