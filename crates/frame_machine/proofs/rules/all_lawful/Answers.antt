use Rattle.frame_machine.proofs.RulesLawful.{all_lawful}
use Rattle.frame_machine.proofs.rules.all_lawful.Goals as goal

pub returns : goal.returns
returns c = λ none. all_lawful c.args.program.now none
