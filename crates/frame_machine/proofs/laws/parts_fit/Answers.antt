use Rattle.frame_machine.proofs.Closing.{parts_fit, lower_fits, upper_fits, cut_within}
use Rattle.frame_machine.proofs.laws.parts_fit.Goals as goal

pub returns-clause-split : goal.returns-clause-split
returns-clause-split c = λ begun frame low up f e. parts_fit begun frame low up f e

pub returns-clause-lower : goal.returns-clause-lower
returns-clause-lower c = λ l first last next middle end accs f h k. lower_fits l first last next middle end accs f h k

pub returns-clause-upper : goal.returns-clause-upper
returns-clause-upper c = λ l first last next middle end accs f h k. upper_fits l first last next middle end accs f h k

pub returns-clause-cut : goal.returns-clause-cut
returns-clause-cut c = λ next end middle e. cut_within next end middle e
