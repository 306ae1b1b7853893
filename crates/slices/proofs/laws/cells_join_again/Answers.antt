use Rattle.slices.proofs.JoinLaws.{lower_apart, upper_apart, cells_again}
use Rattle.slices.proofs.laws.cells_join_again.Goals as goal

pub returns-clause-lower_apart : goal.returns-clause-lower_apart
returns-clause-lower_apart c = lower_apart c.args.held.now c.args.row c.args.at

pub returns-clause-upper_apart : goal.returns-clause-upper_apart
returns-clause-upper_apart c = upper_apart c.args.held.now c.args.row c.args.at

pub returns-clause-joined : goal.returns-clause-joined
returns-clause-joined c = cells_again c.args.held.now c.args.row c.args.at
