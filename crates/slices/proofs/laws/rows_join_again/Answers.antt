use Rattle.slices.proofs.JoinLaws.{rows_apart, rows_again}
use Rattle.slices.proofs.laws.rows_join_again.Goals as goal

pub returns-clause-apart : goal.returns-clause-apart
returns-clause-apart c = rows_apart c.args.held.now c.args.at

pub returns-clause-joined : goal.returns-clause-joined
returns-clause-joined c = rows_again c.args.held.now c.args.at
