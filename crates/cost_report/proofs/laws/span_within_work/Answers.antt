use Rattle.cost_report.proofs.Spans.{whole_within, statements_within}
use Rattle.cost_report.proofs.laws.span_within_work.Goals as goal

pub returns-clause-whole : goal.returns-clause-whole
returns-clause-whole c = whole_within c.args.program.now c.args.tables.now c.args.fuel

pub returns-clause-statements : goal.returns-clause-statements
returns-clause-statements c = λ depth rs body s l. statements_within c.args.program.now c.args.fuel depth rs body s l
