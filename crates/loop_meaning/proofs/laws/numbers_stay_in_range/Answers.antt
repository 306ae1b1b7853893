use Rattle.loop_meaning.proofs.Ranges.{value_in, runs_in_range, left_in_range, whole_in_range}
use Rattle.loop_meaning.proofs.laws.numbers_stay_in_range.Goals as goal

pub returns-clause-values : goal.returns-clause-values
returns-clause-values c = λ s e n h l q. value_in s h e l n q

pub returns-clause-runs : goal.returns-clause-runs
returns-clause-runs c = λ depth rs body s l m h. runs_in_range c.args.program.now c.args.fuel depth rs body s l m h

pub returns-clause-left : goal.returns-clause-left
returns-clause-left c = λ depth rs body s n l m h e. left_in_range c.args.program.now c.args.fuel depth rs body s n l m h e

pub returns-clause-whole : goal.returns-clause-whole
returns-clause-whole c = λ l h. whole_in_range c.args.program.now c.args.tables.now c.args.fuel l h
