use Rattle.loop_meaning.proofs.TreeMeanings.{whole_of_tree, meaning_of_tree, chances_of_tree}
use Rattle.loop_meaning.proofs.laws.only_the_tree_counts.Goals as goal

pub returns-clause-run : goal.returns-clause-run
returns-clause-run c = λ same. whole_of_tree c.args.program.now c.args.other.now c.args.tables.now c.args.fuel same

pub returns-clause-outcome : goal.returns-clause-outcome
returns-clause-outcome c = λ same. meaning_of_tree c.args.program.now c.args.other.now c.args.tables.now c.args.fuel same

pub returns-clause-chances : goal.returns-clause-chances
returns-clause-chances c = λ same. chances_of_tree c.args.program.now c.args.other.now c.args.tables.now c.args.fuel same
