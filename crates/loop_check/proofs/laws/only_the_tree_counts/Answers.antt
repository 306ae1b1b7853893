use Rattle.loop_check.proofs.Firsts.{first-tree, none-tree}
use Rattle.loop_check.proofs.laws.only_the_tree_counts.Goals as goal

pub returns-clause-unbroken : goal.returns-clause-unbroken
returns-clause-unbroken c same = none-tree c.args.program.now c.args.other.now same

pub returns-clause-broken : goal.returns-clause-broken
returns-clause-broken c same = first-tree c.args.program.now c.args.other.now same
