use Rattle.loop_rules.proofs.Firsts.{first-tree, resolved-tree}
use Rattle.loop_rules.proofs.laws.only_the_tree_counts.Goals as goal

pub returns-clause-resolved : goal.returns-clause-resolved
returns-clause-resolved c same = resolved-tree c.args.program.now c.args.other.now same

pub returns-clause-broken : goal.returns-clause-broken
returns-clause-broken c same rule place = first-tree c.args.program.now c.args.other.now rule place same
