use Rattle.scene_laws.proofs.Counts.TreeBlocks.{blocks_of_tree}
use Rattle.code_laws.proofs.laws.only_the_tree_counts.Goals as goal

pub returns : goal.returns
returns c = blocks_of_tree c.args.program.now c.args.other.now
