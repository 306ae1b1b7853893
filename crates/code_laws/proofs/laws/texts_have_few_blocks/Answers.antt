use Rattle.scene_laws.proofs.Counts.FewBlocks.{few_blocks_of}
use Rattle.code_laws.proofs.laws.texts_have_few_blocks.Goals as goal

pub returns : goal.returns
returns c = few_blocks_of c.args.source.now c.args.program.now
