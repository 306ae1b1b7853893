use Rattle.sample_gen.specs.Texts.{sample_source}
use Rattle.sample_gen.proofs.texts.source.Goals as goal

pub returns : goal.returns
unfolding sample_source
returns c = c.from_slice.ensures.items
