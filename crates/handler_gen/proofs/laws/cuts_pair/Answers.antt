use Rattle.handler_gen.proofs.FramesCut.{cuts_pair}
use Rattle.handler_gen.proofs.laws.cuts_pair.Goals as goal

pub returns : goal.returns
returns c = cuts_pair c.args.site.now c.requires.site
