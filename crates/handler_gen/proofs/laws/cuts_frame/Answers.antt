use Rattle.handler_gen.proofs.FramesCut.{cuts_frame}
use Rattle.handler_gen.proofs.laws.cuts_frame.Goals as goal

pub returns : goal.returns
returns c = cuts_frame c.args.site.now c.requires.site
