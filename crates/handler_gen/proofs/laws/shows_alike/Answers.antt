use Rattle.handler_gen.proofs.LeafFrames.{alike}
use Rattle.handler_gen.proofs.laws.shows_alike.Goals as goal

pub returns : goal.returns
returns c = alike c.args.site.now
