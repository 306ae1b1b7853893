use Rattle.schedule_core.proofs.Ruling.{sides_fit}
use Rattle.schedule_core.proofs.laws.sides_fit.Goals as goal

pub returns : goal.returns
returns c = λ out so. sides_fit c.args.code.now c.blocks-blocks.ensures.right c.args.config.now c.known.ensures out so c.args.event
