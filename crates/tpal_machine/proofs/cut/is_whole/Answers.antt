use Rattle.tpal_machine.proofs.Parting.{whole_test}
use Rattle.tpal_machine.proofs.cut.is_whole.Goals as goal

pub returns : goal.returns
returns c = whole_test c.args.held.now c.is_whole.result c.is_whole.ensures
