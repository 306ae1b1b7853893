use Rattle.block_lower.proofs.Written.Stepping.{long_as}
use Rattle.block_lower.proofs.lowering.Lowering.level.Goals as goal

pub returns : goal.returns
returns c = long_as c.args.self.now.scope.cells c.len.result c.len.ensures
