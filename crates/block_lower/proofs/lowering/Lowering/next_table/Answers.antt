use Rattle.std.proofs.Common.{arith}
use Rattle.block_lower.proofs.lowering.Lowering.next_table.Goals as goal

pub returns : goal.returns
returns c =
    omega (arith, c.len.ensures, c.args.self.now.scope.tables.ok, c.requires)
