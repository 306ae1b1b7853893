use Rattle.std.proofs.Common.{to_z-of_z}
use Rattle.block_lower.proofs.Written.LoweredLoops.{start_written}
use Rattle.block_lower.proofs.lowering.Lowering.start.Goals as goal

pub returns-clause-code : goal.returns-clause-code
returns-clause-code c =
    start_written c.args.self.now.scope c.args.a.now c.args.bound c.args.again c.args.exit
    c.args.self.now.out c.value.new.self.out c.store.new.self.out c.below.new.self.out
    c.in_ok-value.ensures.code
    (rw (c.value_cell-cell.ensures, c.level.ensures) at c.in_ok-store.ensures.pushed)
    (simp (to_z-of_z, c.ranges.bound) at c.in_ok-below.ensures.code)
