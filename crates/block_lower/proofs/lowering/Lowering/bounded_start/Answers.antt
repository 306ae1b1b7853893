use Rattle.block_lower.proofs.Written.LoweredLoops.{bounded_start_written}
use Rattle.block_lower.proofs.lowering.Lowering.bounded_start.Goals as goal

pub returns-clause-code : goal.returns-clause-code
returns-clause-code c =
    bounded_start_written c.args.self.now.scope c.args.a.now c.args.b.now c.args.again
    c.args.exit c.args.self.now.out c.bounds.new.self.out c.below.new.self.out
    c.in_ok-bounds.ensures.code c.in_ok-below.ensures.code
