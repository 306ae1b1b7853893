use Rattle.block_lower.proofs.Written.LoweredLoops.{some_written}
use Rattle.block_lower.proofs.lowering.Lowering.push_some.Goals as goal

pub returns-clause-code : goal.returns-clause-code
returns-clause-code c =
    some_written c.args.check c.args.exit c.args.self.now.out c.calc.new.self.out
    c.jump_if.new.self.out c.close.new.self.out c.in_ok-calc.ensures.pushed
    c.in_ok-jump_if.ensures.pushed (rw c.jump.ensures at c.in_ok-close.ensures.closed)
