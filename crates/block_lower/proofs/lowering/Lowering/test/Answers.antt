use Rattle.block_lower.proofs.Written.Lowered.{test_written}
use Rattle.block_lower.proofs.lowering.Lowering.test.Goals as goal

pub returns-clause-code : goal.returns-clause-code
returns-clause-code c =
    test_written c.args.self.now.scope c.args.e.now c.args.first c.args.second
    c.args.self.now.out c.value.new.self.out c.jump_if.new.self.out c.close.new.self.out
    c.in_ok-value.ensures.code c.in_ok-jump_if.ensures.pushed
    (rw c.jump.ensures at c.in_ok-close.ensures.closed)
