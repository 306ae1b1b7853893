use Rattle.block_lower.proofs.Written.LoweredCalls.{deep_test_written}
use Rattle.block_lower.proofs.lowering.Lowering.push_deep_test.Goals as goal

pub returns-clause-code : goal.returns-clause-code
returns-clause-code c =
    deep_test_written c.args.go c.args.place c.args.self.now.out c.jump_if.new.self.out
    c.push.new.self.out c.close.new.self.out c.in_ok-jump_if.ensures.pushed
    c.in_ok-push.ensures.pushed c.in_ok-close.ensures.closed
