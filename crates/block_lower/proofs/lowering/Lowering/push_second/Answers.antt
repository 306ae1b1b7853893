use Rattle.block_lower.proofs.Written.LoweredPairs.{second_written}
use Rattle.block_lower.proofs.lowering.Lowering.push_second.Goals as goal

pub returns-clause-code : goal.returns-clause-code
returns-clause-code c =
    let alloc = c.in_ok-push.ensures in
    second_written c.args.self.now.on c.args.count c.args.target c.args.back c.args.self.now.out
    c.push.new.self.out c.push_passed_call.new.self.out alloc.pushed
    (rw alloc.on at c.in_ok-push_passed_call.ensures.code)
