use Rattle.block_lower.proofs.Written.LoweredCalls.{entry_written}
use Rattle.block_lower.proofs.lowering.Lowering.push_entry.Goals as goal

pub returns-clause-code : goal.returns-clause-code
returns-clause-code c =
    let given = c.in_ok-push_given.ensures in
    entry_written c.args.self.now.on.size c.args.label c.args.back c.args.self.now.out
    c.push_given.new.self.out c.push_move.new.self.out c.close.new.self.out given.pushed
    (rw given.on at c.in_ok-push_move.ensures.pushed)
    (rw c.jump.ensures at c.in_ok-close.ensures.closed)
