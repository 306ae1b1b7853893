use Rattle.std.proofs.Common.{◌∙◌}
use Rattle.block_lower.proofs.Written.LoweredPairs.{joined_written}
use Rattle.block_lower.proofs.lowering.Lowering.push_joined.Goals as goal

pub returns-clause-code : goal.returns-clause-code
returns-clause-code c =
    let stored = c.in_ok-store.ensures in
    let on = c.in_ok-push-2.ensures.on ∙ c.in_ok-push.ensures.on ∙ stored.on in
    joined_written c.args.self.now.on c.args.cell c.args.second c.args.back c.args.self.now.out
    c.store.new.self.out c.push.new.self.out c.push-2.new.self.out c.push_move.new.self.out
    c.close.new.self.out stored.pushed
    c.in_ok-push.ensures.pushed c.in_ok-push-2.ensures.pushed
    (rw on at c.in_ok-push_move.ensures.pushed)
    (rw c.jump.ensures at c.in_ok-close.ensures.closed)
