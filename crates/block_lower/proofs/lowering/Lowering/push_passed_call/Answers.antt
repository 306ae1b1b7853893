use Rattle.std.proofs.Common.{◌∙◌}
use Rattle.block_lower.proofs.Written.LoweredPairs.{passed_call_written}
use Rattle.block_lower.proofs.lowering.Lowering.push_passed_call.Goals as goal

pub returns-clause-code : goal.returns-clause-code
returns-clause-code c =
    let pass = c.in_ok-passed.ensures in
    let tick = c.in_ok-push_tick.ensures in
    passed_call_written c.args.self.now.on c.args.count c.args.target c.args.back
    c.args.self.now.out c.passed.new.self.out c.push_tick.new.self.out c.push_entry.new.self.out
    pass.code tick.pushed (rw (tick.on ∙ pass.on) at c.in_ok-push_entry.ensures.code)
