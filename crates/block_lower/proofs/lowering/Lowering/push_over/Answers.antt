use Rattle.block_lower.proofs.Written.LoweredPars.{over_written}
use Rattle.block_lower.proofs.lowering.Lowering.push_over.Goals as goal

pub returns-clause-code : goal.returns-clause-code
returns-clause-code c =
    over_written c.args.site.now c.args.exit c.args.self.now.out c.pop_mark.new.self.out
    c.push_end.new.self.out c.in_ok-pop_mark.ensures.pushed c.in_ok-push_end.ensures.code
