use Rattle.block_lower.proofs.Written.LoweredPars.{end_written}
use Rattle.block_lower.proofs.lowering.Lowering.push_end.Goals as goal

pub returns-clause-code : goal.returns-clause-code
returns-clause-code c =
    end_written c.args.site.now c.args.exit c.args.self.now.out c.load.new.self.out
    c.calc.new.self.out c.jump_if.new.self.out c.close.new.self.out
    c.in_ok-load.ensures.pushed c.in_ok-calc.ensures.pushed c.in_ok-jump_if.ensures.pushed
    (rw (c.jump.ensures, c.side_label.ensures) at c.in_ok-close.ensures.closed)
