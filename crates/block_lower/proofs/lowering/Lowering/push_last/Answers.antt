use Rattle.block_lower.proofs.Written.LoweredDeep.{last_written}
use Rattle.block_lower.proofs.lowering.Lowering.push_last.Goals as goal

pub returns-clause-code : goal.returns-clause-code
returns-clause-code c =
    last_written c.args.site.now c.args.turn c.args.self.now.out c.calc.new.self.out
    c.jump_if.new.self.out c.pop_mark.new.self.out c.close.new.self.out
    c.in_ok-calc.ensures.pushed (rw c.over_label.ensures at c.in_ok-jump_if.ensures.pushed)
    c.in_ok-pop_mark.ensures.pushed (rw c.jump.ensures at c.in_ok-close.ensures.closed)
