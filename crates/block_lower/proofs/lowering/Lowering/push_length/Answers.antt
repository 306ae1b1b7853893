use Rattle.block_lower.proofs.Written.LoweredPars.{length_written}
use Rattle.block_lower.proofs.lowering.Lowering.push_length.Goals as goal

pub returns-clause-code : goal.returns-clause-code
returns-clause-code c =
    length_written c.args.self.now.out c.calc.new.self.out c.push_length_test.new.self.out
    c.calc-2.new.self.out c.in_ok-calc.ensures.pushed
    (rw c.next_label-wide.ensures at c.in_ok-push_length_test.ensures.pushed)
    c.in_ok-calc-2.ensures.pushed
