use Rattle.block_lower.proofs.Written.WrittenFunctions.{return_written}
use Rattle.block_lower.proofs.lowering.Lowering.push_return.Goals as goal

pub returns-clause-code : goal.returns-clause-code
returns-clause-code c =
    return_written c.args.self.now.out c.load.new.self.out c.close.new.self.out c.in_ok-load.ensures.pushed c.in_ok-close.ensures.closed
