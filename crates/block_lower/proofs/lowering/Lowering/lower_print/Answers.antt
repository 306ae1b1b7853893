use Rattle.block_lower.proofs.Written.Lowered.{print_written}
use Rattle.block_lower.proofs.lowering.Lowering.lower_print.Goals as goal

pub returns-clause-code : goal.returns-clause-code
returns-clause-code c = λ on reduces place.
    print_written on reduces c.args.self.now.scope place c.args.e.now c.args.self.now.out
    c.value.new.self.out c.push.new.self.out c.in_ok-value.ensures.code
    c.in_ok-push.ensures.pushed
