use Rattle.block_lower.proofs.Written.Stepping.{on_ok}
use Rattle.block_lower.proofs.lowering.Lowering.lower_put.Goals as goal

pub returns-then-is_low_at-2-clause-code : goal.returns-then-is_low_at-2-clause-code
returns-then-is_low_at-2-clause-code c =
    on_ok c.put_low.result (λ h round. h c.args.self.now.on round) c.put_low.ensures.code
