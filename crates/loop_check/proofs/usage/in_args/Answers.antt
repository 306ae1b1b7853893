use Rattle.std.proofs.Common.{◌∙◌}
use Rattle.loop_check.proofs.Using.{args_uses}
use Rattle.loop_check.proofs.usage.in_args.Goals as goal

pub loop-e-preserved : goal.loop-e-preserved
loop-e-preserved c = rw c.in_expr.ensures (args_uses c.args.usage.now c.loop-e.found c.loop-e.e-index c.args.arguments.now c.e-item.result c.loop-e-test.true c.e-item.is ∙ c.loop-e.invariant)
