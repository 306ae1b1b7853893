use Rattle.std.proofs.Common.{◌∙◌}
use Rattle.loop_rules.specs.Search.{resolved_rules}
use Rattle.loop_rules.specs.Walk.{spot_of}
use Rattle.loop_rules.proofs.Searching.{args_step}
use Rattle.loop_rules.proofs.expression.in_args.Goals as goal

pub loop-e-preserved : goal.loop-e-preserved
loop-e-preserved c =
    rw c.in_whole.ensures (args_step resolved_rules (spot_of c.args.spot.now) c.loop-e.found c.loop-e.e-index c.args.arguments.now c.e-item.result c.loop-e-test.true c.e-item.is ∙ c.loop-e.invariant)
