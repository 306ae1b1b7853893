use Rattle.std.proofs.Common.{◌∙◌}
use Rattle.loop_rules.specs.Search.{resolved_rules}
use Rattle.loop_rules.specs.Walk.{spot_of}
use Rattle.loop_rules.proofs.Searching.{carries_step}
use Rattle.loop_rules.proofs.expression.in_carries.Goals as goal

pub loop-c-preserved : goal.loop-c-preserved
loop-c-preserved c =
    rw c.in_carry.ensures (carries_step resolved_rules (spot_of c.args.spot.now) c.loop-c.found c.loop-c.c-index c.args.carries.now c.c-item.result c.loop-c-test.true c.c-item.is ∙ c.loop-c.invariant)
