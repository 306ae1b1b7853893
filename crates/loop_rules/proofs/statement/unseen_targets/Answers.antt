use Rattle.std.proofs.Common.{◌∙◌}
use Rattle.loop_rules.specs.Walk.{spot_of}
use Rattle.loop_rules.proofs.Searching.{unseen_step}
use Rattle.loop_rules.proofs.statement.unseen_targets.Goals as goal

pub loop-r-preserved : goal.loop-r-preserved
loop-r-preserved c =
    rw (c.note_if.ensures, c.contains.ensures, c.deref.ensures.value)
    (unseen_step (spot_of c.args.spot.now) c.loop-r.found c.loop-r.r-index c.args.reduces.now c.r-item.result c.loop-r-test.true c.r-item.is ∙ c.loop-r.invariant)
