use Rattle.std.proofs.Common.{◌∙◌}
use Rattle.loop_check.specs.Walk.{rounds_of}
use Rattle.loop_check.proofs.Backwards.{targets_step}
use Rattle.loop_check.proofs.clauses.targets.Goals as goal

pub loop-i-preserved : goal.loop-i-preserved
loop-i-preserved c =
    rw (c.note_if.ensures, c.bad_target.ensures)
    (targets_step c.loop-i.found c.loop-i.i (rounds_of c.args.spot.now.rounds.now) c.args.reduces.now c.index-reduces-i.result c.loop-i-test.true c.index-reduces-i.is ∙ c.loop-i.invariant)
