use Rattle.std.proofs.Common.{◌∙◌}
use Rattle.loop_check.specs.Walk.{loop_of, rounds_of}
use Rattle.loop_check.proofs.Backwards.{items_step}
use Rattle.loop_check.proofs.clauses.items.Goals as goal

pub loop-i-preserved : goal.loop-i-preserved
loop-i-preserved c =
    rw (c.note_if.ensures, c.bad_carry.ensures, c.table.ensures)
    (items_step c.loop-i.found c.loop-i.i (rounds_of c.args.spot.now.rounds.now) (loop_of c.args.round.now) c.args.carries.now c.index-carries-i.result c.loop-i-test.true c.index-carries-i.is ∙ c.loop-i.invariant)
