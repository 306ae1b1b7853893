use Rattle.loop_check.specs.Walk.{inside}
use Rattle.loop_check.proofs.Walking.{bounds_found}
use Rattle.loop_check.proofs.statement.in_bounds.Goals as goal

pub returns : goal.returns
returns c =
    let last = c.in_whole-2.new.found in
    bounds_found c.args.readers.now (inside c.args.spot.now) c.args.found.now c.occurs.new.found c.in_whole.new.found last last
    c.args.variable.now c.args.from.now c.args.to.now c.occurs.ensures c.in_whole.ensures c.in_whole-2.ensures
