use Rattle.loop_rules.specs.Search.{resolved_rules}
use Rattle.loop_rules.specs.Walk.{spot_of}
use Rattle.loop_rules.proofs.Walking.{bounds_found}
use Rattle.loop_rules.proofs.statement.in_bounds.Goals as goal

pub returns : goal.returns
returns c =
    let last = c.in_whole-2.new.found in
    bounds_found resolved_rules (spot_of c.args.spot.now) c.args.found.now c.declares.new.found c.in_whole.new.found last last last
    c.args.variable.now c.args.from.now c.args.to.now c.declares.ensures c.in_whole.ensures c.in_whole-2.ensures
