use Rattle.loop_check.specs.Walk.{inside}
use Rattle.loop_check.proofs.Walking.{both_found}
use Rattle.loop_check.proofs.statement.in_both.Goals as goal

pub returns : goal.returns
returns c =
    both_found c.args.readers.now (inside c.args.spot.now) c.args.found.now c.assigns.new.found c.in_app.new.found c.assigns-2.new.found c.in_app-2.new.found
    c.args.first.now c.args.first_call.now c.args.second.now c.args.second_call.now c.assigns.ensures c.in_app.ensures c.assigns-2.ensures c.in_app-2.ensures
