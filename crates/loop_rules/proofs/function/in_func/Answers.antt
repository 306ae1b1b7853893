use Rattle.std.proofs.Common.{◌++◌, ◌∙◌, ap, Option}
use Rattle.loop_rules.specs.Sites.{Spot, in_params, in_list, in_whole, spot_of_list}
use Rattle.loop_rules.specs.declared.fault.Fault.{Fault}
use Rattle.loop_rules.specs.Search.{lowest_in, resolved_rules}
use Rattle.loop_rules.specs.Walk.{spot_of, spot_of_params}
use Rattle.loop_rules.proofs.Walking.{two_parts}
use Rattle.loop_rules.proofs.function.in_func.Goals as goal

pub returns : goal.returns
returns c =
    let w = spot_of c.args.spot.now in
    let f = c.args.func.now in
    let s = spot_of_params w f.params.items in
    let e = spot_of_list s f.body.items in
    let one = rw c.deref.ensures.value at c.in_ok-in_params.ensures in
    let two = rw (one.stands, c.deref-2.ensures.value) at c.in_ok-in_list.ensures in
    let three = c.in_whole.ensures ∙ ap {A = Spot} {B = Option Fault} (λ u. lowest_in resolved_rules c.in_list.new.found (in_whole u f.result)) two.stands in
    two_parts resolved_rules c.args.found.now c.in_params.new.found c.in_whole.new.found (in_params w f.params.items) (in_list s f.body.items ++ in_whole e f.result) one.found
    (two_parts resolved_rules c.in_params.new.found c.in_list.new.found c.in_whole.new.found (in_list s f.body.items) (in_whole e f.result) two.found three)
