use Rattle.std.proofs.Common.{◌≡◌, drop}
use Rattle.loop_rules.specs.Sites.{in_params}
use Rattle.loop_rules.specs.Search.{lowest_in, resolved_rules}
use Rattle.loop_rules.specs.Walk.{spot_of, spot_of_params}
use Rattle.loop_rules.proofs.function.in_params.Given as goal

abbrev pub invariant-loop-x : goal.invariant-loop-x
invariant-loop-x l =
    (lowest_in resolved_rules l.found (in_params (spot_of l.spot) (drop l.x-index l.params)) ≡ lowest_in resolved_rules l.initial.found (in_params (spot_of l.initial.spot) l.params))
    × (spot_of_params (spot_of l.spot) (drop l.x-index l.params) ≡ spot_of_params (spot_of l.initial.spot) l.params)
