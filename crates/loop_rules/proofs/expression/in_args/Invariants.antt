use Rattle.std.proofs.Common.{◌≡◌, drop}
use Rattle.loop_rules.specs.Sites.{in_args}
use Rattle.loop_rules.specs.Search.{lowest_in, resolved_rules}
use Rattle.loop_rules.specs.Walk.{spot_of}
use Rattle.loop_rules.proofs.expression.in_args.Given as goal

abbrev pub invariant-loop-e : goal.invariant-loop-e
invariant-loop-e l = lowest_in resolved_rules l.found (in_args (spot_of l.spot) (drop l.e-index l.arguments)) ≡ lowest_in resolved_rules l.initial.found (in_args (spot_of l.spot) l.arguments)
