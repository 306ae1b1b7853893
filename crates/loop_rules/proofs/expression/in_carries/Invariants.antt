use Rattle.std.proofs.Common.{◌≡◌, drop}
use Rattle.loop_rules.specs.Sites.{in_carries}
use Rattle.loop_rules.specs.Search.{lowest_in, resolved_rules}
use Rattle.loop_rules.specs.Walk.{spot_of}
use Rattle.loop_rules.proofs.expression.in_carries.Given as goal

abbrev pub invariant-loop-c : goal.invariant-loop-c
invariant-loop-c l = lowest_in resolved_rules l.found (in_carries (spot_of l.spot) (drop l.c-index l.carries)) ≡ lowest_in resolved_rules l.initial.found (in_carries (spot_of l.spot) l.carries)
