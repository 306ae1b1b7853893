use Rattle.std.proofs.Common.{◌≡◌, drop}
use Rattle.loop_rules.specs.Sites.{in_carries}
use Rattle.loop_rules.specs.Search.{lowest_in}
use Rattle.loop_check.specs.Search.{checked_rules}
use Rattle.loop_check.specs.Walk.{inside}
use Rattle.loop_check.proofs.expression.in_carries.Given as goal

abbrev pub invariant-loop-c : goal.invariant-loop-c
invariant-loop-c l =
    lowest_in (checked_rules l.readers) l.found (in_carries (inside l.spot) (drop l.c-index l.carries)) ≡ lowest_in (checked_rules l.readers) l.initial.found (in_carries (inside l.spot) l.carries)
