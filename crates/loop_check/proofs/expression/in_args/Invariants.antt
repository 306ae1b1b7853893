use Rattle.std.proofs.Common.{◌≡◌, drop}
use Rattle.loop_rules.specs.Sites.{in_args}
use Rattle.loop_rules.specs.Search.{lowest_in}
use Rattle.loop_check.specs.Search.{checked_rules}
use Rattle.loop_check.specs.Walk.{inside}
use Rattle.loop_check.proofs.expression.in_args.Given as goal

abbrev pub invariant-loop-e : goal.invariant-loop-e
invariant-loop-e l =
    lowest_in (checked_rules l.readers) l.found (in_args (inside l.spot) (drop l.e-index l.arguments)) ≡ lowest_in (checked_rules l.readers) l.initial.found (in_args (inside l.spot) l.arguments)
