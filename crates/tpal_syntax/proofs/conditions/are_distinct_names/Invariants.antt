use Rattle.std.proofs.Common.{◌≡◌, length}
use Rattle.tpal_syntax.specs.Conditions.{are_distinct_names}
use Rattle.tpal_syntax.proofs.conditions.are_distinct_names.Given as goal

-- what is left decides
abbrev pub invariant-loop-first : goal.invariant-loop-first
invariant-loop-first l = are_distinct_names l.rest ≡ are_distinct_names l.fn.renames

abbrev pub decreases-loop-first : goal.decreases-loop-first
decreases-loop-first l = length l.rest
