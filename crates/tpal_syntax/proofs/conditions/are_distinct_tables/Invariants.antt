use Rattle.std.proofs.Common.{◌≡◌, length}
use Rattle.tpal_syntax.specs.Conditions.{are_distinct_tables}
use Rattle.tpal_syntax.proofs.conditions.are_distinct_tables.Given as goal

-- what is left decides
abbrev pub invariant-loop-first : goal.invariant-loop-first
invariant-loop-first l = are_distinct_tables l.rest ≡ are_distinct_tables l.fn.items

abbrev pub decreases-loop-first : goal.decreases-loop-first
decreases-loop-first l = length l.rest
