use Rattle.tpal_syntax.proofs.Distinct.{Seen}
use Rattle.tpal_syntax.proofs.names.are_distinct.Given as goal

abbrev pub invariant-loop-name : goal.invariant-loop-name
invariant-loop-name l = Seen l.names l.name-index l.seen
