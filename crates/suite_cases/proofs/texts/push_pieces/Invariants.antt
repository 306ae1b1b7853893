-- Each piece takes a token at least.
use Rattle.std.proofs.Common.{length}
use Rattle.suite_cases.proofs.texts.push_pieces.Given as goal

abbrev pub decreases-loop-first : goal.decreases-loop-first
decreases-loop-first l = length l.rest
