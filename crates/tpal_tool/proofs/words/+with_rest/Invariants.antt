use Rattle.std.proofs.Common.{length}
use Rattle.tpal_tool.proofs.words.+with_rest.Given as goal

abbrev pub decreases-with_rest : goal.decreases-with_rest
decreases-with_rest l = length l.words.now
