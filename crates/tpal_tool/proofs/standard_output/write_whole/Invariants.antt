use Rattle.std.proofs.Common.{length}
use Rattle.tpal_tool.proofs.Pieces.{IsWrittenBut}
use Rattle.tpal_tool.proofs.standard_output.write_whole.Given as goal

abbrev pub invariant-loop-rest : goal.invariant-loop-rest
invariant-loop-rest g l = IsWrittenBut (g.W.Write.contents l.initial.to) (g.W.Write.contents l.to) l.rest l.piece

abbrev pub decreases-loop-rest : goal.decreases-loop-rest
decreases-loop-rest g l = length l.rest
