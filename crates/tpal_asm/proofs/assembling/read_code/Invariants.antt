use Rattle.std.proofs.Common.{length}
use Rattle.tpal_asm.specs.Labels.{heads}
use Rattle.tpal_asm.specs.Steps.{seen}
use Rattle.tpal_asm.proofs.Loops.{Led}
use Rattle.tpal_asm.proofs.assembling.read_code.Given as goal

abbrev pub invariant-loop-first : goal.invariant-loop-first
invariant-loop-first l = Led l.labels.version l.fn.text l.rest (heads l.labels.places) (seen l.draft) l.line

abbrev pub decreases-loop-first : goal.decreases-loop-first
decreases-loop-first l = length l.rest
