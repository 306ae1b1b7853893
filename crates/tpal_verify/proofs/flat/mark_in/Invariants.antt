use Rattle.std.proofs.Common.{◌≡◌, length}
use Rattle.tpal_verify.specs.Flat.{mark_in}
use Rattle.tpal_verify.proofs.flat.mark_in.Given as goal

-- what is left decides
abbrev pub invariant-loop-instr : goal.invariant-loop-instr
invariant-loop-instr l = mark_in l.rest ≡ mark_in l.fn.body

abbrev pub decreases-loop-instr : goal.decreases-loop-instr
decreases-loop-instr l = length l.rest
