use Rattle.std.proofs.Common.{◌≡◌, length}
use Rattle.tpal_verify.specs.Flat.{mark_of}
use Rattle.tpal_verify.proofs.flat.mark_of.Given as goal

-- what is left decides
abbrev pub invariant-loop-block : goal.invariant-loop-block
invariant-loop-block l = mark_of l.rest ≡ mark_of l.fn.blocks

abbrev pub decreases-loop-block : goal.decreases-loop-block
decreases-loop-block l = length l.rest
