use Rattle.std.proofs.Common.{◌≡◌, ◌+◌, length}
use Rattle.tpal_verify.specs.Breaks.{first_from}
use Rattle.tpal_verify.proofs.breaks.first_from.Given as goal

-- what is left decides
abbrev pub invariant-loop-block : goal.invariant-loop-block
invariant-loop-block l = record {
  left : first_from l.ground l.agree l.label l.blocks l.rest ≡ first_from l.fn.ground l.fn.agree 0 l.fn.ground.blocks l.fn.traces;
  seen : l.label + length l.blocks ≡ length l.fn.ground.blocks;
}

abbrev pub decreases-loop-block : goal.decreases-loop-block
decreases-loop-block l = length l.blocks
