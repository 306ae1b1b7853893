use Rattle.std.proofs.Common.{◌≡◌, [], ◌∷◌, length}
use Rattle.tpal_verify.specs.Breaks.{listed, lists_agree}
use Rattle.tpal_verify.proofs.breaks.blocks_agree.Given as goal

-- what is left decides
abbrev pub invariant-loop-block : goal.invariant-loop-block
invariant-loop-block l = lists_agree (l.join ∷ []) (listed l.rest) ≡ lists_agree (l.fn.join ∷ []) (listed l.fn.blocks)

abbrev pub decreases-loop-block : goal.decreases-loop-block
decreases-loop-block l = length l.rest
