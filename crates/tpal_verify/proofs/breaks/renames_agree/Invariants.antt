use Rattle.std.proofs.Common.{◌≡◌, [], ◌∷◌, length, map}
use Rattle.tpal_verify.specs.Breaks.{lists_agree}
use Rattle.tpal_verify.proofs.breaks.renames_agree.Given as goal

-- what is left decides
abbrev pub invariant-loop-names : goal.invariant-loop-names
invariant-loop-names l =
    lists_agree (l.join ∷ []) (map (λ p. p.0) l.rest) ≡ lists_agree (l.fn.join ∷ []) (map (λ p. p.0) l.fn.renames)

abbrev pub decreases-loop-names : goal.decreases-loop-names
decreases-loop-names l = length l.rest
