use Rattle.std.proofs.Common.{◌≡◌, [], ◌∷◌, length}
use Rattle.tpal_verify.specs.Rounds.{right_kinds}
use Rattle.tpal_verify.proofs.combs.fill_right.Given as goal

-- what is left to fill
abbrev pub invariant-loop-names : goal.invariant-loop-names
invariant-loop-names l = right_kinds (l.join ∷ []) l.kinds.items l.rest ≡ right_kinds (l.fn.join ∷ []) l.fn.kinds.items l.fn.renames

abbrev pub decreases-loop-names : goal.decreases-loop-names
decreases-loop-names l = length l.rest
