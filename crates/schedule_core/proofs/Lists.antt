-- Lists.
use Rattle.std.proofs.Common.{◌≡◌, ℕ, ◌+◌, [], ◌∷◌, ◌++◌, replicate}
use Rattle.std.proofs.lemmas.Grind.{replicate_next}

-- one more of the same
pub replicate_more : {X : Type 0} (n : ℕ) (y : X) → replicate (n + 1) y ≡ replicate n y ++ y ∷ []
replicate_more n y = replicate_next n y
