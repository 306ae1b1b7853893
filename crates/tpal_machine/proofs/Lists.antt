-- Lists.
use Rattle.std.proofs.Common.{◌≡◌, ℕ, ◌≤◌, List, length, set}
use Rattle.std.proofs.lemmas.List.{set_past}

-- a store beyond the end changes nothing
pub set_beyond : {X : Type 0} (xs : List X) (i : ℕ) (y : X) → length xs ≤ i → set xs i y ≡ xs
set_beyond xs i y past = set_past xs i y past
