use Rattle.std.proofs.Common.{ℕ, ◌<◌, ◌-◌}
use Rattle.std.specs.Prelude.{IsSome}
use Rattle.slices.specs.Pieces.{piece_at}
use Rattle.slices.proofs.pieces.Pieces.is_full.Given as goal

abbrev pub invariant-loop-at : goal.invariant-loop-at
invariant-loop-at l = (i : ℕ) → i < l.at → IsSome (piece_at l.self i)

abbrev pub decreases-loop-at : goal.decreases-loop-at
decreases-loop-at l = l.n - l.at
