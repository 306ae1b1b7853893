use Rattle.std.proofs.Common.{◌≡◌, ◌≤◌, ℕ, ◌-◌}
use Rattle.std.specs.Vec.{vec_len, vec_capacity}
use Rattle.slices.specs.Pieces.{piece_at, reaching}
use Rattle.slices.proofs.pieces.Pieces.join_more.Given as goal

abbrev pub invariant-loop-k : goal.invariant-loop-k
invariant-loop-k l = record {
  cells : (i : ℕ) → reaching l.initial.self i ≤ 1 → piece_at l.self i ≡ piece_at l.initial.self i;
  reaching : (i : ℕ) → reaching l.self i ≡ reaching l.initial.self i;
  len : vec_len l.self.more ≤ vec_len l.initial.self.more;
  capacity : vec_capacity l.self.more ≡ vec_capacity l.initial.self.more;
}

abbrev pub decreases-loop-k : goal.decreases-loop-k
decreases-loop-k l = vec_len l.self.more - l.k
