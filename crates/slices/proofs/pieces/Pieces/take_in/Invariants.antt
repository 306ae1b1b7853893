use Rattle.std.proofs.Common.{◌≡◌, ◌≤◌, ◌+◌, ℕ}
use Rattle.std.specs.Vec.{vec_len, vec_capacity}
use Rattle.slices.specs.Spans.{spans_at, holders, or_else}
use Rattle.slices.specs.Pieces.{piece_at, reaching}
use Rattle.slices.proofs.pieces.Pieces.take_in.Given as goal

abbrev pub invariant-loop-span : goal.invariant-loop-span
invariant-loop-span l = record {
  cells : (i : ℕ) → reaching l.initial.self i + holders l.initial.more.items i ≤ 1 → or_else (piece_at l.self i) (spans_at l.more.items i) ≡ or_else (piece_at l.initial.self i) (spans_at l.initial.more.items i);
  reaching : (i : ℕ) → reaching l.self i + holders l.more.items i ≡ reaching l.initial.self i + holders l.initial.more.items i;
  room : vec_len l.self.more + vec_len l.more ≤ vec_capacity l.self.more;
  len : vec_len l.self.more + vec_len l.more ≤ vec_len l.initial.self.more + vec_len l.initial.more;
  capacity : vec_capacity l.self.more ≡ vec_capacity l.initial.self.more;
}

abbrev pub decreases-loop-span : goal.decreases-loop-span
decreases-loop-span l = vec_len l.more
