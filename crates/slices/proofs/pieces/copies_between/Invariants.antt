use Rattle.std.proofs.Common.{◌≡◌, ◌≤◌, ℕ, take}
use Rattle.std.specs.Vec.{vec_len}
use Rattle.slices.specs.Spans.{spans_at, holders, between}
use Rattle.slices.proofs.pieces.copies_between.Given as goal

abbrev pub invariant-loop-span : goal.invariant-loop-span
invariant-loop-span l = record {
  cells : (i : ℕ) → spans_at l.parts.items i ≡ between l.low l.high i (spans_at (take l.span-index l.spans) i);
  reaching : (i : ℕ) → holders l.parts.items i ≤ holders (take l.span-index l.spans) i;
  len : vec_len l.parts ≤ l.span-index;
}
