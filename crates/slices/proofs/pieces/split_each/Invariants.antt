use Rattle.std.proofs.Common.{◌≡◌, ◌≤◌, ◌+◌, ℕ, take, drop, cond, None}
use Rattle.std.specs.Prelude.{nat_lt}
use Rattle.std.specs.Vec.{vec_len, vec_capacity}
use Rattle.slices.specs.Spans.{spans_at, holders}
use Rattle.slices.proofs.pieces.split_each.Given as goal

abbrev pub invariant-loop-span : goal.invariant-loop-span
invariant-loop-span l = record {
  kept : (i : ℕ) → spans_at (take l.span-index l.spans) i ≡ cond (nat_lt i l.at) (spans_at (take l.span-index l.initial.spans) i) None;
  given : (i : ℕ) → spans_at l.parts.items i ≡ cond (nat_lt i l.at) None (spans_at (take l.span-index l.initial.spans) i);
  reaching : (i : ℕ) → holders (take l.span-index l.spans) i + holders l.parts.items i ≡ holders (take l.span-index l.initial.spans) i;
  left : drop l.span-index l.spans ≡ drop l.span-index l.initial.spans;
  len : vec_len l.parts ≤ l.span-index;
  capacity : vec_capacity l.parts ≡ vec_capacity l.initial.parts;
}
