use Rattle.std.proofs.Common.{◌≡◌, ℕ, take, None}
use Rattle.slices.specs.Spans.{spans_at, holders}
use Rattle.slices.proofs.pieces.put_in.Given as goal

abbrev pub invariant-loop-span : goal.invariant-loop-span
invariant-loop-span l = record {
  same : (i : ℕ) → spans_at l.spans i ≡ spans_at l.initial.spans i;
  reaching : (i : ℕ) → holders l.spans i ≡ holders l.initial.spans i;
  passed : spans_at (take l.span-index l.spans) l.at ≡ None;
}
