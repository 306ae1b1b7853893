use Rattle.std.proofs.Common.{◌≡◌, ℕ, take, None}
use Rattle.std.specs.Prelude.{IsSome}
use Rattle.slices.specs.Spans.{span_at, spans_at}
use Rattle.slices.proofs.pieces.meets_one_of.Given as goal

abbrev pub invariant-loop-span : goal.invariant-loop-span
invariant-loop-span l = (i : ℕ) → IsSome (span_at l.other i) → spans_at (take l.span-index l.spans) i ≡ None
