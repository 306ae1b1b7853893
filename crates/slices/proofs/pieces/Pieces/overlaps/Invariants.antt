use Rattle.std.proofs.Common.{◌≡◌, ℕ, take, None}
use Rattle.std.specs.Prelude.{IsSome}
use Rattle.slices.specs.Spans.{spans_at}
use Rattle.slices.specs.Pieces.{piece_at}
use Rattle.slices.proofs.pieces.Pieces.overlaps.Given as goal

abbrev pub invariant-loop-span : goal.invariant-loop-span
invariant-loop-span l = (i : ℕ) → IsSome (spans_at (take l.span-index l.other.more.items) i) → piece_at l.self i ≡ None
