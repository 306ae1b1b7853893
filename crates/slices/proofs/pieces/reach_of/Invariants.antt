use Rattle.std.proofs.Common.{◌≡◌, drop}
use Rattle.slices.specs.Spans.{spans_at}
use Rattle.slices.proofs.pieces.reach_of.Given as goal

abbrev pub invariant-loop-span : goal.invariant-loop-span
invariant-loop-span l = spans_at l.spans l.at ≡ spans_at (drop l.span-index l.spans) l.at
