use Rattle.std.proofs.Common.{◌≡◌, ℕ, take}
use Rattle.std.specs.Vec.{vec_len}
use Rattle.slices.specs.Spans.{held_in}
use Rattle.slices.proofs.boxes.copies_of.Given as goal

abbrev pub invariant-loop-chunk : goal.invariant-loop-chunk
invariant-loop-chunk l = record {
  same : (k j : ℕ) → held_in l.copies.items k j ≡ held_in (take l.chunk-index l.list) k j;
  len : vec_len l.copies ≡ l.chunk-index;
}
