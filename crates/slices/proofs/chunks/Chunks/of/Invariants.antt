use Rattle.std.proofs.Common.{◌≡◌, ◌<◌, ◌≤◌, ◌+◌, ◌-◌, ◌/◌, ◌%◌, ℕ, length, Some}
use Rattle.std.specs.Vec.{vec_len}
use Rattle.slices.specs.Spans.{number, in_list}
use Rattle.slices.proofs.chunks.Chunks.of.Given as goal

abbrev pub invariant-loop-done : goal.invariant-loop-done
invariant-loop-done l = record {
  below : l.done ≤ length l.cells;
  cells : (i : ℕ) → l.start ≤ i → i < l.start + l.done → in_list l.start l.list.items i ≡ Some (number l.cells (i - l.start));
  len : l.done < length l.cells → vec_len l.list ≡ (l.start + l.done) / 256 - l.start / 256;
  aligned : 0 < l.done → l.done < length l.cells → (l.start + l.done) % 256 ≡ 0;
}

abbrev pub decreases-loop-done : goal.decreases-loop-done
decreases-loop-done l = length l.cells - l.done
