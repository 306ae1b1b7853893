use Rattle.std.proofs.Common.{◌≡◌, [], length}
use Rattle.tpal_asm.specs.Labels.{heads}
use Rattle.tpal_asm.proofs.Loops.{Headed}
use Rattle.tpal_asm.proofs.assembling.read_labels.Given as goal

abbrev pub invariant-loop-line : goal.invariant-loop-line
invariant-loop-line l = record {
  none : heads l.none.places ≡ [];
  same : l.none.version ≡ l.fn.version;
  version : l.labels.version ≡ l.fn.version;
  so_far : Headed l.fn.version l.fn.text l.rest (heads l.labels.places);
}

abbrev pub decreases-loop-line : goal.decreases-loop-line
decreases-loop-line l = length l.rest
