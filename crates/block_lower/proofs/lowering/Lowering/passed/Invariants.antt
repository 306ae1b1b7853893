use Rattle.std.proofs.Common.{◌≡◌}
use Rattle.block_lower.specs.Lowering.{WritesPassed}
use Rattle.block_lower.specs.Conforming.{Conforms}
use Rattle.block_lower.specs.Writing.{next_label}
use Rattle.block_lower.proofs.lowering.Lowering.passed.Given as goal

abbrev pub invariant-loop-i : goal.invariant-loop-i
invariant-loop-i l = record {
  labels : next_label l.self.out ≡ next_label l.initial.self.out;
  code : WritesPassed l.initial.self.on l.i l.initial.self.out l.self.out;
  on : l.self.on ≡ l.initial.self.on;
  scope : l.self.scope ≡ l.initial.self.scope;
  fit : Conforms l.initial.self → Conforms l.self;
}
