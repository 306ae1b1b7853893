use Rattle.std.proofs.Common.{◌≡◌, take}
use Rattle.scene_laws.specs.Sites.{rows_from}
use Rattle.block_lower.specs.Conforming.{Conforms}
use Rattle.block_lower.specs.Writing.{next_label, Pushes}
use Rattle.block_lower.proofs.lowering.Lowering.push_rows.Given as goal

abbrev pub invariant-loop-before : goal.invariant-loop-before
invariant-loop-before l = record {
  pushed : Pushes (rows_from l.initial.self.scope 0 (take l.before l.carries))
      l.initial.self.out l.self.out;
  labels : next_label l.self.out ≡ next_label l.initial.self.out;
  on : l.self.on ≡ l.initial.self.on;
  scope : l.self.scope ≡ l.initial.self.scope;
  fit : Conforms l.initial.self → Conforms l.self;
}
