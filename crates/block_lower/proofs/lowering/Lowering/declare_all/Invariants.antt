use Rattle.std.proofs.Common.{◌≡◌, ◌+◌, ◌++◌, length, take}
use Rattle.loop_rules.specs.Names.{texts}
use Rattle.scene_laws.specs.Names.{SeesAfter}
use Rattle.block_lower.specs.Conforming.{Conforms}
use Rattle.block_lower.proofs.lowering.Lowering.declare_all.Given as goal

abbrev pub invariant-loop-x : goal.invariant-loop-x
invariant-loop-x l = record {
  sees : SeesAfter (λ names. names ++ texts (take l.x-index l.params)) l.initial.self.scope
      l.self.scope;
  cells : length l.self.scope.cells.items
      ≡ length l.initial.self.scope.cells.items + l.x-index;
  tables : l.self.scope.tables ≡ l.initial.self.scope.tables;
  regs : l.self.scope.regs ≡ l.initial.self.scope.regs;
  on : l.self.on ≡ l.initial.self.on;
  out : l.self.out ≡ l.initial.self.out;
  fit : Conforms l.initial.self → Conforms l.self;
}
