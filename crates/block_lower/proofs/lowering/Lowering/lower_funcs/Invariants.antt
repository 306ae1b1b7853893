use Rattle.std.proofs.Common.{◌≡◌, ◌+◌, [], take}
use Rattle.block_lower.specs.Programs.{added_by_funcs, LowersFuncs}
use Rattle.block_lower.specs.Writing.{next_label, IsFresh}
use Rattle.block_lower.proofs.Written.WrittenFunctions.{StandAlike}
use Rattle.block_lower.proofs.lowering.Lowering.lower_funcs.Given as goal

abbrev pub invariant-loop-f : goal.invariant-loop-f
invariant-loop-f l = record {
  labels : next_label l.self.out
      ≡ next_label l.initial.self.out
      + added_by_funcs l.initial.self.on.quiet_calls (take l.f-index l.fs);
  cells : l.self.scope.cells.items ≡ [];
  regs : l.self.scope.regs ≡ l.initial.self.scope.regs;
  tables : l.self.scope.tables ≡ l.initial.self.scope.tables;
  alike : StandAlike l.self.on l.initial.self.on;
  fresh : IsFresh l.self.out;
  code : LowersFuncs l.initial.self.on l.initial.self.scope (take l.f-index l.fs)
      l.initial.self.out l.self.out;
}
