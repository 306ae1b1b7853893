use Rattle.std.proofs.Common.{◌≡◌, ◌≤◌, ◌+◌, ◌++◌, drop}
use Rattle.std.specs.List.{AllByRecursion}
use Rattle.block_lower.specs.Bodies.{entries}
use Rattle.scene_laws.specs.Heights.{FuncIsLow}
use Rattle.block_lower.specs.Programs.{entries_from, added_by_funcs, FuncIsSmall}
use Rattle.block_lower.proofs.function.callees_of.Given as goal

abbrev pub invariant-loop-f : goal.invariant-loop-f
invariant-loop-f l = record {
  labels : l.label + added_by_funcs l.calls (drop l.f-index l.fs) ≤ 65536;
  small : AllByRecursion FuncIsSmall (drop l.f-index l.fs);
  low : AllByRecursion FuncIsLow (drop l.f-index l.fs);
  listed : entries l.callees.items ++ entries_from l.calls l.label (drop l.f-index l.fs) ≡ entries_from l.calls l.first l.fs;
}
