use Rattle.std.proofs.Common.{◌≡◌, ◌+◌, ◌++◌, length, map, take}
use Rattle.std.specs.List.{sum_by}
use Rattle.form_laws.specs.Functions.{table_name}
use Rattle.block_lower.specs.Programs.{SeesTables, WritesMakes}
use Rattle.scene_laws.specs.Sizes.{added_by_decl}
use Rattle.block_lower.specs.Writing.{next_label}
use Rattle.block_lower.proofs.lowering.Lowering.push_makes.Given as goal

abbrev pub invariant-loop-d : goal.invariant-loop-d
invariant-loop-d l = record {
  labels : next_label l.self.out
      ≡ next_label l.initial.self.out + sum_by added_by_decl (take l.d-index l.ds);
  cells : l.self.scope.cells ≡ l.initial.self.scope.cells;
  tables : length l.self.scope.tables.items
      ≡ length l.initial.self.scope.tables.items + l.d-index;
  sees : SeesTables (λ tables. tables ++ map table_name (take l.d-index l.ds))
      l.initial.self.scope l.self.scope;
  code : WritesMakes l.initial.self.on l.initial.self.scope (take l.d-index l.ds)
      l.initial.self.out l.self.out;
  on : l.self.on ≡ l.initial.self.on;
}
