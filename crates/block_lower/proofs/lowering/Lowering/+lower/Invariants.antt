use Rattle.std.proofs.Common.{◌≡◌, ◌+◌, ◌≤◌, length, take}
use Rattle.std.specs.List.{sum_by}
use Rattle.scene_laws.specs.Count.{blocks}
use Rattle.block_lower.specs.Lowering.{LowersAll}
use Rattle.scene_laws.specs.Names.{SeesAfter, names_after_list}
use Rattle.scene_laws.specs.Sizes.{added, declared}
use Rattle.block_lower.specs.Writing.{next_label}
use Rattle.block_lower.proofs.lowering.Lowering.+lower.Given as goal

abbrev pub invariant-lower_list-loop-s : goal.invariant-lower_list-loop-s
invariant-lower_list-loop-s l = record {
  labels : next_label l.self.out
      ≡ next_label l.initial.self.out + sum_by (added l.initial.self.on.quiet_calls) (take l.s-index l.body);
  cells : length l.self.scope.cells.items
      ≤ length l.initial.self.scope.cells.items + sum_by declared (take l.s-index l.body);
  tables : l.self.scope.tables ≡ l.initial.self.scope.tables;
  regs : l.self.scope.regs ≡ l.initial.self.scope.regs;
  sees : SeesAfter (λ names. names_after_list names (take l.s-index l.body))
      l.initial.self.scope l.self.scope;
  code : LowersAll l.initial.self.on l.round l.initial.self.scope
      (take l.s-index l.body) l.initial.self.out l.self.out;
  on : l.self.on ≡ l.initial.self.on;
}

abbrev pub decreases-lower_stmt : goal.decreases-lower_stmt
decreases-lower_stmt l = blocks l.s.now

abbrev pub decreases-lower_list : goal.decreases-lower_list
decreases-lower_list l = sum_by blocks l.body.now + 1

abbrev pub decreases-lower_branch : goal.decreases-lower_branch
decreases-lower_branch l = sum_by blocks l.body.now + 2

abbrev pub decreases-lower_body : goal.decreases-lower_body
decreases-lower_body l = sum_by blocks l.body.now + 2

abbrev pub decreases-lower_other : goal.decreases-lower_other
decreases-lower_other l = sum_by blocks l.body.now + 3

abbrev pub decreases-lower_while : goal.decreases-lower_while
decreases-lower_while l = sum_by blocks l.body.now + 3

abbrev pub decreases-lower_if : goal.decreases-lower_if
decreases-lower_if l = sum_by blocks l.body.now + sum_by blocks l.other.now + 4

abbrev pub decreases-lower_quiet : goal.decreases-lower_quiet
decreases-lower_quiet l = sum_by blocks l.l.now.body.items + 3

abbrev pub decreases-lower_deep : goal.decreases-lower_deep
decreases-lower_deep l = sum_by blocks l.l.now.body.items + 3

abbrev pub decreases-lower_par : goal.decreases-lower_par
decreases-lower_par l = sum_by blocks l.l.now.body.items + 5

abbrev pub decreases-lower_leaf : goal.decreases-lower_leaf
decreases-lower_leaf l = sum_by blocks l.l.now.body.items + 4

abbrev pub decreases-leaf_turn : goal.decreases-leaf_turn
decreases-leaf_turn l = sum_by blocks l.l.now.body.items + 3
