use Rattle.std.proofs.Common.{◌≡◌, ℕ, ◌+◌, ◌*◌, ◌<◌, ◌≤◌, length, take}
use Rattle.std.specs.List.{AllByRecursion, sum_by}
use Rattle.tp_value.specs.declared.limits.TheConstants.{MAX_ACTIVATION_CELLS}
use Rattle.expr_lower.specs.Bodies.{trap_count}
use Rattle.block_lower.specs.Conforming.{Conforms, IsKnown, blocks_of}
use Rattle.block_lower.specs.Lowering.{WritesArguments}
use Rattle.block_lower.specs.Writing.{next_label}
use Rattle.block_lower.proofs.lowering.Lowering.arguments.Given as goal

abbrev pub invariant-loop-i : goal.invariant-loop-i
invariant-loop-i l = record {
  labels : next_label l.self.out
      ≡ next_label l.initial.self.out + sum_by trap_count (take l.i l.list);
  code : WritesArguments l.initial.self.scope (take l.i l.list)
      (λ k. l.first + k * l.distance) l.initial.self.out l.self.out;
  on : l.self.on ≡ l.initial.self.on;
  scope : l.self.scope ≡ l.initial.self.scope;
  fit : AllByRecursion (IsKnown l.initial.self.scope) l.list
      → ((k : ℕ) → k < length l.list → l.first + k * l.distance < MAX_ACTIVATION_CELLS)
      → next_label l.self.out ≤ blocks_of l.initial.self.on → Conforms l.initial.self
      → Conforms l.self;
}
