use Rattle.std.proofs.Common.{◌≡◌, ◌-◌, ◌^◌, min, take}
use Rattle.std.specs.List.{sum_by}
use Rattle.scene_laws.specs.Count.{blocks_of_expr}
use Rattle.block_lower.proofs.count.in_exprs.Given as goal

abbrev pub invariant-loop-e : goal.invariant-loop-e
invariant-loop-e l = l.sum ≡ min (sum_by blocks_of_expr (take l.e-index l.es)) (2 ^ 64 - 1)
