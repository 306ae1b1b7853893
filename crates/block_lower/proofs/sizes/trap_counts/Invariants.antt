use Rattle.std.proofs.Common.{◌≡◌, ◌-◌, ◌^◌, min, take}
use Rattle.std.specs.List.{sum_by}
use Rattle.expr_lower.specs.Bodies.{trap_count}
use Rattle.block_lower.proofs.sizes.trap_counts.Given as goal

abbrev pub invariant-loop-e : goal.invariant-loop-e
invariant-loop-e l = l.sum ≡ min (sum_by trap_count (take l.e-index l.es)) (2 ^ 32 - 1)
