use Rattle.std.proofs.Common.{◌≡◌, ◌-◌, ◌^◌, min, take}
use Rattle.std.specs.List.{sum_by}
use Rattle.scene_laws.specs.Count.{blocks_of_func}
use Rattle.block_lower.proofs.count.in_funcs.Given as goal

abbrev pub invariant-loop-f : goal.invariant-loop-f
invariant-loop-f l = l.sum ≡ min (sum_by blocks_of_func (take l.f-index l.fs)) (2 ^ 64 - 1)
