use Rattle.std.proofs.Common.{◌≡◌, ◌-◌, ◌^◌, min, take}
use Rattle.std.specs.List.{sum_by}
use Rattle.scene_laws.specs.Count.{blocks}
use Rattle.block_lower.proofs.count.+count.Given as goal

abbrev pub invariant-in_list-loop-s : goal.invariant-in_list-loop-s
invariant-in_list-loop-s l = l.sum ≡ min (sum_by blocks (take l.s-index l.body)) (2 ^ 64 - 1)
