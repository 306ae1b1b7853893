use Rattle.std.proofs.Common.{◌≡◌, ◌-◌, ◌^◌, min, take}
use Rattle.std.specs.List.{sum_by}
use Rattle.scene_laws.specs.Sizes.{added}
use Rattle.block_lower.proofs.sizes.+sizes.Given as goal

abbrev pub invariant-added_by_list-loop-s : goal.invariant-added_by_list-loop-s
invariant-added_by_list-loop-s l = l.sum ≡ min (sum_by (added l.calls) (take l.s-index l.body)) (2 ^ 32 - 1)
