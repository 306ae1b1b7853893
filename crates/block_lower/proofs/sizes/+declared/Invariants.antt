use Rattle.std.proofs.Common.{◌≡◌, ◌-◌, ◌^◌, min, take}
use Rattle.std.specs.List.{sum_by}
use Rattle.scene_laws.specs.Sizes.{declared}
use Rattle.block_lower.proofs.sizes.+declared.Given as goal

abbrev pub invariant-declared_by_list-loop-s : goal.invariant-declared_by_list-loop-s
invariant-declared_by_list-loop-s l = l.sum ≡ min (sum_by declared (take l.s-index l.body)) (2 ^ 64 - 1)
