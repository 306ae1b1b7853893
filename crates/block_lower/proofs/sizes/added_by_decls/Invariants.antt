use Rattle.std.proofs.Common.{◌≡◌, ◌-◌, ◌^◌, min, take}
use Rattle.std.specs.List.{sum_by}
use Rattle.scene_laws.specs.Sizes.{added_by_decl}
use Rattle.block_lower.proofs.sizes.added_by_decls.Given as goal

abbrev pub invariant-loop-d : goal.invariant-loop-d
invariant-loop-d l = l.sum ≡ min (sum_by added_by_decl (take l.d-index l.ds)) (2 ^ 32 - 1)
