use Rattle.std.proofs.Common.{◌≡◌, ◌-◌, ◌^◌, min, take}
use Rattle.std.specs.List.{sum_by}
use Rattle.scene_laws.specs.Count.{blocks_of_decl}
use Rattle.block_lower.proofs.count.in_decls.Given as goal

abbrev pub invariant-loop-d : goal.invariant-loop-d
invariant-loop-d l = l.sum ≡ min (sum_by blocks_of_decl (take l.d-index l.ds)) (2 ^ 64 - 1)
