use Rattle.std.proofs.Common.{◌≡◌, ◌+◌, drop, max}
use Rattle.std.specs.List.{sum_by}
use Rattle.scene_laws.specs.Count.{blocks}
use Rattle.scene_laws.specs.Sizes.{kept_by_list}
use Rattle.block_lower.proofs.sizes.+kept.Given as goal

abbrev pub invariant-kept_by_list-loop-s : goal.invariant-kept_by_list-loop-s
invariant-kept_by_list-loop-s l = max l.most (kept_by_list (drop l.s-index l.body)) ≡ kept_by_list l.body

abbrev pub decreases-kept : goal.decreases-kept
decreases-kept l = blocks l.s.now

abbrev pub decreases-kept_by_list : goal.decreases-kept_by_list
decreases-kept_by_list l = sum_by blocks l.body.now + 1
