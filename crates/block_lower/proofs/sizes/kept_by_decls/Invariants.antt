use Rattle.std.proofs.Common.{◌≡◌, drop, max}
use Rattle.scene_laws.specs.Sizes.{kept_by_decls}
use Rattle.block_lower.proofs.sizes.kept_by_decls.Given as goal

abbrev pub invariant-loop-d : goal.invariant-loop-d
invariant-loop-d l = max l.most (kept_by_decls (drop l.d-index l.ds)) ≡ kept_by_decls l.ds
