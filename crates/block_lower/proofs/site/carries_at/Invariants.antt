use Rattle.std.proofs.Common.{◌≡◌, take}
use Rattle.scene_laws.specs.Sites.{carries_from}
use Rattle.block_lower.proofs.site.carries_at.Given as goal

abbrev pub invariant-loop-before : goal.invariant-loop-before
invariant-loop-before l = l.all.items ≡ carries_from l.scope 0 (take l.before l.list)
