use Rattle.std.proofs.Common.{◌≡◌, take}
use Rattle.scene_laws.specs.Sites.{accs_of}
use Rattle.block_lower.proofs.site.accs_at.Given as goal

abbrev pub invariant-loop-reduce : goal.invariant-loop-reduce
invariant-loop-reduce l = l.all.items ≡ accs_of l.scope (take l.reduce-index l.list)
