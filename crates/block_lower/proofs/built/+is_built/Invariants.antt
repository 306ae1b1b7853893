use Rattle.std.proofs.Common.{◌≡◌, drop}
use Rattle.scene_laws.specs.Built.{list_is_built}
use Rattle.block_lower.proofs.built.+is_built.Given as goal

abbrev pub invariant-list_is_built-loop-s : goal.invariant-list_is_built-loop-s
invariant-list_is_built-loop-s l = list_is_built (drop l.s-index l.body) ≡ list_is_built l.body
