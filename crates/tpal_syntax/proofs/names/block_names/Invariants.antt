use Rattle.std.proofs.Common.{◌≡◌, map, take}
use Rattle.tpal_syntax.specs.Conditions.{block_names}
use Rattle.tpal_syntax.proofs.names.block_names.Given as goal

abbrev pub invariant-loop-block : goal.invariant-loop-block
invariant-loop-block l = map (λ n. n.now) l.names.items ≡ block_names (take l.block-index l.blocks)
