use Rattle.std.proofs.Common.{◌≡◌, ◌++◌, drop}
use Rattle.join_gen.specs.Blocks.{loads_from}
use Rattle.join_gen.proofs.loops.side_block.Given as goal

abbrev pub invariant-loop-r : goal.invariant-loop-r
invariant-loop-r l = l.body.items ++ loads_from l.r (drop l.r l.accs) ≡ loads_from 0 l.accs
