use Rattle.std.proofs.Common.{◌≡◌, ◌++◌, drop}
use Rattle.join_gen.specs.Blocks.{combines_from}
use Rattle.join_gen.proofs.loops.comb_block.Given as goal

abbrev pub invariant-loop-r : goal.invariant-loop-r
invariant-loop-r l = l.body.items ++ combines_from l.r (drop l.r l.accs) ≡ combines_from 0 l.accs
