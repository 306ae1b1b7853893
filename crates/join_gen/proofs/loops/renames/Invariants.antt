use Rattle.std.proofs.Common.{◌≡◌, ◌++◌, drop}
use Rattle.handler_gen.specs.Blocks.{renames_from}
use Rattle.join_gen.proofs.loops.renames.Given as goal

abbrev pub invariant-loop-r : goal.invariant-loop-r
invariant-loop-r l = l.all.items ++ renames_from l.r (drop l.r l.accs) ≡ renames_from 0 l.accs
