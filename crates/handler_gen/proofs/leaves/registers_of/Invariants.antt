use Rattle.std.proofs.Common.{◌≡◌, ◌+◌, ◌++◌, drop}
use Rattle.handler_gen.specs.LeafSites.{registers_from, registers_of}
use Rattle.handler_gen.proofs.leaves.registers_of.Given as goal

abbrev pub invariant-loop-before : goal.invariant-loop-before
invariant-loop-before l = l.all.items ++ registers_from (26 + l.before) (drop l.before l.accs)
    ≡ registers_of l.site
