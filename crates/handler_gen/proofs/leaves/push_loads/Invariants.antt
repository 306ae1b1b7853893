use Rattle.std.proofs.Common.{◌≡◌, ◌++◌, take}
use Rattle.handler_gen.specs.LeafBlocks.{loads_of}
use Rattle.handler_gen.proofs.leaves.push_loads.Given as goal

abbrev pub invariant-loop-register : goal.invariant-loop-register
invariant-loop-register l =
    l.body.items ≡ l.fn.body.items ++ loads_of (take l.register-index l.registers)
