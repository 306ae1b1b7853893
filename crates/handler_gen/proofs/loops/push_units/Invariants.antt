use Rattle.std.proofs.Common.{◌≡◌, ◌++◌, take}
use Rattle.handler_gen.specs.Blocks.{units}
use Rattle.handler_gen.proofs.loops.push_units.Given as goal

abbrev pub invariant-loop-acc : goal.invariant-loop-acc
invariant-loop-acc l = l.body.items ≡ l.fn.body.items ++ units (take l.acc-index l.accs)
