use Rattle.std.proofs.Common.{◌≡◌, ◌++◌, drop}
use Rattle.loop_rules.specs.Walk.{named}
use Rattle.loop_rules.proofs.function.declares_all.Given as goal

abbrev pub invariant-loop-x : goal.invariant-loop-x
invariant-loop-x l = named l.names.items ++ drop l.x-index l.params ≡ l.params
