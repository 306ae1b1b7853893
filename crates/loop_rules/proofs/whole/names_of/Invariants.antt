use Rattle.std.proofs.Common.{◌≡◌, take}
use Rattle.loop_rules.specs.Names.{func_names}
use Rattle.loop_rules.proofs.whole.names_of.Given as goal

abbrev pub invariant-loop-f : goal.invariant-loop-f
invariant-loop-f l = l.names ≡ func_names (take l.f-index l.funcs)
