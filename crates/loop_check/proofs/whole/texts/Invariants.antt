use Rattle.std.proofs.Common.{◌≡◌, take}
use Rattle.loop_rules.specs.Names.{texts}
use Rattle.loop_check.specs.Walk.{texts_of}
use Rattle.loop_check.proofs.whole.texts.Given as goal

abbrev pub invariant-loop-x : goal.invariant-loop-x
invariant-loop-x l = texts_of l.xs.items ≡ texts (take l.x-index l.names)
