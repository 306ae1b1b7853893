use Rattle.std.proofs.Common.{◌≡◌, drop}
use Rattle.loop_rules.specs.Names.{is_in}
use Rattle.loop_check.specs.Walk.{texts_of}
use Rattle.loop_check.proofs.names.is_in.Given as goal

abbrev pub invariant-loop-y : goal.invariant-loop-y
invariant-loop-y l = is_in (texts_of (drop l.y-index l.names)) l.name ≡ is_in (texts_of l.names) l.name
