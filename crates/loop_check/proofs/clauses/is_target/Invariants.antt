use Rattle.std.proofs.Common.{◌≡◌, drop}
use Rattle.loop_rules.specs.Names.{is_in}
use Rattle.loop_check.specs.Walk.{targets_of}
use Rattle.loop_check.proofs.clauses.is_target.Given as goal

abbrev pub invariant-loop-q : goal.invariant-loop-q
invariant-loop-q l = is_in (targets_of (drop l.q-index l.before)) l.name ≡ is_in (targets_of l.before) l.name
