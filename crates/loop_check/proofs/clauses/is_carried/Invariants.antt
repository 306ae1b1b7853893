use Rattle.std.proofs.Common.{◌≡◌, drop}
use Rattle.loop_rules.specs.Names.{is_in}
use Rattle.loop_check.specs.Walk.{carried_tables}
use Rattle.loop_check.proofs.clauses.is_carried.Given as goal

abbrev pub invariant-loop-c : goal.invariant-loop-c
invariant-loop-c l = is_in (carried_tables (drop l.c-index l.before)) l.table ≡ is_in (carried_tables l.before) l.table
