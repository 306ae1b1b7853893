use Rattle.std.proofs.Common.{◌≡◌, drop}
use Rattle.loop_rules.specs.Names.{item_of}
use Rattle.loop_check.proofs.names.item_of.Given as goal

abbrev pub invariant-loop-c : goal.invariant-loop-c
invariant-loop-c l = item_of (drop l.c-index l.carries) l.table ≡ item_of l.carries l.table
