use Rattle.std.proofs.Common.{◌≡◌, length}
use Rattle.tests_events.proofs.trial.tables_of.Given as goal

-- what is held of each table so far
abbrev pub invariant-loop-table : goal.invariant-loop-table
invariant-loop-table l = length l.held.items ≡ l.table-index
