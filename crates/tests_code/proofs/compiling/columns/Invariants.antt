use Rattle.std.proofs.Common.{◌≡◌, length}
use Rattle.tests_code.proofs.compiling.columns.Given as goal

abbrev pub invariant-loop-table : goal.invariant-loop-table
invariant-loop-table l = length l.all.items ≡ l.table-index
