use Rattle.std.proofs.Common.{◌≡◌, ◌+◌, drop}
use Rattle.expr_lower.specs.Scopes.{number_in}
use Rattle.expr_lower.proofs.scope.table_number.Given as goal

abbrev pub invariant-loop-table : goal.invariant-loop-table
invariant-loop-table l = record {
  counted : l.number ≡ l.table-index;
  found : l.number + number_in (drop l.table-index l.scope.tables.items) l.name ≡ number_in l.scope.tables.items l.name;
}
