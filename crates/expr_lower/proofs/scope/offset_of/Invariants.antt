use Rattle.std.proofs.Common.{◌≡◌, drop}
use Rattle.expr_lower.specs.Scopes.{cell_in}
use Rattle.expr_lower.proofs.scope.offset_of.Given as goal

abbrev pub invariant-loop-cell : goal.invariant-loop-cell
invariant-loop-cell l = cell_in (drop l.cell-index l.scope.cells.items) l.name ≡ cell_in l.scope.cells.items l.name
