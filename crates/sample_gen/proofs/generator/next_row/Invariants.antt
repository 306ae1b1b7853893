use Rattle.std.proofs.Common.{◌≡◌}
use Rattle.sample_gen.specs.Cells.{state_after}
use Rattle.sample_gen.proofs.Rows.{cells_from}
use Rattle.sample_gen.proofs.generator.next_row.Given as goal

abbrev pub invariant-loop-col : goal.invariant-loop-col
invariant-loop-col l = record {
  cells : l.cells.items ≡ cells_from l.start l._col;
  state : l.state ≡ state_after l.start l._col;
}
