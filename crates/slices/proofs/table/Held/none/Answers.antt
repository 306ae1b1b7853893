use Rattle.slices.proofs.Seen.{first_cells_none}
use Rattle.slices.proofs.table.Held.none.Goals as goal

pub returns-clause-cells : goal.returns-clause-cells
returns-clause-cells c = first_cells_none c.args.cols _ _ c.none.ensures.cells
