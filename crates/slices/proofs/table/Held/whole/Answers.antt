use Rattle.std.proofs.Common.{◌∙◌, ◌*◌, arith}
use Rattle.slices.proofs.Flats.{flat_apart}
use Rattle.slices.proofs.Slots.{slot-zero}
use Rattle.slices.proofs.SpanLists.{or_else-none}
use Rattle.slices.proofs.Seen.{whole_listed}
use Rattle.slices.proofs.table.Held.whole.Goals as goal

pub returns-clause-cells : goal.returns-clause-cells
returns-clause-cells c = λ row col. whole_listed c.args.rows c.args.cols _ _ row col (λ i. or_else-none _ ∙ slot-zero _ i)

pub invariant_of-result : goal.invariant_of-result
invariant_of-result c = record { apart = flat_apart (c.args.rows * c.args.cols) c.args.cells (omega (arith, c.requires, c.args.cells.ok.0)); sound = omega (arith, c.requires) }
