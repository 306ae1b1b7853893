use Rattle.std.proofs.Common.{arith}
use Rattle.loop_meaning.proofs.Wrap.{area_fits}
use Rattle.loop_meaning.proofs.expression.cell_at.Goals as goal

pub overflow_mul-at : goal.overflow_mul-at
overflow_mul-at c =
    omega (arith, area_fits c.args.row c.args.col c.from.result c.args.table.now.rows c.requires.row_in (omega arith) (omega arith) (omega arith))

pub overflow_add-at : goal.overflow_add-at
overflow_add-at c =
    omega (arith, area_fits c.args.row c.args.col c.from.result c.args.table.now.rows c.requires.row_in (omega arith) (omega arith) (omega arith))
