use Rattle.std.proofs.Common.{arith}
use Rattle.loop_meaning.proofs.Wrap.{product_fits}
use Rattle.loop_meaning.proofs.plain.cell_count.Goals as goal

pub overflow_mul-cells : goal.overflow_mul-cells
overflow_mul-cells c = omega (arith, product_fits c.from.result c.from-2.result (omega arith) (omega arith))
