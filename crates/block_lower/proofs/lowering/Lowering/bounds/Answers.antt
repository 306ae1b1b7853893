use Rattle.std.proofs.Common.{◌∙◌}
use Rattle.block_lower.proofs.Written.LoweredLoops.{bounds_written}
use Rattle.block_lower.proofs.lowering.Lowering.bounds.Goals as goal

pub returns-clause-code : goal.returns-clause-code
returns-clause-code c =
    let long = c.level-level.ensures in
    let same = c.in_ok-store.ensures.scope ∙ c.in_ok-value.ensures.scope in
    bounds_written c.args.self.now.scope c.args.a.now c.args.b.now c.args.self.now.out
    c.value.new.self.out c.store.new.self.out c.value-2.new.self.out c.store-2.new.self.out
    c.load.new.self.out c.in_ok-value.ensures.code
    (rw (c.value_cell.ensures, long) at c.in_ok-store.ensures.pushed)
    (rw same at c.in_ok-value-2.ensures.code)
    (rw (c.bound_cell.ensures, long) at c.in_ok-store-2.ensures.pushed)
    (rw (c.value_cell-2.ensures, long) at c.in_ok-load.ensures.pushed)
