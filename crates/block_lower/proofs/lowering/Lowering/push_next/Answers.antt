use Rattle.std.proofs.Common.{length}
use Rattle.block_lower.proofs.Written.LoweredDeep.{next_written}
use Rattle.block_lower.proofs.lowering.Lowering.push_next.Goals as goal

pub returns-clause-code : goal.returns-clause-code
returns-clause-code c =
    next_written c.args.site.now (length c.args.self.now.scope.cells.items) c.args.head
    c.args.self.now.out c.load.new.self.out c.load-2.new.self.out c.calc.new.self.out
    c.store.new.self.out c.calc-2.new.self.out c.store-2.new.self.out c.calc-3.new.self.out
    c.jump_if.new.self.out c.close.new.self.out c.in_ok-load.ensures.pushed
    c.in_ok-load-2.ensures.pushed c.in_ok-calc.ensures.pushed
    (rw (c.value_cell.ensures, c.level-level.ensures) at c.in_ok-store.ensures.pushed)
    c.in_ok-calc-2.ensures.pushed c.in_ok-store-2.ensures.pushed c.in_ok-calc-3.ensures.pushed
    c.in_ok-jump_if.ensures.pushed (rw c.jump.ensures at c.in_ok-close.ensures.closed)
