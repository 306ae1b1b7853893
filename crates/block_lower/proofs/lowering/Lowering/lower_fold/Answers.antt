use Rattle.std.proofs.Common.{sym}
use Rattle.block_lower.proofs.Written.LoweredTables.{fold_nothing_written}
use Rattle.block_lower.proofs.Written.Stepping.{on_ok}
use Rattle.block_lower.proofs.lowering.Lowering.lower_fold.Goals as goal

pub returns-in-None-clause-code : goal.returns-in-None-clause-code
returns-in-None-clause-code c =
    let none = rw c.deref.ensures.value at c.in-None.ensures in
    on_ok c.value.result
    (λ h on.
    fold_nothing_written on c.args.round c.args.self.now.scope c.args.x.now
    c.args.e.now c.args.self.now.out c.value.new.self.out (sym none) h)
    c.value.ensures.code
