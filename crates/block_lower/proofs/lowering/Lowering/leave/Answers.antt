use Rattle.std.proofs.Common.{refl}
use Rattle.block_lower.proofs.Written.Conforming.{scoped_conforms}
use Rattle.block_lower.proofs.lowering.Lowering.leave.Goals as goal

pub returns-clause-fit : goal.returns-clause-fit
returns-clause-fit c = λ before.
    let old = c.args.self.now in
    scoped_conforms old (record { alloc = old.alloc; out = old.out; scope = c.leave.new.scope; on = old.on })
    refl refl (c.leave.ensures.named old.on.tables before.scope) before
