use Rattle.block_lower.proofs.Written.Stepping.{on_ok}
use Rattle.std.proofs.Common.{refl}
use Rattle.block_lower.proofs.Written.Conforming.{scoped_conforms}
use Rattle.block_lower.proofs.lowering.Lowering.declare.Goals as goal

pub returns-clause-sees : goal.returns-clause-sees
returns-clause-sees c =
    on_ok c.declare.result (λ h. rw c.deref.ensures.value at h) c.declare.ensures.sees

pub returns-clause-fit : goal.returns-clause-fit
returns-clause-fit c =
    let old = c.args.self.now in
    on_ok c.declare.result
    (λ named before. scoped_conforms old
    (record { alloc = old.alloc; out = old.out; scope = c.declare.new.scope; on = old.on })
    refl refl (named old.on.tables before.scope) before) c.declare.ensures.named
