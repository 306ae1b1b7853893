use Rattle.std.proofs.Common.{refl}
use Rattle.block_lower.proofs.Written.Conforming.{kept_conforms}
use Rattle.block_lower.proofs.Written.Stepping.{on_ok}
use Rattle.block_lower.proofs.lowering.Lowering.operation.Goals as goal

pub returns-clause-fit : goal.returns-clause-fit
returns-clause-fit c =
    let old = c.args.self.now in
    on_ok c.push_operation.result
    (λ proper e node known below before. kept_conforms old
    (record { alloc = old.alloc; out = c.push_operation.new.out; scope = old.scope; on = old.on })
    refl refl (proper old.on e node before.scope known below before.written) before)
    c.push_operation.ensures.proper
