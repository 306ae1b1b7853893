use Rattle.std.proofs.Common.{refl, arith}
use Rattle.block_lower.proofs.Written.Conforming.{closes_proper, kept_conforms}
use Rattle.block_lower.proofs.Written.Stepping.{on_ok}
use Rattle.block_lower.proofs.lowering.Lowering.close.Goals as goal

pub returns-clause-fit : goal.returns-clause-fit
returns-clause-fit c =
    let old = c.args.self.now in
    on_ok c.close.result
    (λ closed is before. kept_conforms old
    (record { alloc = old.alloc; out = c.close.new.out; scope = old.scope; on = old.on })
    refl refl
    (closes_proper old.on old.out c.close.new.out c.args.term is
    (omega (arith, c.requires.labels)) closed before.written) before) c.close.ensures.closed
