use Rattle.std.proofs.Common.{refl, arith}
use Rattle.block_lower.proofs.Written.Conforming.{traps_proper, kept_conforms}
use Rattle.block_lower.proofs.Written.Stepping.{on_ok}
use Rattle.block_lower.proofs.lowering.Lowering.trap_block.Goals as goal

pub returns-clause-fit : goal.returns-clause-fit
returns-clause-fit c =
    let old = c.args.self.now in
    on_ok c.push_trap_block.result
    (λ trapped placed before. kept_conforms old
    (record { alloc = old.alloc; out = c.push_trap_block.new.out; scope = old.scope; on = old.on })
    refl refl
    (traps_proper old.on old.out c.push_trap_block.new.out c.args.kind c.args.place placed
    (omega (arith, c.requires.labels)) trapped before.written) before)
    c.push_trap_block.ensures.traps
