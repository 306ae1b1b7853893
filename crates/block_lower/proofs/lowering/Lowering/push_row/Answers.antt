use Rattle.std.proofs.Common.{arith, le-leb, lt-ltb, refl}
use Rattle.expr_lower.proofs.Fitting.{both}
use Rattle.block_lower.proofs.Written.Conforming.{visible_cell}
use Rattle.block_lower.proofs.Written.Stepping.{on_ok}
use Rattle.block_lower.proofs.lowering.Lowering.push_row.Goals as goal

pub returns-in-Var-clause-fit : goal.returns-in-Var-clause-fit
returns-in-Var-clause-fit c =
    let old = c.args.self.now in
    on_ok c.push-in-Var.result
    (λ fit low before. fit
    (both _ _ (both _ _ (lt-ltb c.args.to 32 low) refl)
    (le-leb c.offset-off.result 511
    (omega (arith, c.offset-off.ensures, visible_cell old c.in-Var.x.text.items before)))) before)
    c.push-in-Var.ensures.fit
