use Rattle.std.proofs.Common.{◌+◌, List, length, sym, subst, arith}
use Rattle.tpal_syntax.specs.declared.blocks.Block.{Block}
use Rattle.tpal_syntax.specs.declared.instructions.Instr.{Instr}
use Rattle.expr_lower.specs.Bodies.{body_of, traps_of}
use Rattle.expr_lower.specs.Fitting.{AreBlocksOf, AreInstrsOf}
use Rattle.expr_lower.proofs.Fitting.{body_fits, joined}
use Rattle.expr_lower.proofs.FittingBlocks.{joined_blocks, traps_fit}
use Rattle.expr_lower.proofs.expression.push_expr.Goals as goal

pub returns-clause-body_fits : goal.returns-clause-body_fits
returns-clause-body_fits c = λ tables blocks can known before.
    let scope = c.args.scope.now in
    let e = c.args.expr.now in
    let label = c.args.at.first + length c.args.traps.now.items in
    subst (λ (xs : List Instr). AreInstrsOf tables blocks xs)
    (sym c.in_ok-append_expr.ensures.body)
    (joined tables blocks c.args.body.now.items (body_of scope label e c.args.at.to) before
    (body_fits tables blocks scope e label c.args.at.to can.named.cells can.named.registers
    can.named.few_tables can.inside c.in_ok-append_expr.ensures.literals c.requires.registers
    (omega (arith, known, c.in_ok-append_expr.ensures.count))))

pub returns-clause-traps_fit : goal.returns-clause-traps_fit
returns-clause-traps_fit c = λ tables all placed before.
    let e = c.args.expr.now in
    let label = c.args.at.first + length c.args.traps.now.items in
    subst (λ (bs : List Block). AreBlocksOf tables all bs)
    (sym c.in_ok-append_expr.ensures.traps)
    (joined_blocks tables all c.args.traps.now.items (traps_of label e) before
    (traps_fit tables all e label (omega (arith, c.requires.labels)) placed))
