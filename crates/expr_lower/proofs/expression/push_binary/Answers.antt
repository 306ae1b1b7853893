use Rattle.std.proofs.Common.{◌≡◌, ◌+◌, List, length, sym, subst, ap, arith}
use Rattle.loop_rules.specs.Limits.{height}
use Rattle.loop_syntax.specs.declared.Expr.{Expr}
use Rattle.tpal_syntax.specs.declared.blocks.Block.{Block}
use Rattle.tpal_syntax.specs.declared.instructions.Instr.{Instr}
use Rattle.expr_lower.specs.Bodies.{body_of, trap_count, traps_of}
use Rattle.expr_lower.specs.Fitting.{AreBlocksOf, AreInstrsOf}
use Rattle.expr_lower.specs.Nodes.{operation_height, operation_traps}
use Rattle.expr_lower.proofs.Fitting.{body_fits, joined}
use Rattle.expr_lower.proofs.FittingBlocks.{joined_blocks, node_in_range, traps_fit}
use Rattle.expr_lower.proofs.expression.push_binary.Goals as goal

pub returns-clause-body_fits : goal.returns-clause-body_fits
returns-clause-body_fits c = λ tables blocks e node can known before.
    let scope = c.args.scope.now in
    let operation = c.args.operation in
    let label = c.args.at.first + length c.args.traps.now.items in
    let high : height e ≡ operation_height operation = ap (λ (x : Expr). height x) node.is in
    let many : trap_count e ≡ operation_traps operation =
    ap (λ (x : Expr). trap_count x) node.is in
    let literals = c.in_ok-append_binary.ensures.literals in
    subst (λ (xs : List Instr). AreInstrsOf tables blocks xs)
    (sym (c.in_ok-append_binary.ensures.body e node))
    (joined tables blocks c.args.body.now.items (body_of scope label e c.args.at.to) before
    (body_fits tables blocks scope e label c.args.at.to can.named.cells can.named.registers
    can.named.few_tables can.inside (node_in_range operation e node literals.0 literals.1)
    (omega (arith, high, c.requires.registers))
    (omega (arith, known, many, c.in_ok-append_binary.ensures.count))))

pub returns-clause-traps_fit : goal.returns-clause-traps_fit
returns-clause-traps_fit c = λ tables all e node placed before.
    let label = c.args.at.first + length c.args.traps.now.items in
    let many : trap_count e ≡ operation_traps c.args.operation =
    ap (λ (x : Expr). trap_count x) node.is in
    subst (λ (bs : List Block). AreBlocksOf tables all bs)
    (sym (c.in_ok-append_binary.ensures.traps e node))
    (joined_blocks tables all c.args.traps.now.items (traps_of label e) before
    (traps_fit tables all e label (omega (arith, many, c.requires.labels)) placed))
