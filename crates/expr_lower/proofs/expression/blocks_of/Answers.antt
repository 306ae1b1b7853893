use Rattle.std.proofs.Common.{arith}
use Rattle.expr_lower.proofs.Counting.{few_traps}
use Rattle.expr_lower.proofs.expression.blocks_of.Goals as goal

pub push_expr-requires-clause-labels : goal.push_expr-requires-clause-labels
push_expr-requires-clause-labels c = omega (arith, few_traps c.args.expr.now c.args.to c.requires.registers)

pub overflow_cast-behind : goal.overflow_cast-behind
overflow_cast-behind c = omega (arith, few_traps c.args.expr.now c.args.to c.requires.registers, c.in_ok-push_expr.ensures.count)

pub overflow_add-behind : goal.overflow_add-behind
overflow_add-behind c = omega (arith, few_traps c.args.expr.now c.args.to c.requires.registers, c.in_ok-push_expr.ensures.count)
