use Rattle.std.proofs.Common.{◌+◌, ◌*◌, max}
use Rattle.loop_rules.specs.Limits.{height}
use Rattle.expr_lower.proofs.expression.+push.Given as goal

abbrev pub decreases-append_expr : goal.decreases-append_expr
decreases-append_expr l = 3 * height l.expr.now

abbrev pub decreases-push_operand : goal.decreases-push_operand
decreases-push_operand l = 3 * height l.expr.now + 1

abbrev pub decreases-append_binary : goal.decreases-append_binary
decreases-append_binary l = 3 * max (height l.operation.left.now) (height l.operation.right.now) + 2
