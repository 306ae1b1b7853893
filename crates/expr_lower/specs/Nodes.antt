-- Operators over two expressions, wherever these lie.
use Rattle.std.specs.Prelude.{◌≡◌, ℕ, suc, ◌+◌, max, if◌then◌else◌, Box}
use Rattle.std.specs.declared.alloc.Global.{Global}
use Rattle.loop_rules.specs.Limits.{height}
use Rattle.loop_syntax.specs.declared.Expr.{Expr}
use Rattle.loop_syntax.specs.declared.Expr.TheVariants.{Bin'}
use Rattle.expr_lower.specs.declared.expression.Operation.{Operation}
use Rattle.expr_lower.specs.Bodies.{can_trap, literal, trap_count}

-- an expression is the node of an operation
pub record IsNode (o : Operation) (e : Expr) : Type 0 where
  pub left_at : Box (Unit {0}) Global
  pub right_at : Box (Unit {0}) Global
  pub is : e ≡ Bin' o.operator o.place left_at o.left.now right_at o.right.now

-- its height
abbrev pub operation_height : Operation → ℕ
operation_height o = suc (max (height o.left.now) (height o.right.now))

-- how many trap blocks it has
abbrev pub operation_traps : Operation → ℕ
operation_traps o =
    trap_count o.left.now + trap_count o.right.now
    + (if can_trap o.operator (literal o.right.now) then 1 else 0)
