-- The opposite of a comparison: it is 0 where the comparison isn't, and it traps as that does.
use Rattle.std.specs.Prelude.{◌≡◌, ℕ, ℤ, Option, None, Some, Box}
use Rattle.std.specs.declared.alloc.Global.{Global}
use Rattle.tp_value.specs.declared.Place.{Place}
use Rattle.loop_syntax.specs.declared.BinOp.{BinOp}
use Rattle.loop_syntax.specs.declared.BinOp.TheVariants as op
use Rattle.loop_syntax.specs.declared.Expr.{Expr}
use Rattle.loop_syntax.specs.declared.Expr.TheVariants.{Int, Var, Cell', Rows, Cols, Neg', Bin'}
use Rattle.expr_lower.specs.declared.expression.Operation.{Operation}
use Rattle.expr_lower.specs.Bodies.{literal}
use Rattle.expr_lower.specs.Nodes.{IsNode}

-- Of `a < b` and of `a <= b`: with a literal on the left, where the order of evaluation doesn't
-- matter, by an operator with the operands turned round; with no literal, by an operator with the
-- operands as they are. None with a literal on the right alone: the opposite would move it into a
-- register.
abbrev pub of_below : BinOp → BinOp → Place → Box (Unit {0}) Global → Expr → Box (Unit {0}) Global
    → Expr → Option ℤ → Option ℤ → Option Expr
of_below turned same place p a q b (Some m) right = Some (Bin' turned place q b p a)
of_below turned same place p a q b None (Some n) = None
of_below turned same place p a q b None None = Some (Bin' same place p a q b)

-- the opposite of an expression, where it has one
abbrev pub opposite : Expr → Option Expr
opposite (Int n place) = None
opposite (Var x) = None
opposite (Cell' t p a q b) = None
opposite (Rows t) = None
opposite (Cols t) = None
opposite (Neg' p a place) = None
opposite (Bin' op.Add place p a q b) = None
opposite (Bin' op.Sub place p a q b) = None
opposite (Bin' op.Mul place p a q b) = None
opposite (Bin' op.Div place p a q b) = None
opposite (Bin' op.Rem place p a q b) = None
opposite (Bin' op.Eq place p a q b) = Some (Bin' op.Ne place p a q b)
opposite (Bin' op.Ne place p a q b) = Some (Bin' op.Eq place p a q b)
opposite (Bin' op.Lt place p a q b) =
    of_below op.Le op.Ge place p a q b (literal a) (literal b)
opposite (Bin' op.Le place p a q b) =
    of_below op.Lt op.Gt place p a q b (literal a) (literal b)
opposite (Bin' op.Gt place p a q b) = Some (Bin' op.Le place p a q b)
opposite (Bin' op.Ge place p a q b) = Some (Bin' op.Lt place p a q b)

-- how many blocks a first branch has of its own: none where the test has an opposite
abbrev pub branch_blocks : Option Expr → ℕ
branch_blocks None = 1
branch_blocks (Some e) = 0

-- an expression was found, which is the node of an operation
pub record IsFound (found : Option Expr) (o : Operation) : Type 0 where
  pub node : Expr
  pub is : found ≡ Some node
  pub holds : IsNode o node
