-- How many trap blocks an expression of some height can have.
use Rattle.std.proofs.Common.{ℕ, suc, ◌+◌, ◌^◌, ◌<◌, ◌≤◌, Bool, true, false, cond, max, arith, lit≤}
use Rattle.std.proofs.Math.Nat.{le-max_left, le-max_right, pow-suc, pow-le-pow_right}
use Rattle.loop_syntax.specs.declared.BinOp.{BinOp}
use Rattle.loop_syntax.specs.declared.Expr.{Expr}
use Rattle.loop_syntax.specs.declared.Expr.TheVariants.{Int, Var, Cell', Rows, Cols, Neg', Bin'}
use Rattle.loop_rules.specs.Limits.{height}
use Rattle.expr_lower.specs.Bodies.{trap_count, can_trap, literal}

-- two operands below powers of 2, and one more
both : (a b h k own : ℕ) → a + 1 ≤ 2 ^ h → b + 1 ≤ 2 ^ k → own ≤ 1 → a + b + own + 1 ≤ 2 ^ suc (max h k)
both a b h k own first second one =
    omega (arith, pow-suc 2 (max h k), pow-le-pow_right {n = 2} (lit≤ tt) {i = h} {j = max h k} (le-max_left h k), pow-le-pow_right {n = 2} (lit≤ tt) {i = k} {j = max h k} (le-max_right h k))

at_most_one : (can : Bool) → cond can 1 0 ≤ 1
at_most_one true = lit≤ tt
at_most_one false = lit≤ tt

few : (e : Expr) → trap_count e + 1 ≤ 2 ^ height e
few (Int n place) = lit≤ tt
few (Var x) = lit≤ tt
few (Cell' t p a q b) = both (trap_count a) (trap_count b) (height a) (height b) 1 (few a) (few b) (lit≤ tt)
few (Rows t) = lit≤ tt
few (Cols t) = lit≤ tt
few (Neg' p a place) = omega (arith, few a, pow-suc 2 (height a))
few (Bin' o place p a q b) = both (trap_count a) (trap_count b) (height a) (height b) (cond (can_trap o (literal b)) 1 0) (few a) (few b) (at_most_one (can_trap o (literal b)))

-- an expression that is evaluated in registers has fewer than 2^24
pub few_traps : (e : Expr) (to : ℕ) → to + height e ≤ 24 → trap_count e < 16777216
few_traps e to within = omega (arith, few e, pow-le-pow_right {n = 2} (lit≤ tt) {i = height e} {j = 24} (omega arith))

-- so have two with an operator over them
pub few_with_operator : (op : BinOp) (a b : Expr) (to : ℕ)
    → to + suc (max (height a) (height b)) ≤ 24
    → trap_count a + trap_count b + cond (can_trap op (literal b)) 1 0 < 16777216
few_with_operator op a b to within =
    omega (
      arith,
      both (trap_count a) (trap_count b) (height a) (height b)
          (cond (can_trap op (literal b)) 1 0) (few a) (few b) (at_most_one (can_trap op (literal b))),
      pow-le-pow_right {n = 2} (lit≤ tt) {i = suc (max (height a) (height b))} {j = 24} (omega arith),
    )
