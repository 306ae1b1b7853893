-- The end of a `par` of which an iteration is left.
use Rattle.std.proofs.Common.{◌≡◌, ℕ, List, Option, Some, None, Vec, refl, ap, ◌∙◌, subst}
use Rattle.std.specs.declared.alloc.Global.{Global}
use Rattle.tp_value.specs.declared.Stop.{Stop}
use Rattle.tp_value.specs.declared.Stop.TheVariants.{Done, Left, Trap, NoFuel}
use Rattle.loop_syntax.specs.declared.Stmt.{Stmt, Row_of-Stmt, end_of-Stmt, more_of-Stmt}
use Rattle.loop_syntax.specs.declared.Stmt.{items-the_row-Stmt, items_hidden-the_row-Stmt-0}
use Rattle.loop_syntax.specs.declared.Stmt.TheBlock.{hidden-the_row-Stmt-0}
use Rattle.loop_syntax.specs.declared.Stmt.TheVariants.{If, While, Loop}
use Rattle.loop_syntax.specs.declared.Expr.{Expr}
use Rattle.loop_syntax.specs.declared.Name.{Name}
use Rattle.loop_meaning.specs.State.{assign, State, Ran}
use Rattle.loop_meaning.specs.Leaving.{or_else, left_of, left_in, left_list, caught_by, caught}
use Rattle.loop_meaning.specs.Ends.{EndAlike}

rows_left : {m : _} (row : Row_of-Stmt m) → left_in row ≡ left_list (items-the_row-Stmt _ row)
rows_left end_of-Stmt = refl
rows_left (more_of-Stmt s rest) = ap (or_else (left_of s)) (rows_left rest)

pub vec_left : (v : Vec Stmt Global) → left_in (hidden-the_row-Stmt-0 v) ≡ left_list v.items
vec_left v = rows_left (hidden-the_row-Stmt-0 v) ∙ ap left_list (items_hidden-the_row-Stmt-0 v)

pub left_if : (e : Expr) (body other : Vec Stmt Global) → left_of (If e body other) ≡ or_else (left_list body.items) (left_list other.items)
left_if e body other = ap (λ x. or_else x (left_in (hidden-the_row-Stmt-0 other))) (vec_left body) ∙ ap (or_else (left_list body.items)) (vec_left other)

pub left_while : (e : Expr) (body : Vec Stmt Global) → left_of (While e body) ≡ left_list body.items
left_while e body = vec_left body

pub left_loop : (x : Name) (a b : Expr) (body : Vec Stmt Global) → left_of (Loop x a b body) ≡ left_list body.items
left_loop x a b body = vec_left body

-- runs that end alike are caught alike
pub caught_alike : (target : Option (List ℕ)) (r q : Ran) → EndAlike r q → EndAlike (caught target r) (caught target q)
caught_alike target r q h = subst (λ x. EndAlike (caught target r) (caught_by x target q)) h.stop (go r.stop target)
  where
    go : (x : Stop) (target : Option (List ℕ)) → EndAlike (caught_by x target r) (caught_by x target q)
    go (Left n) (Some y) = record { stop = refl; state = ap {A = State} {B = State} (λ s. record s { vars = assign s.vars y n }) h.state }
    go (Left n) None = record { stop = refl; state = h.state }
    go Done target = h
    go (Trap k p) target = h
    go NoFuel target = h
