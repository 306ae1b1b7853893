-- The variables that statements declare.
use Rattle.std.proofs.Common.{◌≡◌, ◌<◌, ◌+◌, ◌++◌, ◌∷◌, [], ℕ, suc, List, drop, drop-cons, add-one}
use Rattle.std.proofs.Common.{length, get_or, Vec, refl, ap, ◌∙◌, append_assoc}
use Rattle.std.specs.Borrow.{Bor}
use Rattle.std.specs.declared.alloc.Global.{Global}
use Rattle.loop_syntax.specs.declared.Name.{Name}
use Rattle.loop_syntax.specs.declared.Expr.{Expr}
use Rattle.loop_syntax.specs.declared.ParLoop.{ParLoop}
use Rattle.loop_syntax.specs.declared.Stmt.{Stmt, Row_of-Stmt, end_of-Stmt, more_of-Stmt}
use Rattle.loop_syntax.specs.declared.Stmt.{items-the_row-Stmt, items_hidden-the_row-Stmt-0}
use Rattle.loop_syntax.specs.declared.Stmt.TheBlock.{hidden-the_row-Stmt-0}
use Rattle.loop_syntax.specs.declared.Stmt.TheVariants.{If, While, Loop, Par}
use Rattle.loop_rules.specs.Declarations.{declared_in, declared_all, declared_list}
use Rattle.loop_rules.specs.Walk.{named}

rows_declared : {m : _} (row : Row_of-Stmt m) → declared_all row ≡ declared_list (items-the_row-Stmt _ row)
rows_declared end_of-Stmt = refl
rows_declared (more_of-Stmt b rest) = ap (λ r. declared_in b ++ r) (rows_declared rest)

vec_declared : (v : Vec Stmt Global) → declared_all (hidden-the_row-Stmt-0 v) ≡ declared_list v.items
vec_declared v = rows_declared (hidden-the_row-Stmt-0 v) ∙ ap declared_list (items_hidden-the_row-Stmt-0 v)

pub declared_if : (e : Expr) (body other : Vec Stmt Global) → declared_in (If e body other) ≡ declared_list body.items ++ declared_list other.items
declared_if e body other =
    ap (λ r. r ++ declared_all (hidden-the_row-Stmt-0 other)) (vec_declared body) ∙ ap (λ r. declared_list body.items ++ r) (vec_declared other)

pub declared_while : (e : Expr) (body : Vec Stmt Global) → declared_in (While e body) ≡ declared_list body.items
declared_while e body = vec_declared body

pub declared_loop : (x : Name) (a b : Expr) (body : Vec Stmt Global) → declared_in (Loop x a b body) ≡ x ∷ declared_list body.items
declared_loop x a b body = ap (λ r. x ∷ r) (vec_declared body)

pub declared_par : (l : ParLoop) → declared_in (Par l) ≡ l.var ∷ declared_list l.body.items
declared_par l = ap (λ r. l.var ∷ r) (vec_declared l.body)

pub declared_step : (names : List Name) (body : List Stmt) (i : ℕ) (s : Stmt) → i < length body → s ≡ get_or body i s
    → (names ++ declared_in s) ++ declared_list (drop (i + 1) body) ≡ names ++ declared_list (drop i body)
declared_step names body i s lt is =
    rw (add-one, drop-cons body i s lt, ← is) (append_assoc names (declared_in s) (declared_list (drop (suc i) body)))

pub named-append : (xs : List (Bor Name)) (x : Bor Name) → named (xs ++ x ∷ []) ≡ named xs ++ x.now ∷ []
named-append [] x = refl
named-append (y ∷ xs) x = ap (λ r. y.now ∷ r) (named-append xs x)

pub pushed_two : (a b c xs ys : List Name) → b ≡ a ++ xs → c ≡ b ++ ys → c ≡ a ++ (xs ++ ys)
pushed_two a b c xs ys p q = q ∙ ap (λ r. r ++ ys) p ∙ append_assoc a xs ys
