-- The `par` loops of a `par`.
use Rattle.std.proofs.Common.{◌≡◌, ◌++◌, ◌∷◌, [], ℕ, List, Vec, refl, ap, ◌∙◌}
use Rattle.std.specs.declared.alloc.Global.{Global}
use Rattle.loop_syntax.specs.declared.ParLoop.{ParLoop}
use Rattle.loop_syntax.specs.declared.Stmt.{Stmt, Row_of-Stmt, end_of-Stmt, more_of-Stmt}
use Rattle.loop_syntax.specs.declared.Stmt.{items-the_row-Stmt, items_hidden-the_row-Stmt-0}
use Rattle.loop_syntax.specs.declared.Stmt.TheBlock.{hidden-the_row-Stmt-0}
use Rattle.loop_syntax.specs.declared.Stmt.TheVariants.{Par}
use Rattle.loop_rules.specs.Sites.{Loop}
use Rattle.loop_meaning.specs.Cells.{body_of, visible_after, bodies, bodies_all, bodies_of_list}

rows_bodies : {m : _} (vs : List (List ℕ)) (rounds : List Loop) (row : Row_of-Stmt m) → bodies_all vs rounds row ≡ bodies_of_list vs rounds (items-the_row-Stmt _ row)
rows_bodies vs rounds end_of-Stmt = refl
rows_bodies vs rounds (more_of-Stmt b rest) = ap (λ r. bodies vs rounds b ++ r) (rows_bodies (visible_after vs b) rounds rest)

-- the bodies in a block, and the statements that it is
vec_bodies : (vs : List (List ℕ)) (rounds : List Loop) (v : Vec Stmt Global) → bodies_all vs rounds (hidden-the_row-Stmt-0 v) ≡ bodies_of_list vs rounds v.items
vec_bodies vs rounds v = rows_bodies vs rounds (hidden-the_row-Stmt-0 v) ∙ ap (bodies_of_list vs rounds) (items_hidden-the_row-Stmt-0 v)

pub par_bodies : (vs : List (List ℕ)) (rounds : List Loop) (l : ParLoop) → bodies vs rounds (Par l) ≡ body_of vs rounds l ∷ bodies_of_list (vs ++ l.var.text.items ∷ []) ((body_of vs rounds l).loop ∷ rounds) l.body.items
par_bodies vs rounds l =
    let here : Loop = (body_of vs rounds l).loop in
    ap (λ ss. record { loop = here; rounds = rounds; statements = ss } ∷ bodies_all (vs ++ l.var.text.items ∷ []) (here ∷ rounds) (hidden-the_row-Stmt-0 l.body)) (items_hidden-the_row-Stmt-0 l.body)
    ∙ ap (λ bs. body_of vs rounds l ∷ bs) (vec_bodies (vs ++ l.var.text.items ∷ []) (here ∷ rounds) l.body)
