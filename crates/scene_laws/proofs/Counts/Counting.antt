-- The blocks of statements, as a row and as a list.
use Rattle.std.proofs.Common.{◌≡◌, ◌+◌, refl, ap, sym, ◌∙◌, Vec}
use Rattle.std.specs.List.{sum_by}
use Rattle.std.proofs.lemmas.List.Sums.{sum_by-cons}
use Rattle.std.specs.declared.alloc.Global.{Global}
use Rattle.loop_syntax.specs.declared.Stmt.{Stmt, Row_of-Stmt, end_of-Stmt, more_of-Stmt}
use Rattle.loop_syntax.specs.declared.Stmt.{items-the_row-Stmt, items_hidden-the_row-Stmt-0}
use Rattle.loop_syntax.specs.declared.Stmt.TheBlock.{hidden-the_row-Stmt-0}
use Rattle.scene_laws.specs.Count.{blocks, blocks_of_all}

blocks_of_row : {m : _} (row : Row_of-Stmt m) → blocks_of_all row ≡ sum_by blocks (items-the_row-Stmt _ row)
blocks_of_row end_of-Stmt = refl
blocks_of_row (more_of-Stmt b rest) = ap (λ n. blocks b + n) (blocks_of_row rest) ∙ sym (sum_by-cons blocks b (items-the_row-Stmt _ rest))

pub blocks_of_vec : (body : Vec Stmt Global) → blocks_of_all (hidden-the_row-Stmt-0 body) ≡ sum_by blocks body.items
blocks_of_vec body = blocks_of_row (hidden-the_row-Stmt-0 body) ∙ ap (λ ss. sum_by blocks ss) (items_hidden-the_row-Stmt-0 body)
