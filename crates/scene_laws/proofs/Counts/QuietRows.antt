-- The statements of a vector are quiet as its row is.
use Rattle.std.proofs.Common.{◌≡◌, Bool, true, false, List, length, Vec, refl, ap, ◌∙◌}
use Rattle.std.specs.Prelude.{◌&&◌, nat_le}
use Rattle.std.specs.declared.alloc.Global.{Global}
use Rattle.handler_gen.specs.Registers.{leaf_accs}
use Rattle.loop_check.proofs.Bools.{and_right}
use Rattle.loop_syntax.specs.declared.Reduce.{Reduce}
use Rattle.loop_syntax.specs.declared.Stmt.{Stmt, Row_of-Stmt, end_of-Stmt, more_of-Stmt}
use Rattle.loop_syntax.specs.declared.Stmt.{items-the_row-Stmt, items_hidden-the_row-Stmt-0}
use Rattle.loop_syntax.specs.declared.Stmt.TheBlock.{hidden-the_row-Stmt-0}
use Rattle.scene_laws.specs.Quiet.{is_leaf, is_quiet, all_is_quiet, list_is_quiet}
use Rattle.scene_laws.specs.Quiet.{row_is_leaf}

quiet_of_row : {m : _} (calls : Bool) (row : Row_of-Stmt m)
    → all_is_quiet calls row ≡ list_is_quiet calls (items-the_row-Stmt _ row)
quiet_of_row calls end_of-Stmt = refl
quiet_of_row calls (more_of-Stmt first rest) =
    ap (λ (b : Bool). is_quiet calls first && b) (quiet_of_row calls rest)

pub quiet_of_vec : (calls : Bool) (body : Vec Stmt Global)
    → all_is_quiet calls (hidden-the_row-Stmt-0 body) ≡ list_is_quiet calls body.items
quiet_of_vec calls body =
    quiet_of_row calls (hidden-the_row-Stmt-0 body)
    ∙ ap (λ (ss : List Stmt). list_is_quiet calls ss) (items_hidden-the_row-Stmt-0 body)

-- so is a leaf loop
pub leaf_of_vec : (body : Vec Stmt Global) (reduces : List Reduce)
    → row_is_leaf (hidden-the_row-Stmt-0 body) reduces ≡ is_leaf body.items reduces
leaf_of_vec body reduces =
    ap (λ (b : Bool). nat_le (length reduces) leaf_accs && b) (quiet_of_vec false body)

-- no point of promotion is reached in its body, in a call neither
pub leaf_is_quiet : (body : List Stmt) (reduces : List Reduce) → is_leaf body reduces ≡ true
    → list_is_quiet false body ≡ true
leaf_is_quiet body reduces leaf =
    and_right (nat_le (length reduces) leaf_accs) (list_is_quiet false body) leaf
