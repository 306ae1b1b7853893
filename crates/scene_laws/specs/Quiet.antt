-- Where no task is cut: the only points of promotion are those of `par` and of `both`.
use Rattle.std.specs.Prelude.{Bool, true, false, ◌&&◌, nat_le, List, [], ◌∷◌, length}
use Rattle.handler_gen.specs.Registers.{leaf_accs}
use Rattle.loop_syntax.specs.declared.Func.{Func}
use Rattle.loop_syntax.specs.declared.Reduce.{Reduce}
use Rattle.loop_syntax.specs.declared.Stmt.{Stmt, Row_of-Stmt, end_of-Stmt, more_of-Stmt}
use Rattle.loop_syntax.specs.declared.Stmt.TheVariants.{Let, Set, Put, If', While', Loop', Par'}
use Rattle.loop_syntax.specs.declared.Stmt.TheVariants.{Fold, Call, Both, Print, Emit, Leave, Fill}

-- whether no point of promotion can be reached in a statement, where none can in a call or one may
abbrev mutual
  pub is_quiet : Bool → Stmt → Bool
  is_quiet calls (Let x e) = true
  is_quiet calls (Set x e) = true
  is_quiet calls (Put t a b e) = true
  is_quiet calls (If' e p body q other) = all_is_quiet calls body && all_is_quiet calls other
  is_quiet calls (While' e p body) = all_is_quiet calls body
  is_quiet calls (Loop' x a b p body) = all_is_quiet calls body
  is_quiet calls (Par' place x a b carry_place carries reduces p body) = false
  is_quiet calls (Fold x e) = true
  is_quiet calls (Call x f) = calls
  is_quiet calls (Both x f y g) = false
  is_quiet calls (Print place e) = true
  is_quiet calls (Emit place t) = true
  is_quiet calls (Leave x e) = true
  is_quiet calls (Fill f t r es) = true

  pub all_is_quiet : {m : _} → Bool → Row_of-Stmt m → Bool
  all_is_quiet calls end_of-Stmt = true
  all_is_quiet calls (more_of-Stmt first rest) = is_quiet calls first && all_is_quiet calls rest

abbrev pub list_is_quiet : Bool → List Stmt → Bool
list_is_quiet calls [] = true
list_is_quiet calls (s ∷ ss) = is_quiet calls s && list_is_quiet calls ss

-- Whether a `par` with this body, which reduces these, is a leaf loop: there are registers for what
-- it reduces, and its body holds no `par`, no `both` and no call.
abbrev pub is_leaf : List Stmt → List Reduce → Bool
is_leaf body reduces = nat_le (length reduces) leaf_accs && list_is_quiet false body

abbrev pub row_is_leaf : {m : _} → Row_of-Stmt m → List Reduce → Bool
row_is_leaf body reduces = nat_le (length reduces) leaf_accs && all_is_quiet false body

-- whether none can in any function: none has a `par` or a `both`
abbrev pub functions_are_quiet : List Func → Bool
functions_are_quiet [] = true
functions_are_quiet (f ∷ fs) = list_is_quiet true f.body.items && functions_are_quiet fs
