-- Which programs there is code for: those without `leave`, which has none yet.
use Rattle.std.specs.Prelude.{Bool, true, false, ◌&&◌, List, [], ◌∷◌}
use Rattle.loop_syntax.specs.declared.Func.{Func}
use Rattle.loop_syntax.specs.declared.Program.{Program}
use Rattle.loop_syntax.specs.declared.Stmt.{Stmt, Row_of-Stmt, end_of-Stmt, more_of-Stmt}
use Rattle.loop_syntax.specs.declared.Stmt.TheVariants.{If', While', Loop', Par', Leave, Fill}

-- whether a statement has code, and so those of a block
abbrev mutual
  pub is_built : Stmt → Bool
  is_built (If' e p body q other) = all_are_built body && all_are_built other
  is_built (While' e p body) = all_are_built body
  is_built (Loop' x a b p body) = all_are_built body
  is_built (Par' place x a b carry_place carries reduces p body) = all_are_built body
  is_built (Leave x e) = false
  is_built (Fill f t r es) = false
  is_built _ = true

  pub all_are_built : {m : _} → Row_of-Stmt m → Bool
  all_are_built end_of-Stmt = true
  all_are_built (more_of-Stmt first rest) = is_built first && all_are_built rest

abbrev pub list_is_built : List Stmt → Bool
list_is_built [] = true
list_is_built (s ∷ ss) = is_built s && list_is_built ss

abbrev pub functions_are_built : List Func → Bool
functions_are_built [] = true
functions_are_built (f ∷ fs) = list_is_built f.body.items && functions_are_built fs

-- whether all statements of a program have
abbrev pub program_is_built : Program → Bool
program_is_built p = functions_are_built p.funcs.items && list_is_built p.main.items
