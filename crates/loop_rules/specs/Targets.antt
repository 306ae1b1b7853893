-- The targets of the `leave` statements whose nearest `par` is the one round them, in order.
use Rattle.std.specs.Prelude.{List, [], ◌∷◌, ◌++◌}
use Rattle.loop_syntax.specs.declared.Name.{Name}
use Rattle.loop_syntax.specs.declared.Stmt.{Stmt, Row_of-Stmt, end_of-Stmt, more_of-Stmt}
use Rattle.loop_syntax.specs.declared.Stmt.TheVariants.{If', While', Loop', Leave}

-- those of a statement, and of the statements of a block; a `par` inside keeps its own
abbrev mutual
  pub targets_in : Stmt → List Name
  targets_in (Leave target value) = target ∷ []
  targets_in (If' condition p body q other) = targets_all body ++ targets_all other
  targets_in (While' condition p body) = targets_all body
  targets_in (Loop' variable from to p body) = targets_all body
  targets_in _ = []

  pub targets_all : {m : _} → Row_of-Stmt m → List Name
  targets_all end_of-Stmt = []
  targets_all (more_of-Stmt first rest) = targets_in first ++ targets_all rest

abbrev pub targets_list : List Stmt → List Name
targets_list [] = []
targets_list (statement ∷ statements) = targets_in statement ++ targets_list statements
