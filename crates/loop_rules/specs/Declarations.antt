-- What a program declares, in order.
use Rattle.std.specs.Prelude.{List, [], ◌∷◌, ◌++◌}
use Rattle.loop_syntax.specs.declared.Name.{Name}
use Rattle.loop_syntax.specs.declared.Stmt.{Stmt, Row_of-Stmt, end_of-Stmt, more_of-Stmt}
use Rattle.loop_syntax.specs.declared.Stmt.TheVariants.{Let, Set, Put, If', While', Loop', Par'}
use Rattle.loop_syntax.specs.declared.Stmt.TheVariants.{Fold, Call, Both, Print, Emit, Leave, Fill}
use Rattle.loop_syntax.specs.declared.TableDecl.{TableDecl}
pub use Rattle.loop_syntax.specs.Naming.{table_of_decl}

abbrev pub tables_of_decls : List TableDecl → List Name
tables_of_decls [] = []
tables_of_decls (declaration ∷ declarations) =
    table_of_decl declaration ∷ tables_of_decls declarations

-- the variables that a statement and the statements of a block declare, in order
abbrev mutual
  pub declared_in : Stmt → List Name
  declared_in (Let variable value) = variable ∷ []
  declared_in (If' condition p body q other) = declared_all body ++ declared_all other
  declared_in (While' condition p body) = declared_all body
  declared_in (Loop' variable from to p body) = variable ∷ declared_all body
  declared_in (Par' place variable from to carry_place carries reduces p body) =
      variable ∷ declared_all body
  declared_in (Set variable value) = []
  declared_in (Put table row_index column_index value) = []
  declared_in (Fold variable value) = []
  declared_in (Call variable call) = []
  declared_in (Both first first_call second second_call) = []
  declared_in (Print place value) = []
  declared_in (Emit place table) = []
  declared_in (Leave target value) = []
  declared_in (Fill callee table row_variable arguments) = []

  pub declared_all : {m : _} → Row_of-Stmt m → List Name
  declared_all end_of-Stmt = []
  declared_all (more_of-Stmt first rest) = declared_in first ++ declared_all rest

abbrev pub declared_list : List Stmt → List Name
declared_list [] = []
declared_list (statement ∷ statements) = declared_in statement ++ declared_list statements
