-- Which statements have expressions that are low enough for the registers.
use Rattle.std.specs.Prelude.{◌≤◌, ⊤, List, [], ◌∷◌, length}
use Rattle.std.specs.List.{AllByRecursion}
use Rattle.loop_syntax.specs.declared.Expr.{Expr}
use Rattle.loop_syntax.specs.declared.Func.{Func}
use Rattle.loop_syntax.specs.declared.Stmt.{Stmt, Row_of-Stmt, end_of-Stmt, more_of-Stmt}
use Rattle.loop_syntax.specs.declared.Stmt.TheVariants.{Let, Set, Put, If', While', Loop', Par'}
use Rattle.loop_syntax.specs.declared.Stmt.TheVariants.{Fold, Call, Both, Print, Emit, Leave, Fill}
use Rattle.loop_syntax.specs.declared.TableDecl.{TableDecl}
use Rattle.loop_syntax.specs.declared.TableDecl.TheVariants.{Input, Made}
use Rattle.loop_rules.specs.Limits.{height}
use Rattle.tp_value.specs.declared.limits.TheConstants.{MAX_EXPRESSION_HEIGHT, MAX_PARAMETERS}

-- an expression that is low enough for the registers
abbrev pub IsLow : Expr → Type 0
IsLow e = height e ≤ MAX_EXPRESSION_HEIGHT

-- few arguments, each low enough
abbrev pub AreLowArguments : List Expr → Type 0
AreLowArguments es = (length es ≤ MAX_PARAMETERS) × AllByRecursion IsLow es

-- the expressions of a statement are low enough, as are those inside
abbrev mutual
  pub AreLow : Stmt → Type 0
  AreLow (Let x e) = IsLow e
  AreLow (Set x e) = IsLow e
  AreLow (Put t a b e) = IsLow a × IsLow b × IsLow e
  AreLow (If' e p body q other) = IsLow e × RowIsLow body × RowIsLow other
  AreLow (While' e p body) = IsLow e × RowIsLow body
  AreLow (Loop' x a b p body) = IsLow a × IsLow b × RowIsLow body
  AreLow (Par' place x a b carry_place carries reduces p body) = IsLow a × IsLow b × RowIsLow body
  AreLow (Fold x e) = IsLow e
  AreLow (Call x f) = AreLowArguments f.args.items
  AreLow (Both x f y g) = AreLowArguments f.args.items × AreLowArguments g.args.items
  AreLow (Print place e) = IsLow e
  AreLow (Emit place t) = ⊤
  AreLow (Leave x e) = IsLow e
  AreLow (Fill f t r es) = ⊤

  pub RowIsLow : {m : _} → Row_of-Stmt m → Type 0
  RowIsLow end_of-Stmt = ⊤
  RowIsLow (more_of-Stmt first rest) = AreLow first × RowIsLow rest

abbrev pub AllAreLow : List Stmt → Type 0
AllAreLow [] = ⊤
AllAreLow (s ∷ ss) = AreLow s × AllAreLow ss

abbrev pub FuncIsLow : Func → Type 0
FuncIsLow f = AllAreLow f.body.items × IsLow f.result

abbrev pub DeclIsLow : TableDecl → Type 0
DeclIsLow (Input x) = ⊤
DeclIsLow (Made x a b) = IsLow a × IsLow b
