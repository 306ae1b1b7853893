-- What the code of statements asks of them: their variables and tables are visible, none
-- is set that is fixed there, and there is room for those that they declare. What the code of a
-- program asks of it.
use Rattle.std.specs.Prelude.{◌≡◌, ◌≢◌, ℕ, ◌+◌, ◌<◌, ◌≤◌, IsTrue, ⊤, List, [], ◌∷◌, ◌++◌}
use Rattle.std.specs.Prelude.{false, length, map, bytes_eq, Some}
use Rattle.std.specs.List.{AllByRecursion, IsDistinct}
use Rattle.tp_value.specs.declared.limits.TheConstants.{MAX_TABLES, MAX_PARAMETERS}
use Rattle.tp_value.specs.declared.limits.TheConstants.{MAX_CARRIES, MAX_PAR_NESTING}
use Rattle.tp_value.specs.declared.limits.TheConstants.{MAX_REDUCTIONS}
use Rattle.tp_value.specs.declared.limits.TheConstants.{MAX_DECLARED_VARIABLES}
use Rattle.loop_syntax.specs.declared.App.{App}
use Rattle.loop_syntax.specs.declared.Carry.{Carry}
use Rattle.loop_syntax.specs.declared.Func.{Func}
use Rattle.loop_syntax.specs.declared.Program.{Program}
use Rattle.loop_syntax.specs.declared.Reduce.{Reduce}
use Rattle.loop_syntax.specs.declared.Stmt.{Stmt, Row_of-Stmt, end_of-Stmt, more_of-Stmt}
use Rattle.loop_syntax.specs.declared.Stmt.TheVariants.{Let, Set, Put, If', While', Loop', Par'}
use Rattle.loop_syntax.specs.declared.Stmt.TheVariants.{Fold, Call, Both, Print, Emit, Leave, Fill}
use Rattle.loop_syntax.specs.declared.TableDecl.{TableDecl}
use Rattle.loop_syntax.specs.declared.TableDecl.TheVariants.{Input, Made}
use Rattle.loop_rules.specs.Declarations.{declared_list, table_of_decl}
use Rattle.loop_rules.specs.Names.{is_in, texts, func_names, func_of}
use Rattle.loop_rules.specs.Sites.{tables_of}
use Rattle.scene_laws.specs.Heights.{AllAreLow, FuncIsLow, DeclIsLow}
use Rattle.scene_laws.specs.Layout.{Entry, entry_of}
use Rattle.scene_laws.specs.Names.{level_of, names_after, names_after_list}
use Rattle.scene_laws.specs.Round.{Round, outermost, loop_round, par_round}
use Rattle.scene_laws.specs.Sites.{carried_table}
use Rattle.scene_laws.specs.Visible.{IsVisible, AreVisible}
use Rattle.frame_machine.specs.Lawful.{Distinct, DistinctTargets}

-- Statements of a program with these tables and functions, in an activation with room for so many
-- variables.
module _ (tables : List (List ℕ)) (functions : List Entry) (most : ℕ) where
  -- a variable is visible, and is none of those at the fixed levels
  pub record IsFree (names : List (List ℕ)) (fixed : List ℕ) (x : List ℕ) : Type 0 where
    pub seen : IsTrue (is_in names x)
    pub below : level_of names x < most
    pub free : AllByRecursion (λ j. j ≢ level_of names x) fixed

  -- a function is there, with so many parameters as there are arguments, and these are visible
  pub record IsCall (names : List (List ℕ)) (f : App) : Type 0 where
    pub entry : Entry
    pub is_entry : entry_of functions f.callee.text.items ≡ Some entry
    pub arity : length f.args.items ≡ entry.parameters
    pub seen : AreVisible tables names f.args.items

  -- a `par` that reduces and carries these can be cut: its variables may be set, its tables are
  -- there, none stands twice, and there are few
  pub record CanBeCut (names : List (List ℕ)) (fixed : List ℕ) (reduces : List Reduce)
      (carries : List Carry) : Type 0 where
    pub few_reduces : length reduces ≤ MAX_REDUCTIONS
    pub few_carries : length carries ≤ MAX_CARRIES
    pub reduced : AllByRecursion (λ r. IsFree names fixed r.target.text.items) reduces
    pub reduced_differ : DistinctTargets reduces
    pub carried_seen : AllByRecursion (λ c. IsTrue (is_in tables (carried_table c))) carries
    pub carried_differ : Distinct (map carried_table carries)

  -- a statement fits where this stands round it and these variables are visible
  abbrev mutual
    pub Fits : Round → List (List ℕ) → Stmt → Type 0
    Fits round names (Let x e) = (length names < most) × IsVisible tables names e
    Fits round names (Set x e) = IsFree names round.fixed x.text.items × IsVisible tables names e
    Fits round names (Put t a b e) =
        IsTrue (is_in tables t.text.items)
        × IsVisible tables names a
        × IsVisible tables names b
        × IsVisible tables names e
    Fits round names (If' e p body q other) =
        IsVisible tables names e × FitInRow round names body × FitInRow round names other
    Fits round names (While' e p body) = IsVisible tables names e × FitInRow round names body
    Fits round names (Loop' x a b p body) =
        (length names < most)
        × IsVisible tables names a
        × IsVisible tables names b
        × FitInRow (loop_round round (length names)) (names ++ x.text.items ∷ []) body
    Fits round names (Par' place x a b carry_place carries reduces p body) =
        (round.depth < MAX_PAR_NESTING)
        × (length names < most)
        × IsVisible tables names a
        × IsVisible tables names b
        × FitInRow (par_round round names reduces.items) (names ++ x.text.items ∷ []) body
        × CanBeCut names round.fixed reduces.items carries.items
        × (is_in names x.text.items ≡ false)
    Fits round names (Fold x e) = IsFree names round.fixed x.text.items × IsVisible tables names e
    Fits round names (Call x f) = IsFree names round.fixed x.text.items × IsCall names f
    Fits round names (Both x f y g) =
        IsFree names round.fixed x.text.items
        × IsFree names round.fixed y.text.items
        × IsCall names f
        × IsCall names g
    Fits round names (Print place e) = IsVisible tables names e
    Fits round names (Emit place t) = IsTrue (is_in tables t.text.items)
    -- these have no code yet
    Fits round names (Leave x e) = ⊥
    Fits round names (Fill f t r es) = ⊥

    pub FitInRow : {m : _} → Round → List (List ℕ) → Row_of-Stmt m → Type 0
    FitInRow round names end_of-Stmt = ⊤
    FitInRow round names (more_of-Stmt first rest) =
        Fits round names first × FitInRow round (names_after names first) rest

  abbrev pub AllFit : Round → List (List ℕ) → List Stmt → Type 0
  AllFit round names [] = ⊤
  AllFit round names (s ∷ ss) = Fits round names s × AllFit round (names_after names s) ss

-- ---- functions

-- that name has an entry with as many parameters as the function
pub record HasEntry (functions : List Entry) (x : List ℕ) (f : Func) : Type 0 where
  pub entry : Entry
  pub is_entry : entry_of functions x ≡ Some entry
  pub arity : length f.params.items ≡ entry.parameters

-- each function of a program, the first one of its name, has such an entry
abbrev pub AreEntriesOf : List Entry → List Func → Type 0
AreEntriesOf functions fs = (x : List ℕ) (f : Func) → func_of fs x ≡ Some f → HasEntry functions x f

-- how many variables a function has: its parameters, and those that its statements declare
abbrev pub variables_of : Func → ℕ
variables_of f = length f.params.items + length (declared_list f.body.items)

-- a function fits, whichever entries the functions of the program have
pub record FuncFits (p : Program) (f : Func) : Type 0 where
  pub fits : (functions : List Entry)
      → AreEntriesOf functions p.funcs.items
      → AllFit (texts (tables_of p)) functions (variables_of f) outermost (texts f.params.items)
      f.body.items
  pub seen : IsVisible (texts (tables_of p)) (names_after_list (texts f.params.items) f.body.items)
      f.result
  pub low : FuncIsLow f
  pub few_parameters : length f.params.items ≤ MAX_PARAMETERS
  pub few : variables_of f ≤ MAX_DECLARED_VARIABLES

-- ---- programs

-- main fits, whichever entries the functions have
pub record MainFits (p : Program) : Type 0 where
  pub fits : (functions : List Entry)
      → AreEntriesOf functions p.funcs.items
      → AllFit (texts (tables_of p)) functions (length (declared_list p.main.items)) outermost []
      p.main.items
  pub low : AllAreLow p.main.items
  pub few : length (declared_list p.main.items) ≤ MAX_DECLARED_VARIABLES

-- the sizes of a table use these tables, and no variable
abbrev pub SizesAreVisible : List (List ℕ) → TableDecl → Type 0
SizesAreVisible before (Input x) = ⊤
SizesAreVisible before (Made x a b) = IsVisible before [] a × IsVisible before [] b

-- declarations fit where these tables are declared before
abbrev pub DeclsFit : List (List ℕ) → List TableDecl → Type 0
DeclsFit before [] = ⊤
DeclsFit before (d ∷ ds) =
    SizesAreVisible before d
    × DeclIsLow d
    × DeclsFit (before ++ (table_of_decl d).text.items ∷ []) ds

-- what the code of a program asks of it
pub record ProgramFits (p : Program) : Type 0 where
  pub main : MainFits p
  pub functions : AllByRecursion (FuncFits p) p.funcs.items
  pub declarations : DeclsFit [] p.tables.items
  pub few_tables : length p.tables.items ≤ MAX_TABLES
  pub tables_differ : IsDistinct bytes_eq (texts (tables_of p))
  pub functions_differ : IsDistinct bytes_eq (func_names p.funcs.items)
  pub apart : (x : List ℕ)
      → IsTrue (is_in (texts (tables_of p)) x)
      → IsTrue (is_in (func_names p.funcs.items) x)
      → ⊥
