-- What is promised of writing the code of functions, of tables and of a program.
use Rattle.std.specs.Prelude.{◌≡◌, ℕ, ◌+◌, ◌≤◌, Bool, ⊤, List, [], ◌∷◌, length, map, pos}
use Rattle.std.specs.List.{sum_by, AllByRecursion}
use Rattle.tp_value.specs.declared.limits.TheConstants.{MAX_PARAMETERS, MAX_DECLARED_VARIABLES}
use Rattle.tp_value.specs.declared.limits.TheConstants.{MAX_CALL_DEPTH}
use Rattle.loop_syntax.specs.declared.Func.{Func}
use Rattle.loop_syntax.specs.declared.Program.{Program}
use Rattle.loop_syntax.specs.declared.TableDecl.{TableDecl}
use Rattle.loop_rules.specs.Names.{texts}
use Rattle.tpal_syntax.specs.declared.instructions.Instr.{Instr}
use Rattle.tpal_syntax.specs.declared.instructions.Instr.TheVariants.{Salloc}
use Rattle.tpal_syntax.specs.declared.instructions.Term.{Term}
use Rattle.tpal_syntax.specs.declared.instructions.Term.TheVariants.{Halt}
use Rattle.tpal_syntax.specs.declared.instructions.Value.TheVariants as value
use Rattle.tpal_syntax.specs.Listing.{Listing}
use Rattle.expr_lower.specs.declared.scope.Scope.{Scope}
use Rattle.block_lower.specs.declared.body.Body.{Body}
use Rattle.block_lower.specs.declared.output.Output.{Output}
use Rattle.block_lower.specs.Bodies.{entries, activation}
use Rattle.scene_laws.specs.Visible.{IsVisible}
use Rattle.code_laws.specs.Fitting.{AllFit, DeclsFit}
use Rattle.scene_laws.specs.Code.{Codes, store}
use Rattle.scene_laws.specs.Layout.{value_cell, levels_cell, Entry, Activation}
use Rattle.form_laws.specs.Functions.{IsFunction, Makes, table_name}
use Rattle.scene_laws.specs.Names.{SeesBare, names_after_list}
use Rattle.scene_laws.specs.Quiet.{functions_are_quiet}
use Rattle.scene_laws.specs.Round.{outermost}
use Rattle.scene_laws.specs.Sizes.{added_by_list, added_by_func, added_by_decls, declared_by_list}
use Rattle.scene_laws.specs.Sizes.{kept_by_list}
use Rattle.block_lower.specs.Writing.{label, Stands, Continues, Leads}

-- ---- functions

-- how many variables the activation of a function has room for: its parameters, and those that it
-- declares
abbrev pub most_of : Func → ℕ
most_of f = length f.params.items + declared_by_list f.body.items

-- how many cells it has
abbrev pub size_of : Func → ℕ
size_of f = value_cell (most_of f) + kept_by_list f.body.items

-- a function whose first block is at a label
abbrev pub entry_at : ℕ → Func → Entry
entry_at label f =
    record {
      name = f.name.text.items;
      label = label;
      parameters = length f.params.items;
      size =
          size_of f;
    }

-- functions whose blocks stand one behind the other from a label on
abbrev pub entries_from : Bool → ℕ → List Func → List Entry
entries_from calls label [] = []
entries_from calls label (f ∷ fs) =
    entry_at label f ∷ entries_from calls (label + added_by_func calls f) fs

-- how many blocks they have
abbrev pub added_by_funcs : Bool → List Func → ℕ
added_by_funcs calls fs = sum_by (added_by_func calls) fs

-- a function has few variables
pub record FuncIsSmall (f : Func) : Type 0 where
  pub few_parameters : length f.params.items ≤ MAX_PARAMETERS
  pub few : most_of f ≤ MAX_DECLARED_VARIABLES

-- a function's statements and its result fit in an activation of its own
pub record FuncFitsIn (tables : List (List ℕ)) (functions : List Entry) (f : Func) : Type 0 where
  pub fits : AllFit tables functions (most_of f) outermost (texts f.params.items) f.body.items
  pub seen : IsVisible tables (names_after_list (texts f.params.items) f.body.items) f.result

-- functions fit in a body, where a scope is visible
pub record FuncsFitNow (on : Body) (scope : Scope) (fs : List Func) : Type 0 where
  pub tables : List (List ℕ)
  pub sees : SeesBare scope [] tables
  pub fits : AllByRecursion (FuncFitsIn tables (entries on.callees.items)) fs

-- the code of a function was written and closed; the open block was to be its first
abbrev pub LowersFunc : Body → Scope → Func → Output → Output → Type 0
LowersFunc on scope f old new =
    (code : Listing) (tables : List (List ℕ))
    → SeesBare scope [] tables
    → AllFit tables (entries on.callees.items) on.most outermost (texts f.params.items) f.body.items
    → IsVisible tables (names_after_list (texts f.params.items) f.body.items) f.result
    → Stands code new
    → Stands code old × IsFunction code (activation on tables) f (label old)

-- the activation of a function of a program that stands on this
abbrev pub activation_of : Activation → Func → Activation
activation_of act f = record act { most = most_of f; size = size_of f }

-- functions stand in a code one behind the other
abbrev pub AreWritten : Listing → Activation → ℕ → List Func → Type 0
AreWritten code act at [] = ⊤
AreWritten code act at (f ∷ fs) =
    IsFunction code (activation_of act f) f at
    × AreWritten code act (at + added_by_func act.calls f) fs

-- the code of functions was written
abbrev pub LowersFuncs : Body → Scope → List Func → Output → Output → Type 0
LowersFuncs on scope fs old new =
    (code : Listing) (tables : List (List ℕ))
    → SeesBare scope [] tables
    → AllByRecursion (FuncFitsIn tables (entries on.callees.items)) fs
    → Stands code new
    → Stands code old × AreWritten code (activation on tables) (label old) fs

-- ---- tables

-- a scope has the same variables as before, and so many of the tables as told of those before
abbrev pub SeesTables : (List (List ℕ) → List (List ℕ)) → Scope → Scope → Type 0
SeesTables told old new =
    (names tables : List (List ℕ)) → SeesBare old names tables → SeesBare new names (told tables)

-- the code of declarations was written
abbrev pub WritesMakes : Body → Scope → List TableDecl → Output → Output → Type 0
WritesMakes on scope ds old new =
    (code : Listing) (tables seen : List (List ℕ)) (more : List Instr) (last : Term)
    → SeesBare scope [] seen
    → DeclsFit seen ds
    → Continues code new more last
    → Leads code old
    (λ instrs end. (end ≡ last) × Makes code (activation on tables) seen ds instrs more)

-- ---- programs

-- The code of main is what an open block goes on with: its activation is there, the tables are
-- made, the statements follow.
pub record IsMainAt (code : Listing) (act : Activation) (p : Program) (out : Output) : Type 0 where
  pub makes : List Instr
  pub instrs : List Instr
  pub end : Term
  pub begins : Continues code out
      (Salloc act.size ∷ store levels_cell (value.Int (pos MAX_CALL_DEPTH)) ∷ makes) end
  pub made : Makes code act [] p.tables.items makes instrs
  pub statements : Codes code act outermost [] p.main.items instrs end [] Halt

-- whether no point of promotion can be reached in a call
abbrev pub quiet_calls : Program → Bool
quiet_calls p = functions_are_quiet p.funcs.items

-- how many blocks main has, with those of the sizes of the tables
abbrev pub added_by_main : Program → ℕ
added_by_main p =
    added_by_decls p.tables.items + added_by_list (quiet_calls p) p.main.items + 1

-- the label of the block to which each beat goes, behind those of main and of the functions
abbrev pub dispatch_of : Program → ℕ
dispatch_of p = added_by_main p + added_by_funcs (quiet_calls p) p.funcs.items

-- how many blocks a program has
abbrev pub added_by_program : Program → ℕ
added_by_program p = dispatch_of p + 1

-- the code of main, with that of the tables, was written, and its last block closed
abbrev pub LowersMain : Body → Program → Output → Output → Type 0
LowersMain on p old new =
    (code : Listing)
    → AllFit (map table_name p.tables.items) (entries on.callees.items) on.most outermost []
    p.main.items
    → Stands code new
    → IsMainAt code (activation on (map table_name p.tables.items)) p old
