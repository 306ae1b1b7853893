-- Which code is the code of a function, and of the declarations of tables.
use Rattle.std.specs.Prelude.{◌≡◌, ℕ, ◌≤◌, List, [], ◌∷◌, ◌++◌, length, Some}
use Rattle.loop_syntax.specs.declared.Func.{Func}
use Rattle.loop_syntax.specs.declared.Name.{Name}
use Rattle.loop_syntax.specs.declared.Expr.{Expr}
use Rattle.loop_syntax.specs.declared.TableDecl.{TableDecl}
use Rattle.loop_syntax.specs.declared.TableDecl.TheVariants.{Input, Made}
use Rattle.loop_rules.specs.Names.{texts, func_of}
use Rattle.tp_value.specs.declared.limits.TheConstants.{MAX_DECLARED_VARIABLES}
use Rattle.tp_value.specs.declared.limits.TheConstants.{MAX_ACTIVATION_CELLS}
use Rattle.tpal_syntax.specs.declared.instructions.Instr.{Instr}
use Rattle.tpal_syntax.specs.declared.instructions.Instr.TheVariants as instr
use Rattle.tpal_syntax.specs.declared.instructions.Term.{Term}
use Rattle.tpal_syntax.specs.declared.instructions.Term.TheVariants as term
use Rattle.tpal_syntax.specs.declared.instructions.Value.TheVariants as value
use Rattle.tpal_syntax.specs.Listing.{Listing}
use Rattle.scene_laws.specs.Code.{Opens, Computes, Codes, store, load}
use Rattle.scene_laws.specs.Layout.{return_cell, value_cell, kept_cell, Entry}
use Rattle.scene_laws.specs.Layout.{entry_of, Activation}
use Rattle.scene_laws.specs.Names.{names_after_list}
use Rattle.scene_laws.specs.Round.{outermost}

-- the variables of an activation, and all that a statement keeps, have room in it
pub record HasRoom (act : Activation) : Type 0 where
  pub few : act.most ≤ MAX_DECLARED_VARIABLES
  pub room : value_cell act.most ≤ act.size
  pub fits : act.size ≤ MAX_ACTIVATION_CELLS

-- ---- tables

abbrev pub table_name : TableDecl → List ℕ
table_name (Input x) = x.text.items
table_name (Made x a b) = x.text.items

-- The code of declarations, where these tables are declared before: an input is there, another one
-- is made.
pub data Makes (code : Listing) (act : Activation) : List (List ℕ) → List TableDecl → List Instr
    → List Instr → Type 0 where
  no_table : {seen : List (List ℕ)} {instrs : List Instr} → Makes code act seen [] instrs instrs
  input_table : {seen : List (List ℕ)} {x : Name} {ds : List TableDecl} {instrs more : List Instr}
      → Makes code act (seen ++ x.text.items ∷ []) ds instrs more
      → Makes code act seen (Input x ∷ ds) instrs more
  made_table : {seen : List (List ℕ)} {x : Name} {a b : Expr} {ds : List TableDecl}
      {instrs second third more : List Instr}
      → Computes code (record act { tables = seen }) [] [] a 0 instrs second
      → Computes code (record act { tables = seen }) [] [] b 1 second
      (instr.Make (length seen) 0 1 x.place ∷ third)
      → Makes code act (seen ++ x.text.items ∷ []) ds third more
      → Makes code act seen (Made x a b ∷ ds) instrs more
  made_kept_table : {seen : List (List ℕ)} {x : Name} {a b : Expr} {ds : List TableDecl}
      {instrs second third more : List Instr}
      → kept_cell act 1 ≤ act.size
      → Computes code (record act { tables = seen }) [] [] a 0 instrs
      (store (kept_cell act 0) (value.Reg 0) ∷ second)
      → Computes code (record act { tables = seen }) [] [] b 0 second
      (load 1 (kept_cell act 0) ∷ instr.Make (length seen) 1 0 x.place ∷ third)
      → Makes code act (seen ++ x.text.items ∷ []) ds third more
      → Makes code act seen (Made x a b ∷ ds) instrs more

-- ---- functions

-- The code of a function at its first block: its statements, then its result in register 0; then
-- the label to return to is entered. Its activation stays, and goes behind the call.
pub record IsFunction (code : Listing) (act : Activation) (f : Func) (label : ℕ) : Type 0 where
  pub has_room : HasRoom act
  pub params : length f.params.items ≤ act.most
  pub instrs : List Instr
  pub end : Term
  pub last : List Instr
  pub begins : Opens code label instrs end
  pub statements : Codes code act outermost (texts f.params.items) f.body.items instrs end last
      (term.Jump (value.Reg 1))
  pub value : Computes code act [] (names_after_list (texts f.params.items) f.body.items) f.result 0
      last (load 1 return_cell ∷ [])

-- what the activations of a program have in common
abbrev pub bare : Activation → Activation
bare act = record act { most = 0; size = 0 }

-- the function of a name in a program, with its code at its entry
pub record FunctionAt (code : Listing) (act : Activation) (fs : List Func) (x : List ℕ)
    (entry : Entry) : Type 0 where
  pub func : Func
  pub named : func_of fs x ≡ Some func
  pub arity : length func.params.items ≡ entry.parameters
  pub most : ℕ
  pub is : IsFunction code (record act { most = most; size = entry.size }) func entry.label

-- each entry is that of a function of the program
abbrev pub AreFunctions : Listing → Activation → List Func → Type 0
AreFunctions code act fs =
    (x : List ℕ) (entry : Entry)
    → entry_of act.functions x ≡ Some entry
    → FunctionAt code (bare act) fs x entry
