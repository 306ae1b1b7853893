-- Which declaration a name stands for, and what a loop does with it.
use Rattle.std.specs.Prelude.{ℕ, Bool, false, cond, ◌||◌, List, [], ◌∷◌, Option, Some, None}
use Rattle.std.specs.Prelude.{bytes_eq, map}
use Rattle.loop_syntax.specs.declared.Name.{Name}
use Rattle.loop_syntax.specs.declared.Carry.{Carry}
use Rattle.loop_syntax.specs.declared.Func.{Func}
pub use Rattle.loop_syntax.specs.Naming.{func_of, operator_of, table_name}

-- whether a name is among these
abbrev pub is_in : List (List ℕ) → List ℕ → Bool
is_in [] name = false
is_in (first ∷ rest) name = bytes_eq first name || is_in rest name

-- the texts of names
abbrev pub texts : List Name → List (List ℕ)
texts names = map (λ name. name.text.items) names

-- the names of functions
abbrev pub func_names : List Func → List (List ℕ)
func_names funcs = map (λ func. func.name.text.items) funcs

-- where a name stands first
abbrev pub first_named : List Name → List ℕ → Option Name
first_named [] name = None
first_named (first ∷ rest) name =
    cond (bytes_eq first.text.items name) (Some first) (first_named rest name)

-- the item of a carry list for that table, the first where it names the table twice
abbrev pub item_of : List Carry → List ℕ → Option Carry
item_of [] table = None
item_of (item ∷ items) table =
    cond (bytes_eq (table_name item).text.items table) (Some item) (item_of items table)
