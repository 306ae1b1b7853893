-- Where the words of an activation stand: offsets from the position in the base register.
use Rattle.std.specs.Prelude.{ℕ, ◌+◌, ◌*◌, Bool, cond, bytes_eq, List, [], ◌∷◌, Option, None}
use Rattle.std.specs.Prelude.{Some}
use Rattle.tp_value.specs.declared.limits.TheConstants.{MAX_PAR_NESTING}

-- the label to return to
abbrev pub return_cell : ℕ
return_cell = 0

-- cell 1 has the record of the side's end, or nothing

-- how many levels of calls are left
abbrev pub levels_cell : ℕ
levels_cell = 2

-- the first of the cells of `par` loops: behind the label to return to, the record and the levels
abbrev pub loops_cell : ℕ
loops_cell = 3

-- the cursor of the `par` loop that stands inside so many others of its function: its next
-- iteration that isn't begun
abbrev pub cursor_cell : ℕ → ℕ
cursor_cell depth = loops_cell + 2 * depth

-- the record of the side's end in that loop, or nothing
abbrev pub rec_cell : ℕ → ℕ
rec_cell depth = loops_cell + 1 + 2 * depth

-- the value of the variable before which so many are visible; in front of the first one stand the
-- cells of as many loops as there may be inside one another
abbrev pub value_cell : ℕ → ℕ
value_cell level = cursor_cell MAX_PAR_NESTING + 2 * level

-- the bound of the loop over that variable
abbrev pub bound_cell : ℕ → ℕ
bound_cell level = rec_cell MAX_PAR_NESTING + 2 * level

-- a function in a code: its first block, its parameters, and how many cells its activation has
pub record Entry : Type 0 where
  pub name : List ℕ
  pub label : ℕ
  pub parameters : ℕ
  pub size : ℕ

-- the function of that name
abbrev pub entry_of : List Entry → List ℕ → Option Entry
entry_of [] x = None
entry_of (e ∷ es) x = cond (bytes_eq e.name x) (Some e) (entry_of es x)

-- What the code of main's statements, or of a function's, stands on: the names of the tables, the
-- functions, whether no point of promotion can be reached in a call, the block to which each beat
-- goes, and an activation with room for so many variables, of so many cells.
pub record Activation : Type 0 where
  pub tables : List (List ℕ)
  pub functions : List Entry
  pub calls : Bool
  pub dispatch : ℕ
  pub most : ℕ
  pub size : ℕ

-- a cell behind those of the variables, for a value that a statement keeps
abbrev pub kept_cell : Activation → ℕ → ℕ
kept_cell act i = value_cell act.most + i

-- what a `both` keeps: its mark, its record, and behind them the arguments of its second call
abbrev pub kept_mark : ℕ
kept_mark = 0

abbrev pub kept_record : ℕ
kept_record = 1

abbrev pub kept_argument : Activation → ℕ → ℕ
kept_argument act i = kept_cell act (2 + i)

-- how many values it keeps where that call has so many arguments
abbrev pub kept_by_both : ℕ → ℕ
kept_by_both many = 2 + many
