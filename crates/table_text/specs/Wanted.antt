-- What comes next in a tables text, and which token doesn't fit there.
use Rattle.std.specs.Prelude.{◌≡◌, ℕ, ◌+◌, ◌*◌, Bool, ◌&&◌, if◌then◌else◌, nat_le, List, Option}
use Rattle.std.specs.Prelude.{Some, None, codes}
use Rattle.std.specs.List.{list_any}
use Rattle.std.specs.Prelude.{bytes_eq, sum_by}
use Rattle.tp_value.specs.declared.values.Table.{Table}
use Rattle.tp_value.specs.declared.limits.TheConstants.{MAX_SIDE, MAX_TABLE_CELLS}
use Rattle.table_text.specs.declared.fault.TableFault.{TableFault}
use Rattle.table_text.specs.declared.fault.TableFault.TheVariants.{Form, Cells, Repeated}
use Rattle.table_text.specs.Token.{Token, is_word, is_run, run_value, is_number}

-- what comes next, where `before` are the whole tables so far: the word `table` or the end of the
-- text; a name; the number of rows; the number of columns, behind that many rows; a number of a
-- cell
pub data Wanted : Type 0 where
  ATable : List Table → Wanted
  AName : List Table → Wanted
  RowCount : Wanted
  ColCount : List Table → ℕ → Wanted
  ANumber : Wanted

-- whether one of the tables has that name
abbrev pub is_known : List Table → List ℕ → Bool
is_known before name = list_any (λ table. bytes_eq table.name name) before

-- the cells of all tables together
abbrev pub cells_of : List Table → ℕ
cells_of before = sum_by (λ table. table.rows * table.cols) before

-- a name that must be no known one
abbrev pub name_misfit : Bool → Token → Option TableFault
name_misfit known token =
    if is_word token.bytes then (if known then Some (Repeated token.at) else None)
    else Some (Form token.at)

-- a number of rows or columns, each column of that many cells, where `cells` are there already
abbrev pub size_misfit : ℕ → ℕ → Token → Option TableFault
size_misfit cells each token =
    if is_run token.bytes
    then (if nat_le (run_value token.bytes) MAX_SIDE
    && nat_le (cells + each * run_value token.bytes) MAX_TABLE_CELLS
    then None else Some (Cells token.at))
    else Some (Form token.at)

-- the fault of a token that doesn't fit there
abbrev pub misfit : Wanted → Token → Option TableFault
misfit (ATable before) token =
    if bytes_eq token.bytes (codes "table") then None else Some (Form token.at)
misfit (AName before) token = name_misfit (is_known before token.bytes) token
misfit RowCount token = size_misfit 0 0 token
misfit (ColCount before rows) token = size_misfit (cells_of before) rows token
misfit ANumber token = if is_number token.bytes then None else Some (Form token.at)

-- the token fits there
abbrev pub Fits : Wanted → Token → Type 0
Fits wanted token = misfit wanted token ≡ None
