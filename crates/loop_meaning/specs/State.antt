-- What a run works on, how it ends, and what it notes on the way.
use Rattle.std.specs.Prelude.{ℕ, zero, suc, ◌+◌, ◌*◌, Bool, false, cond, ◌&&◌, ℤ, pos, negsuc}
use Rattle.std.specs.Prelude.{unsigned_abs, List, [], ◌∷◌, ◌++◌, take, drop, nat_lt, slice_index_or}
use Rattle.std.specs.Prelude.{slice_set, bytes_eq, if◌then◌else◌}
use Rattle.std.specs.Fmt.{signed_decimal}
use Rattle.tp_value.specs.declared.Place.{Place}
use Rattle.tp_value.specs.declared.TrapKind.{TrapKind}
use Rattle.tp_value.specs.declared.Stop.{Stop}
use Rattle.tp_value.specs.declared.Stop.TheVariants.{Done, Left, Trap, NoFuel}
use Rattle.tp_value.specs.declared.Table.{Table}
use Rattle.loop_meaning.specs.declared.value.Variable.{Variable}
use Rattle.beat_count.specs.Ticks.{is_tick_allowed, ticked}
use Rattle.table_text.specs.RowText.{row_text}

-- ---- variables

-- the value of the variable of that name, or 0 where there is none
abbrev pub lookup : List Variable → List ℕ → ℤ
lookup [] x = pos 0
lookup (v ∷ vs) x = cond (bytes_eq v.name x) v.value (lookup vs x)

-- the variables with a new value for that one
abbrev pub assign : List Variable → List ℕ → ℤ → List Variable
assign [] x n = []
assign (v ∷ vs) x n =
    cond (bytes_eq v.name x) (record { name = v.name; value = n } ∷ vs) (v ∷ assign vs x n)

-- the variables with one more
abbrev pub declare : List Variable → List ℕ → ℤ → List Variable
declare vs x n = vs ++ record { name = x; value = n } ∷ []

-- ---- tables

abbrev pub no_table : Table
no_table = record { name = []; rows = 0; cols = 0; cells = [] }

-- the table of that name, or an empty one
abbrev pub table_of : List Table → List ℕ → Table
table_of [] x = no_table
table_of (t ∷ ts) x = cond (bytes_eq t.name x) t (table_of ts x)

abbrev pub is_below : ℤ → ℕ → Bool
is_below (pos i) n = nat_lt i n
is_below (negsuc i) n = false

-- whether a table has a cell at row i, column j
abbrev pub has_cell : Table → ℤ → ℤ → Bool
has_cell t i j = is_below i t.rows && is_below j t.cols

abbrev pub cell_number : Table → ℤ → ℤ → ℕ
cell_number t i j = unsigned_abs i * t.cols + unsigned_abs j

abbrev pub cell_of : Table → ℤ → ℤ → ℤ
cell_of t i j = slice_index_or t.cells (cell_number t i j) (pos 0)

abbrev pub with_cell : Table → ℤ → ℤ → ℤ → Table
with_cell t i j v = record t { cells = slice_set t.cells (cell_number t i j) v }

-- the tables with a new number in that cell
abbrev pub write_cell : List Table → List ℕ → ℤ → ℤ → ℤ → List Table
write_cell [] x i j v = []
write_cell (t ∷ ts) x i j v =
    cond (bytes_eq t.name x) (with_cell t i j v ∷ ts) (t ∷ write_cell ts x i j v)

-- one line for each of the rows
abbrev pub row_lines : ℕ → ℕ → List ℤ → List ℕ
row_lines zero cols cells = []
row_lines (suc n) cols cells = row_text (take cols cells) ++ row_lines n cols (drop cols cells)

-- ---- a state

-- the visible variables in the order of their declarations, the tables in theirs, the output and
-- the ticks so far
pub record State : Type 0 where
  pub vars : List Variable
  pub tables : List Table
  pub output : List ℕ
  pub ticks : ℕ

-- a number and a line end
abbrev pub print_line : ℤ → State → State
print_line n s = record s { output = s.output ++ (signed_decimal n ++ 10 ∷ []) }

-- the lines of a table
abbrev pub print_table : Table → State → State
print_table t s = record s { output = s.output ++ row_lines t.rows t.cols t.cells }

-- ---- the end of a run

-- what a run notes: a cell that an expression reads or that is written, a table that is printed
-- whole, and a chance to split off a task: an iteration begun that isn't the first of its `par`, or
-- the first call of a `both` begun
pub data Note : Type 0 where
  Reads : List ℕ → ℤ → ℤ → Note
  Writes : List ℕ → ℤ → ℤ → Note
  Emits : List ℕ → Note
  Chance : Note

-- how a run ends, the state then, and its notes in order
pub record Ran : Type 0 where
  pub stop : Stop
  pub state : State
  pub notes : List Note

abbrev pub done : State → Ran
done s = record { stop = Done; state = s; notes = [] }

abbrev pub trapped : TrapKind → Place → State → Ran
trapped k p s = record { stop = Trap k p; state = s; notes = [] }

abbrev pub out_of_fuel : State → Ran
out_of_fuel s = record { stop = NoFuel; state = s; notes = [] }

-- an iteration that is left with a number
abbrev pub left_with : ℤ → State → Ran
left_with n s = record { stop = Left n; state = s; notes = [] }

-- with notes made before
abbrev pub noted : List Note → Ran → Ran
noted ns r = record { stop = r.stop; state = r.state; notes = ns ++ r.notes }

-- goes on where the run is done
abbrev pub go_on : Stop → Ran → (State → Ran) → Ran
go_on Done r go = noted r.notes (go r.state)
go_on (Left n) r go = r
go_on (Trap k p) r go = r
go_on NoFuel r go = r

abbrev pub after : Ran → (State → Ran) → Ran
after r go = go_on r.stop r go

-- counts a tick, and stops where it exceeds the fuel
abbrev pub tick : ℕ → State → Ran
tick fuel s =
    let t : State = record s { ticks = ticked fuel s.ticks } in
    if is_tick_allowed fuel s.ticks then done t else out_of_fuel t

-- the end of a block, where only the first n variables are still visible
abbrev pub leave_block : ℕ → Ran → Ran
leave_block n r = record r { state = record r.state { vars = take n r.state.vars } }
