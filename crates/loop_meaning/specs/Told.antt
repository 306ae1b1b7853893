-- What the notes of a run tell of its tables, and what is before a run that it doesn't depend on.
use Rattle.std.specs.Prelude.{◌≡◌, ℕ, ◌+◌, ◌<◌, ◌≤◌, ℤ, List, [], ◌∷◌, ◌++◌, map, length, Contains}
use Rattle.std.specs.Prelude.{Option, Some, None, if◌then◌else◌}
use Rattle.tp_value.specs.declared.Stop.TheVariants.{Done, NoFuel}
use Rattle.tp_value.specs.declared.Table.{Table}
use Rattle.loop_meaning.specs.declared.value.Variable.{Variable}
use Rattle.loop_meaning.specs.State.{table_of, has_cell, cell_of, State, Note, Reads, Writes, Emits}
use Rattle.loop_meaning.specs.State.{Chance, Ran}
use Rattle.loop_meaning.specs.Statements.{Called}
use Rattle.loop_meaning.specs.Cells.{Cell, read_cells, write_cells}

-- ---- tables

-- what no run changes of a table
pub record Shape : Type 0 where
  pub name : List ℕ
  pub rows : ℕ
  pub cols : ℕ
  -- how many numbers there are for its cells
  pub count : ℕ

abbrev pub shape_of : Table → Shape
shape_of t = record { name = t.name; rows = t.rows; cols = t.cols; count = length t.cells }

abbrev pub shapes : List Table → List Shape
shapes ts = map shape_of ts

-- the number in a cell, where its table has that cell
abbrev pub number_in_cell : Table → ℤ → ℤ → Option ℤ
number_in_cell t i j = if has_cell t i j then Some (cell_of t i j) else None

abbrev pub number_at : List Table → Cell → Option ℤ
number_at ts c = number_in_cell (table_of ts c.table) c.row c.col

-- ---- other tables

-- the tables that were printed, in order
abbrev pub printed_tables : List Note → List (List ℕ)
printed_tables [] = []
printed_tables (Reads t i j ∷ ns) = printed_tables ns
printed_tables (Writes t i j ∷ ns) = printed_tables ns
printed_tables (Emits t ∷ ns) = t ∷ printed_tables ns
printed_tables (Chance ∷ ns) = printed_tables ns

-- tables of the same names and sizes, with the same numbers in the cells that were read, and of
-- which those that were printed are the same
pub record SeenAlike (ns : List Note) (ts us : List Table) : Type 0 where
  pub sizes : shapes ts ≡ shapes us
  pub cells : (c : Cell) → Contains (read_cells ns) c → number_at ts c ≡ number_at us c
  pub tables : (x : List ℕ) → Contains (printed_tables ns) x → table_of ts x ≡ table_of us x

-- the second run, over the tables us, is the first in all but its tables: there it leaves the
-- numbers that the first wrote, and in the cells that the first didn't write the numbers that stood
-- in us
pub record AlikeOver (us : List Table) (r q : Ran) : Type 0 where
  pub same : q ≡ record r { state = record r.state { tables = q.state.tables } }
  pub written : (c : Cell) → Contains (write_cells r.notes) c
      → number_at q.state.tables c ≡ number_at r.state.tables c
  pub kept : (c : Cell) → ¬ (Contains (write_cells r.notes) c)
      → number_at q.state.tables c ≡ number_at us c

-- the notes tell all that a run does to tables, and all that it sees of them
pub record NotesTell (f : State → Ran) : Type 0 where
  -- no name and no size of a table changes
  pub sizes : (s : State) → shapes (f s).state.tables ≡ shapes s.tables
  -- a cell of which no write is noted keeps its number
  pub kept : (s : State) (c : Cell) → ¬ (Contains (write_cells (f s).notes) c)
      → number_at (f s).state.tables c ≡ number_at s.tables c
  -- cells of which neither a read nor an emit is noted play no part
  pub unseen : (s : State) (ts : List Table) → SeenAlike (f s).notes s.tables ts
      → AlikeOver ts (f s) (f (record s { tables = ts }))

-- the same of a call, and of its value where it is done
pub record CallNotesTell (c : State → Called) : Type 0 where
  pub ran : NotesTell (λ s. (c s).ran)
  pub value : (s : State) (ts : List Table) → SeenAlike (c s).ran.notes s.tables ts
      → (c s).ran.stop ≡ Done → (c (record s { tables = ts })).value ≡ (c s).value

-- ---- more ticks and output before a run

-- with so many ticks more, and that output before its own
abbrev pub moved : ℕ → List ℕ → State → State
moved t o s = record s { output = o ++ s.output; ticks = s.ticks + t }

abbrev pub moved_ran : ℕ → List ℕ → Ran → Ran
moved_ran t o r = record r { state = moved t o r.state }

-- a run that stopped at the first tick beyond the fuel
pub record Spent (fuel : ℕ) (r : Ran) : Type 0 where
  pub stop : r.stop ≡ NoFuel
  pub ticks : r.state.ticks ≡ fuel + 1

-- what t more ticks and the output o do before a run, if they leave it within the fuel
pub record Moves (fuel : ℕ) (f : State → Ran) : Type 0 where
  -- they move its own, where the fuel suffices to its end
  pub suffices : (t : ℕ) (o : List ℕ) (s : State) → s.ticks + t ≤ fuel
      → (f s).state.ticks + t ≤ fuel → f (moved t o s) ≡ moved_ran t o (f s)
  -- else it stops for want of fuel
  pub spent : (t : ℕ) (o : List ℕ) (s : State) → s.ticks + t ≤ fuel
      → fuel < (f s).state.ticks + t → Spent fuel (f (moved t o s))

-- the same of a call, and of its value where it is done
pub record CallMoves (fuel : ℕ) (c : State → Called) : Type 0 where
  pub ran : Moves fuel (λ s. (c s).ran)
  pub value : (t : ℕ) (o : List ℕ) (s : State) → s.ticks + t ≤ fuel
      → (c s).ran.state.ticks + t ≤ fuel → (c s).ran.stop ≡ Done
      → (c (moved t o s)).value ≡ (c s).value

-- ---- the caller's variables

-- a call that leaves these variables
abbrev pub leaving : List Variable → Called → Called
leaving vs c = record c { ran = record c.ran { state = record c.ran.state { vars = vs } } }
