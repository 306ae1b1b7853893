-- The run of a whole program over given tables.
use Rattle.std.specs.Prelude.{ℕ, suc, ◌+◌, ◌*◌, Bool, true, false, ◌||◌, ℤ, pos, int_lt}
use Rattle.std.specs.Prelude.{unsigned_abs, List, [], ◌∷◌, ◌++◌, nat_lt, replicate}
use Rattle.tp_value.specs.declared.limits.TheConstants.{MAX_SIDE, MAX_TABLE_CELLS}
use Rattle.tp_value.specs.declared.Place.{Place}
use Rattle.tp_value.specs.declared.TrapKind.TheVariants.{Size}
use Rattle.tp_value.specs.declared.Table.{Table}
use Rattle.tp_value.specs.declared.Outcome.{Outcome}
use Rattle.loop_syntax.specs.declared.Name.{Name}
use Rattle.loop_syntax.specs.declared.TableDecl.{TableDecl}
use Rattle.loop_syntax.specs.declared.TableDecl.TheVariants.{Input, Made}
use Rattle.loop_syntax.specs.declared.Program.{Program}
use Rattle.loop_meaning.specs.State.{table_of, State, Note, Reads, Writes, Emits, Chance, Ran, done}
use Rattle.loop_meaning.specs.State.{trapped, after}
use Rattle.loop_meaning.specs.Statements.{given_two, run_list}
use Rattle.loop_meaning.specs.Calls.{setting}

-- ---- tables

abbrev pub cell_count : Table → ℕ
cell_count t = t.rows * t.cols

-- the cells of all declared inputs
abbrev pub input_cells : List TableDecl → List Table → ℕ
input_cells [] ts = 0
input_cells (Input x ∷ ds) ts = cell_count (table_of ts x.text.items) + input_cells ds ts
input_cells (Made x a b ∷ ds) ts = input_cells ds ts

abbrev pub is_bad_size : ℤ → Bool
is_bad_size n = int_lt n (pos 0) || int_lt (pos MAX_SIDE) n

-- whether a size is out of its range, or its cells with those counted before are too many
abbrev pub is_too_large : ℕ → ℤ → ℤ → Bool
is_too_large cells m n =
    is_bad_size m || is_bad_size n || nat_lt MAX_TABLE_CELLS
    (cells + unsigned_abs m * unsigned_abs n)

abbrev pub zero_table : Name → ℤ → ℤ → Table
zero_table x m n = record {
  name = x.text.items;
  rows = unsigned_abs m;
  cols = unsigned_abs n;
  cells = replicate (unsigned_abs m * unsigned_abs n) (pos 0);
}

abbrev pub add_table : Table → State → State
add_table t s = record s { tables = s.tables ++ t ∷ [] }

-- goes on unless the table is too large
abbrev pub unless_large : Bool → Place → (State → Ran) → State → Ran
unless_large true p go s = trapped Size p s
unless_large false p go s = go s

-- the tables in order of declaration, over the given ones; `cells` counts the inputs and what was
-- made before
abbrev pub make_tables : List Table → ℕ → List TableDecl → State → Ran
make_tables ts cells [] s = done s
make_tables ts cells (Input x ∷ ds) s =
    make_tables ts cells ds (add_table (table_of ts x.text.items) s)
make_tables ts cells (Made x a b ∷ ds) s =
    given_two a b s (λ m n. unless_large (is_too_large cells m n) x.place
    (λ t. make_tables ts (cells + unsigned_abs m * unsigned_abs n) ds
    (add_table (zero_table x m n) t)) s)

-- ---- the whole run

abbrev pub first_state : State
first_state = record { vars = []; tables = []; output = []; ticks = 0 }

-- makes the tables and runs main at depth 0
unfoldable pub whole_run : Program → List Table → ℕ → Ran
whole_run p ts fuel =
    after (make_tables ts (input_cells p.tables.items ts) p.tables.items first_state)
    (run_list (setting p fuel 0 []) p.main.items)

abbrev pub outcome_of : Ran → Outcome
outcome_of r = record { stop = r.stop; output = r.state.output; ticks = r.state.ticks }

-- the serial meaning of a program over given tables, with that much fuel
unfoldable pub meaning : Program → List Table → ℕ → Outcome
unfolding whole_run
meaning p ts fuel = outcome_of (whole_run p ts fuel)

-- ---- chances

abbrev pub count_chances : List Note → ℕ
count_chances [] = 0
count_chances (Reads t i j ∷ ns) = count_chances ns
count_chances (Writes t i j ∷ ns) = count_chances ns
count_chances (Emits t ∷ ns) = count_chances ns
count_chances (Chance ∷ ns) = suc (count_chances ns)

-- how often that run could split off a task
unfoldable pub chances : Program → List Table → ℕ → ℕ
unfolding whole_run
chances p ts fuel = count_chances (whole_run p ts fuel).notes
