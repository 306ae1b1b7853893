-- The parts of a fork.
use Rattle.std.specs.Prelude.{ℕ, zero, suc, pos, ◌+◌, Bool, true, ◌&&◌, ◌==◌, is_some}
use Rattle.std.specs.Prelude.{if◌then◌else◌, List, [], ◌∷◌, Option, None, Some, Result, Ok, Err}
use Rattle.std.specs.Prelude.{slice_set}
use Rattle.beat_count.specs.BeatState.{BeatState}
use Rattle.beat_count.specs.Heartbeat.{no_beat, taken}
use Rattle.slices.specs.Holding.{Holding, cell_at, rows_below, rows_from, without_row, row_below}
use Rattle.slices.specs.Holding.{row_from, shared}
use Rattle.std.specs.FinMap.{empty}
use Rattle.stack_marks.specs.Stacks as stacks
use Rattle.stack_marks.specs.Stacks.{StackValue}
use Rattle.stack_marks.specs.declared.mark.Mark.{Mark}
use Rattle.tpal_syntax.specs.declared.notes.CarryAt.{CarryAt}
use Rattle.tpal_syntax.specs.declared.notes.CarryAt.TheVariants as carry
use Rattle.tpal_syntax.specs.declared.notes.Target.{Target}
use Rattle.tpal_syntax.specs.declared.words.Word.{Word}
use Rattle.tpal_syntax.specs.declared.words.Word.TheVariants as word
use Rattle.tpal_syntax.specs.Listing.{Listing}
use Rattle.tpal_machine.specs.declared.cut.TableCut.{TableCut}
use Rattle.tpal_machine.specs.declared.cut.TableCut.TheVariants.{ByRows, ByCells, Whole}
use Rattle.tpal_machine.specs.declared.ends.Goal.TheVariants as goal
use Rattle.tpal_machine.specs.declared.ends.SideName.TheVariants.{Left, Right}
use Rattle.tpal_machine.specs.declared.ends.Tie.{Tie}
use Rattle.tpal_machine.specs.declared.faults.Fault.{Fault}
use Rattle.tpal_machine.specs.declared.faults.Fault.TheVariants as fault
use Rattle.tpal_machine.specs.Calculation.{on_number}
use Rattle.tpal_machine.specs.Effect.{on_oldest, oldest, holds_cells}
use Rattle.tpal_machine.specs.Reading.{register, the_target}
use Rattle.tpal_machine.specs.RestState.{RestState}
use Rattle.tpal_machine.specs.State.{State}

-- ---- tables

-- a table's number and where it is cut
abbrev pub carried_at : List Word → CarryAt → Result (ℕ × TableCut) Fault
carried_at words (carry.Rows table at) = on_number (register words at) (λ i. Ok (table, ByRows i))
carried_at words (carry.Cells table row at) =
    on_number (register words row)
    (λ i. on_number (register words at) (λ j. Ok (table, ByCells i j)))

abbrev pub with_cut : Result (ℕ × TableCut) Fault
    → Result (List (ℕ × TableCut)) Fault
    → Result (List (ℕ × TableCut)) Fault
with_cut (Ok cut) (Ok cuts) = Ok (cut ∷ cuts)
with_cut (Ok cut) (Err f) = Err f
with_cut (Err f) cuts = Err f

-- the tables that are cut, where each register that a carry names holds a number
abbrev pub carried : List Word → List CarryAt → Result (List (ℕ × TableCut)) Fault
carried words [] = Ok []
carried words (c ∷ cs) = with_cut (carried_at words c) (carried words cs)

-- where the table of that number is cut
abbrev pub cut_of : List (ℕ × TableCut) → ℕ → TableCut
cut_of [] t = Whole
cut_of (c ∷ cs) t = if c.0 == t then c.1 else cut_of cs t

-- whether so many cells of a row, from a column on, are all held
unfoldable pub is_row_held : Holding → ℕ → ℕ → ℕ → Bool
is_row_held h row col zero = true
is_row_held h row col (suc n) =
    is_some (cell_at h (pos row) (pos col)) && is_row_held h row (col + 1) n

-- whether so many rows from one on are all held
unfoldable pub are_rows_held : Holding → ℕ → ℕ → Bool
are_rows_held h row zero = true
are_rows_held h row (suc n) = is_row_held h row 0 h.cols && are_rows_held h (row + 1) n

-- whether every cell is held
abbrev pub is_whole : Holding → Bool
is_whole h = are_rows_held h 0 h.rows

-- nothing of a table
abbrev pub nothing_of : Holding → Holding
nothing_of h = record { rows = h.rows; cols = h.cols; cells = empty; owned = true }

-- what the rest keeps of a table
abbrev pub rest_of : TableCut → Holding → Holding
rest_of (ByRows at) h = nothing_of h
rest_of (ByCells row at) h = without_row h row
rest_of Whole h = if is_whole h then shared h else h

-- what the left gets
abbrev pub left_of : TableCut → Holding → Holding
left_of (ByRows at) h = rows_below h at
left_of (ByCells row at) h = row_below h row at
left_of Whole h = if is_whole h then shared h else nothing_of h

-- what the child gets
abbrev pub child_of : TableCut → Holding → Holding
child_of (ByRows at) h = rows_from h at
child_of (ByCells row at) h = row_from h row at
child_of Whole h = if is_whole h then shared h else nothing_of h

-- a part of each table from a number on
abbrev pub each_part : (TableCut → Holding → Holding) → List (ℕ × TableCut) → ℕ → List Holding
    → List Holding
each_part part cuts t [] = []
each_part part cuts t (h ∷ hs) = part (cut_of cuts t) h ∷ each_part part cuts (t + 1) hs

-- ---- the parts

-- the parts of a fork under a record: the task that goes on, the rest and the new task
pub record Forked : Type 0 where
  pub rec : ℕ
  pub left : State
  pub rest : RestState
  pub child : State

-- the parts of a task by the parts of its stack, a base, its record and the cuts of its tables
abbrev pub parted : StackValue → StackValue → StackValue → ℕ → Tie → ℕ → List (ℕ × TableCut) → State
    → Forked
parted left_stack rest_stack child_stack child tie base cuts state = record {
  rec = tie.rec;
  left = record state {
    stack = left_stack;
    tables = each_part left_of cuts 0 state.tables;
    beat = taken state.beat;
    output = [];
    goal = goal.At tie.rec Left tie.target;
    pending = None;
    met = None;
  };
  rest = record {
    stack = rest_stack;
    tables = each_part rest_of cuts 0 state.tables;
    output = state.output;
    goal = state.goal;
    base = base;
    rec = tie.rec;
    target = tie.target;
    limit = state.fuel.limit;
    made = state.made;
  };
  child = record {
    registers = slice_set state.registers 31 (word.Int (pos base));
    stack = child_stack;
    tables = each_part child_of cuts 0 state.tables;
    made = state.made;
    fuel = record { limit = state.fuel.limit; ticks = 0 };
    beat = no_beat;
    output = [];
    goal = goal.At tie.rec Right tie.target;
    block = child;
    at = 0;
    pending = None;
    met = None;
    waiting = None;
  };
}

-- the parts of a task by its oldest mark
abbrev pub parts : Target → ℕ → Tie → Mark → List (ℕ × TableCut) → State → Forked
parts target child tie mark cuts state =
    parted (stacks.left_of state.stack mark.base mark.cells target.kind)
    (stacks.rest_of state.stack mark.base mark.cells)
    (stacks.child_of state.stack mark.base mark.cells)
    child tie mark.base cuts state

-- goes on with the record that a word is
abbrev pub on_record : {A : Type 0} → Word → (ℕ → Result A Fault) → Result A Fault
on_record (word.Int n) go = Err fault.NotRec
on_record (word.Label l) go = Err fault.NotRec
on_record (word.Rec k) go = go k
on_record word.Nil go = Err fault.NotRec

-- goes on with the pending record, where it is the one of that number
abbrev pub on_pending : {A : Type 0} → Option Tie → ℕ → (Tie → Result A Fault) → Result A Fault
on_pending None k go = Err fault.WrongRecord
on_pending (Some tie) k go = if tie.rec == k then go tie else Err fault.WrongRecord

-- goes on where a beat has granted a fork
abbrev pub on_grant : {A : Type 0} → BeatState → Result A Fault → Result A Fault
on_grant beat go = if beat.granted then go else Err fault.NoBeat

-- goes on where the oldest mark's cells are all on the stack
abbrev pub on_work : {A : Type 0} → StackValue → Mark → Result A Fault → Result A Fault
on_work stack mark go = if holds_cells stack mark.base mark.cells then go else Err fault.OutOfRange

abbrev pub on_cuts : {A B : Type 0} → Result A Fault → (A → Result B Fault) → Result B Fault
on_cuts (Ok cuts) go = go cuts
on_cuts (Err f) go = Err f

-- the fork of a task by a mark, under a record that is its own
abbrev pub forked_at : Listing → ℕ → Tie → Mark → State → Result Forked Fault
forked_at code child tie mark state =
    on_work state.stack mark (
    on_cuts (carried state.registers (the_target code tie.target).carries) (λ cuts.
    Ok (parts (the_target code tie.target) child tie mark cuts state)))

-- the fork of a task under a record that is its own
abbrev pub fork_under : Listing → ℕ → Tie → State → Result Forked Fault
fork_under code child tie state =
    on_grant state.beat (
    on_oldest (oldest state.stack) (λ mark.
    forked_at code child tie mark state))

-- `fork rA, @l`
abbrev pub fork : Listing → ℕ → ℕ → State → Result Forked Fault
fork code r child state =
    on_record (register state.registers r) (λ k.
    on_pending state.pending k (λ tie.
    fork_under code child tie state))
