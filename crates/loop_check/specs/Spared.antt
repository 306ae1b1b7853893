-- What the iterations of a `par`, and calls, leave alone.
use Rattle.std.specs.Prelude.{◌≡◌, true, ℕ, ℤ, List, [], ◌++◌, Contains}
use Rattle.tp_value.specs.declared.Place.{Place}
use Rattle.loop_syntax.specs.declared.Program.{Program}
use Rattle.loop_rules.specs.Carries.{carries}
use Rattle.loop_rules.specs.Reading.{ReadsTable}
use Rattle.loop_rules.specs.Reductions.{any_loop}
use Rattle.loop_meaning.specs.Calls.{setting}
use Rattle.loop_meaning.specs.Cells.{Cell, read_cells, write_cells, Body, bodies_of, run_of}
use Rattle.loop_meaning.specs.State.{State, Emits, Ran}

-- what an iteration of a `par` leaves alone, which begins in that state and runs so
pub record Spares (body : Body) (state : State) (ran : Ran) : Type 0 where
  -- of the tables that `par` loops round this one carry it touches only those that this one carries
  -- too
  pub tables : (cell : Cell) → Contains (read_cells ran.notes ++ write_cells ran.notes) cell
      → any_loop (carries cell.table) body.rounds ≡ true → carries cell.table body.loop ≡ true
  -- it prints no number, and no table
  pub output : ran.state.output ≡ state.output
  pub emits : (table : List ℕ) → ¬ (Contains ran.notes (Emits table))

-- what a call of the function f leaves alone
pub record CallSpares (program : Program) (func : List ℕ) (state : State) (ran : Ran) : Type 0 where
  -- it writes no cell, and prints nothing
  pub tables : ran.state.tables ≡ state.tables
  pub writes : (cell : Cell) → ¬ (Contains (write_cells ran.notes) cell)
  pub output : ran.state.output ≡ state.output
  pub emits : (table : List ℕ) → ¬ (Contains ran.notes (Emits table))
  -- each cell that it reads is of a table that the function reads, itself or through calls
  pub reads : (cell : Cell) → Contains (read_cells ran.notes) cell
      → ReadsTable program func cell.table

-- the run of a call
abbrev pub call_of : Program → ℕ → ℕ → List ℕ → Place → List ℤ → State → Ran
call_of program fuel depth func place arguments state =
    ((setting program fuel depth []).call func place arguments [] state).ran

-- each iteration of a `par` of the program, and each call, leaves that alone, from whatever state
pub record Spared (program : Program) : Type 0 where
  pub each : (body : Body) → Contains (bodies_of program) body
      → (fuel depth : ℕ) (state : State) (i : ℤ)
      → Spares body state (run_of program fuel depth body i state)
  pub calls : (func : List ℕ) (fuel depth : ℕ) (place : Place) (arguments : List ℤ) (state : State)
      → CallSpares program func state (call_of program fuel depth func place arguments state)
