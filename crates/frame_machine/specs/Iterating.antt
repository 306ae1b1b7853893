-- The iterations of a `par`, in the middle of a run, and when they are cut.
use Rattle.std.specs.Prelude.{ℕ, ◌+◌, ◌≤◌, ℤ, pos, ◌+ℤ◌, List}
use Rattle.std.specs.List.{All}
use Rattle.tp_value.specs.declared.limits.TheConstants.{MAX_CALL_DEPTH}
use Rattle.tp_value.specs.declared.Table.{Table}
use Rattle.loop_syntax.specs.declared.ParLoop.{ParLoop}
use Rattle.loop_syntax.specs.declared.Program.{Program}
use Rattle.loop_syntax.specs.declared.Stmt.TheVariants.{Par}
use Rattle.loop_meaning.specs.declared.value.Variable.{Variable}
use Rattle.loop_meaning.specs.Calls.{call_at}
use Rattle.loop_meaning.specs.InRange.{FuncInRange, InRange, StateInRange, StmtInRange}
use Rattle.loop_meaning.specs.State.{Note, Ran, State, done}
use Rattle.loop_meaning.specs.Statements.{Setting, iterate, run_list}
use Rattle.frame_machine.specs.Modes.{Modes}
use Rattle.frame_machine.specs.Lawful.{modes_in}
use Rattle.frame_machine.specs.Parts.{Cells, AgreeOn, NotesKeep, Seen, Written, From, Below}
use Rattle.frame_machine.specs.Joins.{SameRound, Joins, upper_start}

-- how the body of that `par` runs where so many more calls may be open
abbrev pub body_setting : Program → ℕ → ℕ → ParLoop → Setting
body_setting p fuel room l =
    record { reduces = l.reduces.items; fuel = fuel; call = call_at p.funcs.items fuel room }

-- n iterations from number i on; the first notes `begin`, and each later one `again`
abbrev pub iterations_in : Program → ℕ → ℕ → ParLoop → List Note → List Note → ℕ → ℤ → State → Ran
iterations_in p fuel room l again begin n i s =
    iterate fuel l.var.text.items (run_list (body_setting p fuel room l) l.body.items) again begin n
    i s

-- numbers in the range of 64 bits: the literals of the functions and of the `par`, those of a
-- state, and the numbers of the iterations
pub record LoopInRange (p : Program) (l : ParLoop) (s : State) (first last : ℤ) : Type 0 where
  pub funcs : All FuncInRange p.funcs.items
  pub par : StmtInRange (Par l)
  pub state : StateInRange s
  pub begins : InRange first
  pub ends : InRange last

-- ---- the cells of each part

-- the cells that iterations numbered from c on may read, where the variables round the `par` have
-- these values, and those that they may write
abbrev pub UpperSeen : Modes → ParLoop → List Variable → ℤ → Cells
UpperSeen outer l vs c = Seen (From c) vs (modes_in outer l)

abbrev pub UpperWritten : Modes → ParLoop → List Variable → ℤ → Cells
UpperWritten outer l vs c = Written (From c) vs (modes_in outer l)

-- the same of iterations with numbers below c
abbrev pub LowerSeen : Modes → ParLoop → List Variable → ℤ → Cells
LowerSeen outer l vs c = Seen (Below c) vs (modes_in outer l)

abbrev pub LowerWritten : Modes → ParLoop → List Variable → ℤ → Cells
LowerWritten outer l vs c = Written (Below c) vs (modes_in outer l)

-- no cell
abbrev pub NoCell : Cells
NoCell t i j = ⊥

-- no note but of a chance
abbrev pub OnlyChances : List Note → Type 0
OnlyChances ns = NotesKeep NoCell NoCell ns

-- ---- a cut

-- iterations that are cut: how many more calls may be open; the first number, and how many
-- iterations the lower and the upper part have; the state before them; what is noted where an
-- iteration begins, in the lower part and in the upper one; and the variables and tables with
-- which the upper part begins
pub record CutLoop : Type 0 where
  pub room : ℕ
  pub first : ℤ
  pub below : ℕ
  pub above : ℕ
  pub state : State
  pub begin : List Note
  pub again : List Note
  pub upper_begin : List Note
  pub upper_again : List Note
  pub vars : List Variable
  pub tables : List Table

-- the first number of the upper part
abbrev pub middle_of : CutLoop → ℤ
middle_of c = c.first +ℤ pos c.below

-- numbers are in range, the ticks are within the fuel, and the upper part has the variables round
-- the loop and the tables as the lower part has them, where it may see them
pub record LoopCut (p : Program) (outer : Modes) (l : ParLoop) (fuel : ℕ) (c : CutLoop) : Type 0
  where
    pub calls : c.room ≤ MAX_CALL_DEPTH
    pub range : LoopInRange p l c.state c.first (middle_of c)
    pub within : c.state.ticks ≤ fuel
    pub round : SameRound l.reduces.items c.state.vars c.vars
    pub given : AgreeOn (UpperSeen outer l c.state.vars (middle_of c)) c.tables c.state.tables

abbrev pub lower_of : Program → ℕ → ParLoop → CutLoop → Ran
lower_of p fuel l c = iterations_in p fuel c.room l c.again c.begin c.below c.first c.state

abbrev pub upper_of : Program → ℕ → ParLoop → CutLoop → Ran
upper_of p fuel l c =
    iterations_in p fuel c.room l c.upper_again c.upper_begin c.above (middle_of c)
    (upper_start l.reduces.items c.vars c.tables)

abbrev pub whole_of : Program → ℕ → ParLoop → CutLoop → Ran
whole_of p fuel l c =
    iterations_in p fuel c.room l c.again c.begin (c.below + c.above) c.first c.state

-- the lower part, and the upper part from units, merged are the whole
abbrev pub LoopLaw : Program → ℕ → Modes → ParLoop → CutLoop → Type 0
LoopLaw p fuel outer l c =
    Joins fuel l.reduces.items
    (UpperSeen outer l c.state.vars (middle_of c)) (UpperWritten outer l c.state.vars (middle_of c))
    (lower_of p fuel l c) (upper_of p fuel l c) (whole_of p fuel l c)

-- where there is no lower part: iterations from the accumulators of a state end with these
-- combined with what as many come to from units, and else alike
abbrev pub FromUnits : Program → ℕ → Modes → ParLoop → CutLoop → Type 0
FromUnits p fuel outer l c =
    Joins fuel l.reduces.items
    (UpperSeen outer l c.state.vars c.first) (UpperWritten outer l c.state.vars c.first)
    (done c.state)
    (iterations_in p fuel c.room l c.upper_again c.upper_begin c.above c.first
    (upper_start l.reduces.items c.vars c.tables))
    (iterations_in p fuel c.room l c.again c.begin c.above c.first c.state)
