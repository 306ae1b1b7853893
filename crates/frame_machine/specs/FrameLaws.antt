-- A frame and the two parts that it is cut into.
use Rattle.std.specs.Prelude.{◌≡◌, ℕ, ◌≤◌, Bool, true, false, ℤ, ◌≤ℤ◌, List, [], ◌++◌, map}
use Rattle.std.specs.List.{All}
use Rattle.tp_value.specs.declared.Op.{Op}
use Rattle.tp_value.specs.declared.Stop.TheVariants.{Done}
use Rattle.tp_value.specs.declared.Table.{Table}
use Rattle.beat_count.specs.Joining.{joined_stop, joined_ticks}
use Rattle.loop_syntax.specs.declared.Name.{Name}
use Rattle.loop_syntax.specs.declared.ParLoop.{ParLoop}
use Rattle.loop_syntax.specs.declared.Program.{Program}
use Rattle.loop_syntax.specs.declared.Reduce.{Reduce}
use Rattle.loop_syntax.specs.declared.Stmt.TheVariants.{Par}
use Rattle.loop_meaning.specs.declared.frame.Frame.TheVariants.{Range, Pair}
use Rattle.loop_meaning.specs.declared.value.Variable.{Variable}
use Rattle.loop_meaning.specs.Frames.{FrameRan, OfPar, OfBoth, run_frame}
use Rattle.loop_meaning.specs.InRange.{FuncInRange, StateInRange, StmtInRange}
use Rattle.loop_meaning.specs.State.{State}
use Rattle.frame_machine.specs.Modes.{Modes, Whole}
use Rattle.frame_machine.specs.Bodies.{FuncsKeep}
use Rattle.frame_machine.specs.Lawful.{Callable}
use Rattle.frame_machine.specs.Parts.{AgreeOn, Cells, Outside}
use Rattle.frame_machine.specs.Joins.{Joins, SameRound}
use Rattle.frame_machine.specs.Splitting.{merged, with_units}
use Rattle.frame_machine.specs.Fitting.{BegunPar, Fits}
use Rattle.frame_machine.specs.Iterating.{NoCell, UpperSeen, UpperWritten}

-- a child begins with no ticks and no output
abbrev pub child_start : List Variable → List Table → State
child_start vs ts = record { vars = vs; tables = ts; output = []; ticks = 0 }

-- ---- ranges

-- the operators of a reduce list
abbrev pub ops_of : List Reduce → List Op
ops_of rs = map (λ (r : Reduce). r.op) rs

-- `whole` is a range of that `par` whose lower part is `low` and whose upper part, which may see
-- and write these cells, is `up`
pub record RangeJoins (fuel : ℕ) (l : ParLoop) (seen written : Cells) (low up whole : FrameRan) :
    Type 0 where
  pub runs : Joins fuel l.reduces.items seen written low.ran up.ran whole.ran
  pub results : whole.ran.stop ≡ Done →
      whole.results ≡ merged (ops_of l.reduces.items) low.results up.results

-- numbers in the range of 64 bits: the literals of the functions and of the `par`, and those of a
-- state
pub record AllInRange (p : Program) (l : ParLoop) (s : State) : Type 0 where
  pub funcs : All FuncInRange p.funcs.items
  pub par : StmtInRange (Par l)
  pub state : StateInRange s

-- a range that is cut: the numbers to which the bounds of its `par` came; the range with its
-- accumulators, and where it is cut; the state in which it runs; and the variables and tables with
-- which the child begins
pub record CutRange : Type 0 where
  pub first : ℤ
  pub last : ℤ
  pub next : ℤ
  pub middle : ℤ
  pub end : ℤ
  pub accs : List (Op × ℤ)
  pub state : State
  pub vars : List Variable
  pub tables : List Table

-- the frame fits the `par`, and the cut is within it; numbers are in range, and the ticks are
-- within the fuel; and the child has the variables round the loop and the tables as the frame has
-- them, where it may see them
pub record RangeCut (p : Program) (outer : Modes) (l : ParLoop) (fuel : ℕ) (c : CutRange) : Type 0
  where
    pub fits : Fits (BegunPar l c.first c.last) (Range c.next c.end c.accs)
    pub low : c.next ≤ℤ c.middle
    pub high : c.middle ≤ℤ c.end
    pub range : AllInRange p l c.state
    pub within : c.state.ticks ≤ fuel
    pub round : SameRound l.reduces.items c.state.vars c.vars
    pub given : AgreeOn (UpperSeen outer l c.state.vars c.middle) c.tables c.state.tables

-- the lower frame, and the upper one from units, merged are the frame
abbrev pub RangeLaw : Program → ℕ → ℕ → Modes → ParLoop → CutRange → Type 0
RangeLaw p fuel depth outer l c =
    RangeJoins fuel l
    (UpperSeen outer l c.state.vars c.middle) (UpperWritten outer l c.state.vars c.middle)
    (run_frame p fuel depth (OfPar l) (Range c.next c.middle c.accs) c.state)
    (run_frame p fuel depth (OfPar l) (Range c.middle c.end (with_units c.accs))
    (child_start c.vars c.tables))
    (run_frame p fuel depth (OfPar l) (Range c.next c.end c.accs) c.state)

-- ---- pairs

-- every cell of the tables that are whole in these modes
abbrev pub WholeCells : Modes → Cells
WholeCells m t i j = m t ≡ Whole

-- two functions may be called side by side where m says what may be done with each table: the
-- functions of the program that read only whole tables write nothing and call only such functions,
-- and these two are among them
pub record LawfulCalls (p : Program) (m : Modes) (f g : List ℕ) : Type 0 where
  pub functions : FuncsKeep (Callable p m) m p.funcs.items
  pub first : Callable p m f
  pub second : Callable p m g

-- `whole` is both calls of a pair from s, `low` the first alone, and `up` the second alone from no
-- ticks
pub record PairJoins (fuel : ℕ) (s : State) (low up whole : FrameRan) : Type 0 where
  pub stop : whole.ran.stop ≡
      joined_stop low.ran.stop low.ran.state.ticks up.ran.stop up.ran.state.ticks fuel
  pub ticks : whole.ran.state.ticks ≡
      joined_ticks low.ran.stop low.ran.state.ticks up.ran.stop up.ran.state.ticks fuel
  pub results : whole.ran.stop ≡ Done → whole.results ≡ low.results ++ up.results
  pub vars : whole.ran.stop ≡ Done → whole.ran.state.vars ≡ s.vars
  pub tables : whole.ran.stop ≡ Done → AgreeOn (Outside NoCell) s.tables whole.ran.state.tables
  pub output : whole.ran.state.output ≡ s.output

-- a pair that is cut: both functions with their arguments, the state in which it runs, and the
-- variables and tables with which the child begins
pub record CutPair : Type 0 where
  pub first : Name
  pub args : List ℤ
  pub second : Name
  pub second_args : List ℤ
  pub state : State
  pub vars : List Variable
  pub tables : List Table

-- the frame of that pair, taken or not, in the child or not
abbrev pub pair_frame : Program → ℕ → ℕ → CutPair → (taken child : Bool) → State → FrameRan
pair_frame p fuel depth c taken child s =
    run_frame p fuel depth (OfBoth c.first.text.items c.first.place c.args c.second.place child)
    (Pair c.second.text.items c.second_args taken) s

-- the first call alone, and the second alone in the child, joined are both
abbrev pub PairLaw : Program → ℕ → ℕ → CutPair → Type 0
PairLaw p fuel depth c =
    (child : Bool) → PairJoins fuel c.state
    (pair_frame p fuel depth c true false c.state)
    (pair_frame p fuel depth c true true (child_start c.vars c.tables))
    (pair_frame p fuel depth c false child c.state)
