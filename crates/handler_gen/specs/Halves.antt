-- What a handler makes of a task that a beat interrupted: it asks for a join record, and goes back
-- or cuts the work of the oldest mark in two.
use Rattle.std.specs.Prelude.{◌≡◌, ◌≤◌, ℕ, Bool, false, List, [], Some, None, length, pos}
use Rattle.tp_value.specs.declared.limits.TheConstants.{REGISTERS}
use Rattle.expr_lower.specs.Registers.{base_register}
use Rattle.handler_gen.specs.Registers.{record_register, back_register}
use Rattle.beat_count.specs.BeatState.{BeatState}
use Rattle.stack_marks.specs.Stacks as stacks
use Rattle.stack_marks.specs.Stacks.{StackValue}
use Rattle.tpal_syntax.specs.declared.words.Word.{Word}
use Rattle.tpal_syntax.specs.declared.words.Word.TheVariants.{Int}
use Rattle.tpal_syntax.specs.Listing.{Listing}
use Rattle.tpal_machine.specs.declared.cut.TableCut.{TableCut}
use Rattle.tpal_machine.specs.declared.ends.Goal.TheVariants as goal
use Rattle.tpal_machine.specs.declared.ends.SideName.TheVariants.{Left, Right}
use Rattle.tpal_machine.specs.Cut.{Forked, each_part, left_of, rest_of, child_of}
use Rattle.tpal_machine.specs.Reading.{register}
use Rattle.tpal_machine.specs.RestState.{RestState}
use Rattle.tpal_machine.specs.State.{State}
use Rattle.tpal_machine.specs.Step.{Forks, step, advanced}
use Rattle.handler_gen.specs.Reaching.{Reaches}
use Rattle.handler_gen.specs.Sites.{back_label, target_label}

-- ---- asking

-- a task that waits for a join record in r24, for the join target of a site
abbrev pub asking : ℕ → State → State
asking label state =
    record (advanced state) {
      waiting = Some (record { to = record_register; target = target_label label });
    }

-- ---- going back

-- These words and this beat are those of a task, as far as the block that was interrupted needs
-- them: r30 has its label and r31 the base of its activation, and it isn't diverted again.
pub record KeepsPlace (state : State) (words : List Word) (beat : BeatState) : Type 0 where
  pub size : length words ≡ REGISTERS
  pub high : (r : ℕ) → back_register ≤ r → register words r ≡ register state.registers r
  pub quiet : beat.quiet ≡ state.beat.quiet

-- a task with other words and another beat, at the start of a block
abbrev pub moved_on : State → List Word → BeatState → ℕ → State
moved_on state words beat label =
    record state { registers = words; beat = beat; block = label; at = 0; waiting = None }

-- The answer was that there is no record: the task comes to where it goes back, and all else is as
-- it was.
pub record GoesBack (code : Listing) (heartbeat label : ℕ) (state answered_task : State) : Type 0
  where
    pub words : List Word
    pub beat : BeatState
    pub keeps : KeepsPlace state words beat
    pub granted : beat.granted ≡ state.beat.granted
    pub comes : Reaches code heartbeat answered_task
        (moved_on state words beat (back_label label))

-- ---- cutting

-- What is cut: the cells from a base on, with the tables at these places, under a record for a join
-- target.
pub record Work : Type 0 where
  pub base : ℕ
  pub cells : ℕ
  pub cuts : List (ℕ × TableCut)
  pub rec : ℕ
  pub target : ℕ

-- what the left and the child have when they go on, and where that is
pub record Halves : Type 0 where
  pub left_stack : StackValue
  pub left_label : ℕ
  pub child_stack : StackValue
  pub child_label : ℕ

-- what the rest keeps of a task
abbrev pub rest_part : Work → State → RestState
rest_part work state = record {
  stack = stacks.rest_of state.stack work.base work.cells;
  tables = each_part rest_of work.cuts 0 state.tables;
  output = state.output;
  goal = state.goal;
  base = work.base;
  rec = work.rec;
  target = work.target;
  limit = state.fuel.limit;
  made = state.made;
}

-- the left of a task, where it goes on: it keeps the ticks, and has printed nothing
abbrev pub left_part : Work → Halves → State → List Word → BeatState → State
left_part work halves state words beat = record {
  registers = words;
  stack = halves.left_stack;
  tables = each_part left_of work.cuts 0 state.tables;
  made = state.made;
  fuel = state.fuel;
  beat = beat;
  output = [];
  goal = goal.At work.rec Left work.target;
  block = halves.left_label;
  at = 0;
  pending = None;
  met = None;
  waiting = None;
}

-- the child of a task, where it goes on: it has counted no tick, and has printed nothing
abbrev pub child_part : Work → Halves → State → List Word → BeatState → State
child_part work halves state words beat = record {
  registers = words;
  stack = halves.child_stack;
  tables = each_part child_of work.cuts 0 state.tables;
  made = state.made;
  fuel = record { limit = state.fuel.limit; ticks = 0 };
  beat = beat;
  output = [];
  goal = goal.At work.rec Right work.target;
  block = halves.child_label;
  at = 0;
  pending = None;
  met = None;
  waiting = None;
}

-- the left comes to where it goes on
pub record LeftGoesOn (code : Listing) (heartbeat : ℕ) (work : Work) (halves : Halves)
    (state left : State) : Type 0 where
  pub words : List Word
  pub beat : BeatState
  pub keeps : KeepsPlace state words beat
  pub granted : beat.granted ≡ false
  pub comes : Reaches code heartbeat left (left_part work halves state words beat)

-- the child comes to where it goes on, in the activation that was cut
pub record ChildGoesOn (code : Listing) (heartbeat : ℕ) (work : Work) (halves : Halves)
    (state child : State) : Type 0 where
  pub words : List Word
  pub beat : BeatState
  pub size : length words ≡ REGISTERS
  pub base : register words base_register ≡ Int (pos work.base)
  pub loud : beat.quiet ≡ false
  pub granted : beat.granted ≡ false
  pub comes : Reaches code heartbeat child (child_part work halves state words beat)

-- The answer was a record: the task comes to its fork, the rest keeps its part, and the left and
-- the child come to where they go on.
pub record IsCutInTwo (code : Listing) (heartbeat : ℕ) (work : Work) (halves : Halves)
    (state answered_task : State) : Type 0 where
  pub last : State
  pub comes : Reaches code heartbeat answered_task last
  pub parts : Forked
  pub forks : (allowed : Bool) → step code heartbeat allowed last ≡ Forks parts
  pub rec : parts.rec ≡ work.rec
  pub rest : parts.rest ≡ rest_part work state
  pub left : LeftGoesOn code heartbeat work halves state parts.left
  pub child : ChildGoesOn code heartbeat work halves state parts.child
