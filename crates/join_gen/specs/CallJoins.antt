-- How the sides of a pair of calls end, and how they meet.
use Rattle.std.specs.Prelude.{◌≡◌, ◌≤◌, ℕ, ◌+◌, ◌^◌, pos, false, List, [], ◌∷◌, length, Some, None}
use Rattle.tp_value.specs.declared.limits.TheConstants.{REGISTERS}
use Rattle.expr_lower.specs.Registers.{base_register}
use Rattle.handler_gen.specs.Registers.{record_register}
use Rattle.beat_count.specs.BeatState.{BeatState}
use Rattle.stack_marks.specs.Stacks.{word_at}
use Rattle.tp_value.specs.declared.values.Stop.TheVariants.{Done}
use Rattle.tpal_syntax.specs.Conditions.{is_ready}
use Rattle.tpal_syntax.specs.declared.sites.CallSite.{CallSite}
use Rattle.tpal_syntax.specs.declared.words.Word.{Word}
use Rattle.tpal_syntax.specs.declared.words.Word.TheVariants.{Int, Rec}
use Rattle.tpal_syntax.specs.Listing.{Listing}
use Rattle.tpal_machine.specs.declared.ends.Ending.TheVariants as ending
use Rattle.tpal_machine.specs.declared.ends.Goal.TheVariants as goal
use Rattle.tpal_machine.specs.declared.ends.Side.{Side}
use Rattle.tpal_machine.specs.declared.ends.SideName.{SideName}
use Rattle.tpal_machine.specs.Merge.{merged_task}
use Rattle.tpal_machine.specs.Reading.{register, block_at, note_of}
use Rattle.tpal_machine.specs.RestState.{RestState}
use Rattle.tpal_machine.specs.State.{State}
use Rattle.handler_gen.specs.Blocks.{call_target}
use Rattle.handler_gen.specs.Reaching.{Reaches}
use Rattle.handler_gen.specs.Sites.{child_end_label, left_end_label, target_label, joined_label}
use Rattle.join_gen.specs.LoopJoins.{ComesToEnd}

-- what a side hands over: the value of its call, and its record
abbrev pub call_side : Word → ℕ → State → Side
call_side value k state = record {
  stop = Done;
  ticks = state.fuel.ticks;
  output = state.output;
  words = (0, value) ∷ (record_register, Rec k) ∷ [];
  slices = [];
}

-- a task to which a function has returned, at the label of a block: the function's activation
-- begins at a position, its value is in r0, and the task is a side under a record
pub record HasReturned (site : CallSite) (label position k : ℕ) (side : SideName) (given : Word)
    (state : State) : Type 0 where
  pub block : state.block ≡ label
  pub at : state.at ≡ 0
  pub size : length state.registers ≡ REGISTERS
  pub base : register state.registers base_register ≡ Int (pos position)
  pub value : register state.registers 0 ≡ given
  pub goal : state.goal ≡ goal.At k side (target_label site.label)
  pub free : state.pending ≡ None
  pub unmet : state.met ≡ None

-- a rest and two sides of a pair of calls
pub record AreSidesOfCalls (site : CallSite) (first second : Word) (rest : RestState)
    (left right : Side) : Type 0 where
  pub target : rest.target ≡ target_label site.label
  pub left_words : left.words ≡ (0, first) ∷ (record_register, Rec rest.rec) ∷ []
  pub right_words : right.words ≡ (0, second) ∷ (record_register, Rec rest.rec) ∷ []

-- The task that both sides merge to goes on with both values, in the activation that was cut.
pub record Meets (code : Listing) (heartbeat : ℕ) (site : CallSite) (first second : Word)
    (rest : RestState) (merged_state : State) : Type 0 where
  pub words : List Word
  pub beat : BeatState
  pub size : length words ≡ REGISTERS
  pub base : register words base_register ≡ Int (pos rest.base)
  pub first_value : register words 0 ≡ first
  pub second_value : register words 1 ≡ second
  pub loud : beat.quiet ≡ false
  pub granted : beat.granted ≡ false
  pub comes : Reaches code heartbeat merged_state
      (record merged_state {
        registers = words;
        beat = beat;
        block = joined_label site.label;
        at = 0;
        met = None;
      })

-- In a code round the join of a pair of calls the block with both values is no promotion point.
pub record IsRoundMeeting (code : Listing) (site : CallSite) : Type 0 where
  pub joined : is_ready (note_of (block_at code (joined_label site.label))) ≡ false

-- What the join of a pair of calls does: the child ends under the record of its activation, the
-- left under the one in cell 1 of the first function's activation, and the task goes on with both
-- values.
pub record JoinsCalls (code : Listing) (heartbeat : ℕ) (site : CallSite) : Type 0 where
  pub child_ends : (z k : ℕ) (side : SideName) (value : Word) (state : State)
      → HasReturned site (child_end_label site.label) (z + site.cells) k side value state
      → z + site.cells ≤ 2 ^ 62
      → word_at state.stack (pos (z + site.rec)) ≡ Some (Rec k)
      → ComesToEnd code heartbeat (ending.At k side (call_side value k state)) state
  pub left_ends : (position k : ℕ) (side : SideName) (value : Word) (state : State)
      → HasReturned site (left_end_label site.label) position k side value state
      → word_at state.stack (pos (position + 1)) ≡ Some (Rec k)
      → ComesToEnd code heartbeat (ending.At k side (call_side value k state)) state
  pub meets : (first second : Word) (rest : RestState) (left right : Side) (ticks : ℕ)
      (output : List ℕ)
      → AreSidesOfCalls site first second rest left right
      → Meets code heartbeat site first second rest
      (merged_task (call_target site) rest left right ticks output)
