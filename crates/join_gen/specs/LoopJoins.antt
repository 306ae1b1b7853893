-- How the sides of a loop end, and how they are combined.
use Rattle.std.specs.Prelude.{◌≡◌, ℕ, ◌+◌, ℤ, pos, Bool, false, ⊤, List, [], ◌∷◌, ◌++◌, map, length}
use Rattle.std.specs.Prelude.{Some, None}
use Rattle.tp_value.specs.declared.limits.TheConstants.{REGISTERS}
use Rattle.expr_lower.specs.Registers.{base_register}
use Rattle.handler_gen.specs.Registers.{record_register}
use Rattle.beat_count.specs.BeatState.{BeatState}
use Rattle.frame_machine.specs.Splitting.{merged}
use Rattle.stack_marks.specs.Causes.{Holds}
use Rattle.stack_marks.specs.Stacks.{StackValue, word_at, with_word}
use Rattle.tp_value.specs.declared.Op.{Op}
use Rattle.tp_value.specs.declared.values.Stop.TheVariants.{Done}
use Rattle.tpal_syntax.specs.Conditions.{is_ready}
use Rattle.tpal_syntax.specs.declared.sites.LoopSite.{LoopSite}
use Rattle.tpal_syntax.specs.declared.words.Word.{Word}
use Rattle.tpal_syntax.specs.declared.words.Word.TheVariants.{Int, Rec}
use Rattle.tpal_syntax.specs.Listing.{Listing}
use Rattle.tpal_machine.specs.declared.ends.Ending.{Ending}
use Rattle.tpal_machine.specs.declared.ends.Ending.TheVariants as ending
use Rattle.tpal_machine.specs.declared.ends.Goal.TheVariants as goal
use Rattle.tpal_machine.specs.declared.ends.Side.{Side}
use Rattle.tpal_machine.specs.declared.ends.SideName.{SideName}
use Rattle.tpal_machine.specs.Ended.{slices_of}
use Rattle.tpal_machine.specs.Merge.{merged_task}
use Rattle.tpal_machine.specs.Reading.{register, block_at, note_of}
use Rattle.tpal_machine.specs.RestState.{RestState}
use Rattle.tpal_machine.specs.State.{State}
use Rattle.tpal_machine.specs.Step.{Ends, step}
use Rattle.handler_gen.specs.Blocks.{loop_target}
use Rattle.handler_gen.specs.Reaching.{Reaches}
use Rattle.handler_gen.specs.Sites.{side_label, target_label, over_label}

-- ---- a side ends

-- a task comes to its end
pub record ComesToEnd (code : Listing) (heartbeat : ℕ) (e : Ending) (state : State) : Type 0 where
  pub last : State
  pub comes : Reaches code heartbeat state last
  pub ends : (allowed : Bool) → step code heartbeat allowed last ≡ Ends e

-- the cells of accumulators, in an activation, hold these words
abbrev pub HoldWords : StackValue → ℕ → List (ℕ × Op) → List Word → Type 0
HoldWords s z [] [] = ⊤
HoldWords s z [] (w ∷ words) = ⊥
HoldWords s z (a ∷ accs) [] = ⊥
HoldWords s z (a ∷ accs) (w ∷ words) =
    (word_at s (pos (z + a.0)) ≡ Some w) × HoldWords s z accs words

-- these words, in registers from one on
abbrev pub words_from : ℕ → List Word → List (ℕ × Word)
words_from r [] = []
words_from r (w ∷ words) = (r, w) ∷ words_from (r + 1) words

-- what a side hands over: its accumulators, its record, and its parts of the tables that are
-- carried
abbrev pub loop_side : LoopSite → List Word → ℕ → State → Side
loop_side site values k state = record {
  stop = Done;
  ticks = state.fuel.ticks;
  output = state.output;
  words = words_from 0 values ++ (record_register, Rec k) ∷ [];
  slices = slices_of state.tables site.carries;
}

-- A task at the block where a side of a loop ends: its own record is in r24, and the cells of its
-- accumulators hold these words.
pub record IsAtSide (site : LoopSite) (z k : ℕ) (side : SideName) (values : List Word)
    (state : State) : Type 0 where
  pub block : state.block ≡ side_label site.label
  pub at : state.at ≡ 0
  pub size : length state.registers ≡ REGISTERS
  pub base : register state.registers base_register ≡ Int (pos z)
  pub rec : register state.registers record_register ≡ Rec k
  pub goal : state.goal ≡ goal.At k side (target_label site.label)
  pub free : state.pending ≡ None
  pub unmet : state.met ≡ None
  pub accs : HoldWords state.stack z site.accs values

-- ---- both are combined

-- these numbers in the cells of accumulators
abbrev pub with_numbers : List (ℕ × Op) → ℕ → List ℤ → StackValue → StackValue
with_numbers [] z numbers s = s
with_numbers (a ∷ accs) z [] s = s
with_numbers (a ∷ accs) z (n ∷ numbers) s =
    with_numbers accs z numbers (with_word s (pos (z + a.0)) (Int n))

-- the operators of accumulators
abbrev pub ops_of : List (ℕ × Op) → List Op
ops_of accs = map (λ (a : ℕ × Op). a.1) accs

-- the words of accumulators that are numbers, with the record of a side
abbrev pub handed : List ℤ → ℕ → List (ℕ × Word)
handed numbers k = words_from 0 (map (λ (n : ℤ). Int n) numbers) ++ (record_register, Rec k) ∷ []

-- A rest and two sides of a loop: the sides hand over their accumulators and the rest's record, and
-- the activation that was cut is on the rest's stack.
pub record AreSidesOfLoop (site : LoopSite) (lefts rights : List ℤ) (rest : RestState)
    (left right : Side) : Type 0 where
  pub target : rest.target ≡ target_label site.label
  pub held : Holds rest.stack rest.base site.cells
  pub left_many : length lefts ≡ length site.accs
  pub right_many : length rights ≡ length site.accs
  pub left_words : left.words ≡ handed lefts rest.rec
  pub right_words : right.words ≡ handed rights rest.rec

-- The task that both sides merge to comes to where no iteration is left, in the activation that was
-- cut. Its accumulators are those of both, the left ones first.
pub record Combines (code : Listing) (heartbeat : ℕ) (site : LoopSite) (lefts rights : List ℤ)
    (rest : RestState) (merged_state : State) : Type 0 where
  pub words : List Word
  pub beat : BeatState
  pub size : length words ≡ REGISTERS
  pub base : register words base_register ≡ Int (pos rest.base)
  pub loud : beat.quiet ≡ false
  pub granted : beat.granted ≡ false
  pub comes : Reaches code heartbeat merged_state
      (record merged_state {
        registers = words;
        stack =
            with_numbers site.accs rest.base (merged (ops_of site.accs) lefts rights) rest.stack;
        beat = beat;
        block = over_label site.label;
        at = 0;
        met = None;
      })

-- ---- the join

-- In a code round a loop's join the block where no iteration is left is no promotion point.
pub record IsRoundJoin (code : Listing) (site : LoopSite) : Type 0 where
  pub over : is_ready (note_of (block_at code (over_label site.label))) ≡ false

-- What the join of a loop does: a side ends under its record, with its accumulators and its parts
-- of tables, and the accumulators of both sides are merged.
pub record JoinsLoop (code : Listing) (heartbeat : ℕ) (site : LoopSite) : Type 0 where
  pub ends : (z k : ℕ) (side : SideName) (values : List Word) (state : State)
      → IsAtSide site z k side values state
      → ComesToEnd code heartbeat (ending.At k side (loop_side site values k state)) state
  pub combines : (lefts rights : List ℤ) (rest : RestState) (left right : Side) (ticks : ℕ)
      (output : List ℕ)
      → AreSidesOfLoop site lefts rights rest left right
      → Combines code heartbeat site lefts rights rest
      (merged_task (loop_target site) rest left right ticks output)
