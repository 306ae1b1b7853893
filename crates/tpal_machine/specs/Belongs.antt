-- What belongs to a code.
use Rattle.std.specs.Prelude.{◌≡◌, ℕ, ◌≤◌, ◌<◌, IsTrue, length, All, Option, None, Some}
use Rattle.stack_marks.specs.Stacks.{StackValue}
use Rattle.tpal_syntax.specs.declared.blocks.Block.{Block}
use Rattle.tpal_syntax.specs.declared.words.Word.{Word}
use Rattle.tpal_syntax.specs.declared.words.Word.TheVariants as word
use Rattle.tpal_syntax.specs.Listing.{Listing}
use Rattle.tpal_machine.specs.declared.ends.Goal.{Goal}
use Rattle.tpal_machine.specs.declared.ends.Goal.TheVariants as goal
use Rattle.tpal_machine.specs.declared.ends.Side.{Side}
use Rattle.tpal_machine.specs.declared.ends.Tie.{Tie}
use Rattle.tpal_machine.specs.declared.ends.Wait.{Wait}
use Rattle.tpal_machine.specs.Reading.{block_at, is_target}
use Rattle.tpal_machine.specs.RestState.{RestState}
use Rattle.tpal_machine.specs.State.{State}

-- a label that a word is stands for a block of the code
abbrev pub IsWordOf : Listing → Word → Type 0
IsWordOf code (word.Int n) = Unit {0}
IsWordOf code (word.Label l) = l < length code.blocks
IsWordOf code (word.Rec k) = Unit {0}
IsWordOf code word.Nil = Unit {0}

-- the labels in cells and marks stand for blocks of the code
pub record IsStackOf (code : Listing) (stack : StackValue) : Type 0 where
  pub cells : All (IsWordOf code) stack.cells
  pub marks : All (λ m. m.split < length code.blocks) stack.marks

abbrev pub IsGoalOf : Listing → Goal → Type 0
IsGoalOf code goal.Root = Unit {0}
IsGoalOf code (goal.At rec side target) = IsTrue (is_target code target)

abbrev pub IsTieOf : Listing → Option Tie → Type 0
IsTieOf code None = Unit {0}
IsTieOf code (Some tie) = IsTrue (is_target code tie.target)

abbrev pub IsWaitOf : Listing → Option Wait → Type 0
IsWaitOf code None = Unit {0}
IsWaitOf code (Some wait) = (wait.to < 32) × IsTrue (is_target code wait.target)

-- the position is that of an instruction of the block or its end
abbrev pub IsPositionIn : Option Block → ℕ → Type 0
IsPositionIn None at = ⊥
IsPositionIn (Some block) at = at ≤ length block.body

-- what a task holds is of a code: it has one held table for each of the code's, its labels stand
-- for blocks, and its join targets are join targets
pub record HoldsOf (code : Listing) (state : State) : Type 0 where
  pub registers : length state.registers ≡ 32
  pub words : All (IsWordOf code) state.registers
  pub stack : IsStackOf code state.stack
  pub tables : length state.tables ≡ length code.tables
  pub goal : IsGoalOf code state.goal
  pub pending : IsTieOf code state.pending
  pub met : IsTieOf code state.met
  pub waiting : IsWaitOf code state.waiting

-- a task belongs to a code: what it holds is of the code, and so is its next instruction or the end
-- of the block at which it stands
pub record BelongsTo (code : Listing) (state : State) : Type 0 where
  pub holds : HoldsOf code state
  pub next : IsPositionIn (block_at code state.block) state.at

-- a rest belongs to a code by the same rule
pub record RestBelongsTo (code : Listing) (rest : RestState) : Type 0 where
  pub stack : IsStackOf code rest.stack
  pub tables : length rest.tables ≡ length code.tables
  pub goal : IsGoalOf code rest.goal
  pub target : IsTrue (is_target code rest.target)

-- a side belongs to a code where the labels in its words stand for blocks
abbrev pub SideBelongsTo : Listing → Side → Type 0
SideBelongsTo code side = All (λ w. IsWordOf code w.1) side.words
