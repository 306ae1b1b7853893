-- What the block of `dispatch` does.
use Rattle.std.specs.Prelude.{◌≡◌, ℕ, pos, false, Some, length, slice_set}
use Rattle.tp_value.specs.declared.limits.TheConstants.{REGISTERS}
use Rattle.handler_gen.specs.Registers.{cut_register, split_register}
use Rattle.beat_count.specs.Heartbeat.{counted}
use Rattle.stack_marks.specs.declared.mark.Mark.{Mark}
use Rattle.tpal_syntax.specs.Conditions.{is_ready}
use Rattle.tpal_syntax.specs.declared.words.Word.TheVariants.{Int, Label}
use Rattle.tpal_syntax.specs.Listing.{Listing}
use Rattle.tpal_machine.specs.Effect.{oldest}
use Rattle.tpal_machine.specs.Reading.{block_at, note_of}
use Rattle.tpal_machine.specs.State.{State}
use Rattle.expr_lower.specs.Leaving.{moved_to}
use Rattle.handler_gen.specs.Reaching.{Reaches}

-- a task at the split label of a mark: the mark's base is in r28
abbrev pub dispatched : Mark → State → State
dispatched mark state =
    moved_to state
    (slice_set (slice_set state.registers cut_register (Int (pos mark.base))) split_register
    (Label mark.split))
    (counted (counted state.beat)) mark.split 0

-- A task at this block, where a mark stands, comes to the block of the oldest mark's split label.
pub record Dispatches (code : Listing) (heartbeat label : ℕ) : Type 0 where
  pub comes : (mark : Mark) (state : State)
      → state.block ≡ label → state.at ≡ 0
      → length state.registers ≡ REGISTERS
      → oldest state.stack ≡ Some mark
      → is_ready (note_of (block_at code mark.split)) ≡ false
      → Reaches code heartbeat state (dispatched mark state)
