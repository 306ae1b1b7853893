-- What the code of an expression comes to.
use Rattle.std.specs.Prelude.{◌≡◌, ℕ, ℤ, ◌<◌, ◌≤◌, Bool, List, None, length}
use Rattle.expr_lower.specs.Registers.{value_registers}
use Rattle.beat_count.specs.BeatState.{BeatState}
use Rattle.tp_value.specs.declared.Place.{Place}
use Rattle.tp_value.specs.declared.TrapKind.{TrapKind}
use Rattle.tp_value.specs.declared.values.Stop.TheVariants.{Trap}
use Rattle.loop_meaning.specs.declared.value.Answer.{Answer}
use Rattle.loop_meaning.specs.declared.value.Answer.TheVariants.{Number, Traps}
use Rattle.tpal_syntax.specs.declared.words.Word.{Word}
use Rattle.tpal_syntax.specs.declared.words.Word.TheVariants.{Int}
use Rattle.tpal_syntax.specs.Listing.{Listing}
use Rattle.tpal_machine.specs.Ended.{ended}
use Rattle.tpal_machine.specs.Reading.{register}
use Rattle.tpal_machine.specs.Serial.{Comes}
use Rattle.tpal_machine.specs.State.{State}
use Rattle.tpal_machine.specs.Step.{Ends, step, enters, advanced}

-- These words and this beat are those of a task but for the registers of values from `to` on and
-- for the instructions that the beat has counted.
pub record Keeps (to : ℕ) (state : State) (words : List Word) (beat : BeatState) : Type 0 where
  pub size : length words ≡ length state.registers
  pub below : (r : ℕ) → r < to → register words r ≡ register state.registers r
  pub above : (r : ℕ) → value_registers ≤ r → register words r ≡ register state.registers r
  pub quiet : beat.quiet ≡ state.beat.quiet
  pub granted : beat.granted ≡ state.beat.granted

-- a task with these words and this beat at another position; all else of it is as before
abbrev pub moved : State → List Word → BeatState → ℕ → State
moved state words beat at = record state { registers = words; beat = beat; at = at }

abbrev pub moved_to : State → List Word → BeatState → ℕ → ℕ → State
moved_to state words beat label at =
    record state { registers = words; beat = beat; block = label; at = at }

-- a task comes to leave a number in register `to`, and then enters the block at a label
pub record Leaves (code : Listing) (heartbeat : ℕ) (label to : ℕ) (n : ℤ) (state : State) : Type 0
  where
    pub words : List Word
    pub beat : BeatState
    pub at : ℕ
    pub keeps : Keeps to state words beat
    pub value : register words to ≡ Int n
    pub comes : Comes code heartbeat state (moved state words beat at)
    pub goes_on : (allowed : Bool)
        → step code heartbeat allowed (moved state words beat at)
        ≡ enters code heartbeat allowed label (advanced (moved state words beat at))

-- a task comes to a trap, which ends it where it has no join record left to use
pub record ComesToTrap (code : Listing) (heartbeat : ℕ) (to : ℕ) (kind : TrapKind) (place : Place)
    (state : State) : Type 0 where
  pub words : List Word
  pub beat : BeatState
  pub label : ℕ
  pub at : ℕ
  pub keeps : Keeps to state words beat
  pub comes : Comes code heartbeat state (moved_to state words beat label at)
  pub stops : (allowed : Bool)
      → state.pending ≡ None
      → step code heartbeat allowed (moved_to state words beat label at)
      ≡ Ends (ended code (Trap kind place) (advanced (moved_to state words beat label at)))

-- a task comes to the answer of an expression: it leaves the number in register `to` and enters the
-- block at a label, or it traps
abbrev pub ComesTo : Listing → ℕ → ℕ → ℕ → Answer → State → Type 0
ComesTo code heartbeat label to (Number n) state = Leaves code heartbeat label to n state
ComesTo code heartbeat label to (Traps kind place) state =
    ComesToTrap code heartbeat to kind place state
