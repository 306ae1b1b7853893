-- What the handler of a leaf loop does with its registers, before and behind what a loop's handler
-- does with their cells.
use Rattle.std.specs.Prelude.{◌≡◌, ℕ, ◌+◌, ◌<◌, ◌≤◌, ℤ, pos, false, ⊤, List, [], ◌∷◌, Some, length}
use Rattle.std.specs.Prelude.{slice_set}
use Rattle.std.specs.List.{AllByRecursion}
use Rattle.beat_count.specs.BeatState.{BeatState}
use Rattle.loop_meaning.specs.declared.frame.Frame.{Frame}
use Rattle.loop_meaning.specs.declared.frame.Frame.TheVariants.{Range, Pair}
use Rattle.stack_marks.specs.Causes.{Holds}
use Rattle.stack_marks.specs.declared.mark.Mark.{Mark}
use Rattle.stack_marks.specs.Stacks.{StackValue, word_at, with_word}
use Rattle.tp_value.specs.declared.limits.TheConstants.{REGISTERS}
use Rattle.tp_value.specs.declared.Op.{Op}
use Rattle.tpal_syntax.specs.Conditions.{is_ready}
use Rattle.tpal_syntax.specs.declared.instructions.Instr.TheVariants as instr
use Rattle.tpal_syntax.specs.declared.instructions.Term.TheVariants as term
use Rattle.tpal_syntax.specs.declared.instructions.Value.TheVariants as value
use Rattle.tpal_syntax.specs.declared.words.Word.{Word}
use Rattle.tpal_syntax.specs.declared.words.Word.TheVariants.{Int, Label}
use Rattle.tpal_syntax.specs.Listing.{Listing}
use Rattle.tpal_machine.specs.Effect.{oldest}
use Rattle.tpal_machine.specs.Reading.{register, block_at, note_of}
use Rattle.tpal_machine.specs.State.{State}
use Rattle.expr_lower.specs.Leaving.{moved}
use Rattle.expr_lower.specs.Registers.{base_register, value_registers}
use Rattle.expr_lower.specs.Standing.{Remains}
use Rattle.tpal_syntax.specs.declared.sites.LeafSite.{LeafSite}
use Rattle.handler_gen.specs.Blocks.{to}
use Rattle.handler_gen.specs.Dispatching.{dispatched}
use Rattle.handler_gen.specs.Frames.{Shows}
use Rattle.handler_gen.specs.LeafSites.{stored_loop, registers_of}
use Rattle.handler_gen.specs.LeafSites.{reload_label, start_label, head_label}
use Rattle.handler_gen.specs.LoopCuts.{CutsLoop}
use Rattle.handler_gen.specs.Reaching.{Reaches}
use Rattle.handler_gen.specs.Registers.{back_register, cut_register, leaf_bound, leaf_cursor}
use Rattle.handler_gen.specs.Registers.{leaf_first_acc, split_register}

-- ---- registers and their cells

-- the words of registers, in their cells of an activation
abbrev pub with_registers : List (ℕ × ℕ) → ℕ → List Word → StackValue → StackValue
with_registers [] z words s = s
with_registers (p ∷ ps) z words s =
    with_registers ps z words (with_word s (pos (z + p.0)) (register words p.1))

-- cells of an activation have the words of their registers
abbrev pub HaveRegisters : List (ℕ × ℕ) → ℕ → List Word → StackValue → Type 0
HaveRegisters ps z words s =
    AllByRecursion (λ (p : ℕ × ℕ). word_at s (pos (z + p.0)) ≡ Some (register words p.1)) ps

-- ---- frames in registers

-- registers from one on hold these accumulators, each by its operator
abbrev pub HaveAccs : List Word → ℕ → List (ℕ × Op) → List (Op × ℤ) → Type 0
HaveAccs words r [] [] = ⊤
HaveAccs words r [] (acc ∷ accs) = ⊥
HaveAccs words r (cell ∷ cells) [] = ⊥
HaveAccs words r (cell ∷ cells) (acc ∷ accs) =
    (cell.1 ≡ acc.0) × (register words r ≡ Int acc.1) × HaveAccs words (r + 1) cells accs

-- the registers of a leaf loop show a frame
abbrev pub ShowsLeaf : LeafSite → Frame → List Word → Type 0
ShowsLeaf site (Range next end accs) words =
    (register words leaf_cursor ≡ Int next) × (register words leaf_bound ≡ Int end)
    × HaveAccs words leaf_first_acc site.accs accs
ShowsLeaf site (Pair second args taken) words = ⊥

-- Where the cells of a leaf loop have the words of its registers, both show the same frames.
pub record ShowsAlike (site : LeafSite) : Type 0 where
  pub in_cells : (z : ℕ) (frame : Frame) (words : List Word) (s : StackValue)
      → HaveRegisters (registers_of site) z words s
      → ShowsLeaf site frame words
      → Shows (stored_loop site) z frame s
  pub in_registers : (z : ℕ) (frame : Frame) (words : List Word) (s : StackValue)
      → HaveRegisters (registers_of site) z words s
      → Shows (stored_loop site) z frame s
      → ShowsLeaf site frame words

-- ---- the registers are stored

-- A task at the first block of a leaf loop's handler, whose activation begins at a position. The
-- oldest mark is the loop's own or that of something round it.
pub record IsAtLeaf (site : LeafSite) (z : ℕ) (mark : Mark) (state : State) : Type 0 where
  pub block : state.block ≡ site.label
  pub at : state.at ≡ 0
  pub size : length state.registers ≡ REGISTERS
  pub base : register state.registers base_register ≡ Int (pos z)
  pub held : Holds state.stack z site.cells
  pub marked : oldest state.stack ≡ Some mark

-- the same task with its registers in their cells, which goes back by the block that loads them
abbrev pub stored_task : LeafSite → ℕ → State → BeatState → State
stored_task site z state beat =
    record state {
      registers = slice_set state.registers back_register (Label (reload_label site.label));
      stack = with_registers (registers_of site) z state.registers state.stack;
      beat = beat;
    }

-- The task comes, with its registers stored, to where what remains is what `dispatch` does; and so
-- to the block of the oldest mark's split label.
pub record IsStored (code : Listing) (heartbeat : ℕ) (site : LeafSite) (z : ℕ) (mark : Mark)
    (state : State) : Type 0 where
  pub beat : BeatState
  pub at : ℕ
  pub quiet : beat.quiet ≡ state.beat.quiet
  pub granted : beat.granted ≡ state.beat.granted
  pub have : HaveRegisters (registers_of site) z state.registers
      (stored_task site z state beat).stack
  pub comes : Reaches code heartbeat state (record (stored_task site z state beat) { at = at })
  pub goes_on : Remains code state.block at (instr.PrmSplit cut_register split_register ∷ [])
      (term.Jump (value.Reg split_register))
  pub handled : is_ready (note_of (block_at code mark.split)) ≡ false
      → Reaches code heartbeat state (dispatched mark (stored_task site z state beat))

-- ---- they are loaded

-- a task at a block that loads the registers of a leaf loop
pub record IsAtLoads (site : LeafSite) (label z : ℕ) (state : State) : Type 0 where
  pub block : state.block ≡ label
  pub at : state.at ≡ 0
  pub size : length state.registers ≡ REGISTERS
  pub base : register state.registers base_register ≡ Int (pos z)
  pub held : Holds state.stack z site.cells

-- The task comes to the end of that block, where the registers are those of the cells, and goes on
-- at a label.
pub record IsLoaded (code : Listing) (heartbeat : ℕ) (site : LeafSite) (z label : ℕ)
    (state : State) : Type 0 where
  pub words : List Word
  pub beat : BeatState
  pub at : ℕ
  pub size : length words ≡ REGISTERS
  pub have : HaveRegisters (registers_of site) z words state.stack
  pub low : (r : ℕ) → r < value_registers → register words r ≡ register state.registers r
  pub high : (r : ℕ) → back_register ≤ r → register words r ≡ register state.registers r
  pub quiet : beat.quiet ≡ state.beat.quiet
  pub granted : beat.granted ≡ state.beat.granted
  pub comes : Reaches code heartbeat state (moved state words beat at)
  pub goes_on : Remains code state.block at [] (to label)

-- ---- the handler

-- What the handler of a leaf loop does: it stores the registers, whichever mark is the oldest; it
-- loads them again before it goes back to the promotion point; and where the oldest mark is the
-- loop's own it cuts what the cells then show.
pub record CutsLeaf (code : Listing) (heartbeat : ℕ) (site : LeafSite) : Type 0 where
  pub stores : (z : ℕ) (mark : Mark) (state : State)
      → IsAtLeaf site z mark state
      → IsStored code heartbeat site z mark state
  pub loads : (z : ℕ) (state : State)
      → IsAtLoads site (reload_label site.label) z state
      → IsLoaded code heartbeat site z (head_label site) state
  pub cuts : CutsLoop code heartbeat (stored_loop site)

-- What the block at which a leaf loop begins, and its child, does: it loads the registers, and the
-- first iteration begins at a label.
pub record StartsLeaf (code : Listing) (heartbeat : ℕ) (site : LeafSite) (first : ℕ) : Type 0 where
  pub loads : (z : ℕ) (state : State)
      → IsAtLoads site (start_label site) z state
      → IsLoaded code heartbeat site z first state
