-- How the handler of a pair of calls cuts it.
use Rattle.std.specs.Prelude.{◌≡◌, ℕ, ◌+◌, ◌≤◌, ◌^◌, pos, false, true, [], Some, None, length, Bool}
use Rattle.tp_value.specs.declared.limits.TheConstants.{REGISTERS}
use Rattle.handler_gen.specs.Registers.{cut_register}
use Rattle.stack_marks.specs.Causes.{Holds}
use Rattle.stack_marks.specs.declared.mark.Mark.{Mark}
use Rattle.stack_marks.specs.Stacks.{StackValue, with_word, left_of, child_of}
use Rattle.tpal_syntax.specs.declared.notes.CutKind.TheVariants.{Call}
use Rattle.tpal_syntax.specs.declared.sites.CallSite.{CallSite}
use Rattle.tpal_syntax.specs.declared.words.Word.TheVariants.{Int, Label, Rec}
use Rattle.tpal_syntax.specs.Conditions.{is_ready}
use Rattle.tpal_syntax.specs.Listing.{Listing}
use Rattle.tpal_machine.specs.Effect.{answered, oldest}
use Rattle.tpal_machine.specs.Reading.{register, block_at, note_of, target_at}
use Rattle.tpal_machine.specs.State.{State}
use Rattle.tpal_machine.specs.Step.{Asks, step}
use Rattle.handler_gen.specs.Blocks.{call_target}
use Rattle.handler_gen.specs.Halves.{asking, GoesBack, Work, Halves, IsCutInTwo}
use Rattle.handler_gen.specs.Sites.{back_label, left_end_label, target_label}

-- the mark of a pair of calls in the activation at a position
abbrev pub call_mark : CallSite → ℕ → Mark
call_mark site z =
    record { at = z + site.mark; base = z; cells = site.cells; split = site.label }

-- what is cut, under a record
abbrev pub call_work : CallSite → ℕ → ℕ → Work
call_work site z k =
    record { base = z; cells = site.cells; cuts = []; rec = k; target = target_label site.label }

-- The left has what stands above the activation that is cut. The first function, which begins
-- there, will return to where the left ends, and has its record.
abbrev pub left_call_cells : CallSite → ℕ → ℕ → StackValue → StackValue
left_call_cells site z k s =
    with_word
    (with_word (left_of s z site.cells Call) (pos (z + site.cells))
    (Label (left_end_label site.label)))
    (pos (z + site.cells + 1)) (Rec k)

-- the child has the activation that is cut, and its record
abbrev pub child_call_cells : CallSite → ℕ → ℕ → StackValue → StackValue
child_call_cells site z k s =
    with_word (child_of s z site.cells) (pos (z + site.rec)) (Rec k)

-- the left goes back, and the child begins the second call
abbrev pub call_halves : CallSite → ℕ → ℕ → StackValue → Halves
call_halves site z k s = record {
  left_stack = left_call_cells site z k s;
  left_label = back_label site.label;
  child_stack = child_call_cells site z k s;
  child_label = site.entry;
}

-- In a code round the handler of a pair of calls the join target of the site stands, and the block
-- that begins the second call is no promotion point.
pub record IsRoundCalls (code : Listing) (site : CallSite) : Type 0 where
  pub target : target_at code (target_label site.label) ≡ Some (call_target site)
  pub entry : is_ready (note_of (block_at code site.entry)) ≡ false

-- A task at the first block of the handler of a pair of calls: the base of the pair's activation is
-- in r28, its mark is the oldest, and the first function's activation stands above it.
pub record IsAtCalls (site : CallSite) (z : ℕ) (state : State) : Type 0 where
  pub block : state.block ≡ site.label
  pub at : state.at ≡ 0
  pub size : length state.registers ≡ REGISTERS
  pub base : register state.registers cut_register ≡ Int (pos z)
  pub granted : state.beat.granted ≡ true
  pub free : state.pending ≡ None
  pub marked : oldest state.stack ≡ Some (call_mark site z)
  pub held : Holds state.stack z (site.cells + 2)
  pub low : z + site.cells ≤ 2 ^ 62

-- What the handler of a pair of calls does: it asks once, goes back unchanged where there is no
-- record, and under a record the left keeps the first call and the child gets the second one.
pub record CutsCalls (code : Listing) (heartbeat : ℕ) (site : CallSite) : Type 0 where
  pub asks : (z : ℕ) (state : State)
      → IsAtCalls site z state
      → (allowed : Bool)
      → step code heartbeat allowed state ≡ Asks (asking site.label state)
  pub goes_back : (z : ℕ) (state : State)
      → IsAtCalls site z state
      → GoesBack code heartbeat site.label state (answered None (asking site.label state))
  pub cuts : (z : ℕ) (state : State) (k : ℕ)
      → IsAtCalls site z state
      → IsCutInTwo code heartbeat (call_work site z k) (call_halves site z k state.stack) state
      (answered (Some k) (asking site.label state))
