-- How the handler of a loop cuts the iterations that aren't begun.
use Rattle.std.specs.Prelude.{◌≡◌, ℕ, ◌+◌, ℤ, pos, ◌-ℤ◌, ◌≤ℤ◌, int_lt, false, true, List, [], ◌∷◌}
use Rattle.std.specs.Prelude.{if◌then◌else◌, map, All, Some, None, length, Bool}
use Rattle.tp_value.specs.declared.limits.TheConstants.{REGISTERS}
use Rattle.handler_gen.specs.Registers.{cut_register}
use Rattle.loop_meaning.specs.InRange.{InRange}
use Rattle.frame_machine.specs.Splitting.{cut_of}
use Rattle.reduce_ops.specs.Reduction.{unit}
use Rattle.stack_marks.specs.Causes.{Holds}
use Rattle.stack_marks.specs.declared.mark.Mark.{Mark}
use Rattle.stack_marks.specs.Stacks.{StackValue, word_at, with_word, marked, without_oldest}
use Rattle.stack_marks.specs.Stacks.{left_of, child_of}
use Rattle.tp_value.specs.declared.limits.TheConstants.{MAX_PAR_LENGTH}
use Rattle.tp_value.specs.declared.Op.{Op}
use Rattle.tpal_syntax.specs.declared.notes.CarryAt.{CarryAt}
use Rattle.tpal_syntax.specs.declared.notes.CarryAt.TheVariants as carry
use Rattle.tpal_syntax.specs.declared.notes.CutKind.TheVariants.{Loop}
use Rattle.tpal_syntax.specs.declared.sites.LoopSite.{LoopSite}
use Rattle.tpal_syntax.specs.declared.words.Word.{Word}
use Rattle.tpal_syntax.specs.declared.words.Word.TheVariants.{Int, Label, Rec, Nil}
use Rattle.tpal_syntax.specs.Conditions.{is_ready}
use Rattle.tpal_syntax.specs.Listing.{Listing}
use Rattle.tpal_machine.specs.declared.cut.TableCut.{TableCut}
use Rattle.tpal_machine.specs.declared.cut.TableCut.TheVariants.{ByRows, ByCells}
use Rattle.tpal_machine.specs.Effect.{answered, oldest}
use Rattle.tpal_machine.specs.Reading.{register, block_at, note_of, target_at}
use Rattle.tpal_machine.specs.State.{State}
use Rattle.tpal_machine.specs.Step.{Asks, step}
use Rattle.handler_gen.specs.Blocks.{loop_target}
use Rattle.handler_gen.specs.Halves.{asking, GoesBack, Work, Halves, IsCutInTwo}
use Rattle.handler_gen.specs.Sites.{back_label, first_label, none_label, split_label}
use Rattle.handler_gen.specs.Sites.{target_label}

-- the mark of a loop in the activation at a position
abbrev pub loop_mark : LoopSite → ℕ → Mark
loop_mark site z =
    record { at = z + site.mark; base = z; cells = site.cells; split = split_label site }

-- ---- tables

abbrev pub number_of : Word → ℤ
number_of (Int n) = n
number_of (Label l) = pos 0
number_of (Rec k) = pos 0
number_of Nil = pos 0

-- the register of a carry's row, if it has one, holds a number
abbrev pub HasRow : List Word → CarryAt → Type 0
HasRow words (carry.Rows table at) = Unit {0}
HasRow words (carry.Cells table row at) =
    register words row ≡ Int (number_of (register words row))

-- where a table that is carried is cut, for a loop that is cut at a place
abbrev pub table_cut : List Word → ℤ → CarryAt → ℕ × TableCut
table_cut words middle (carry.Rows table at) = (table, ByRows middle)
table_cut words middle (carry.Cells table row at) =
    (table, ByCells (number_of (register words row)) middle)

abbrev pub table_cuts : List Word → ℤ → List CarryAt → List (ℕ × TableCut)
table_cuts words middle carries = map (table_cut words middle) carries

-- ---- the halves

-- what is cut, under a record
abbrev pub loop_work : LoopSite → ℕ → ℤ → ℕ → State → Work
loop_work site z middle k state = record {
  base = z;
  cells = site.cells;
  cuts = table_cuts state.registers middle site.carries;
  rec = k;
  target = target_label site.label;
}

-- the left has its record, and ends at the cut
abbrev pub left_cells : LoopSite → ℕ → ℤ → ℕ → StackValue → StackValue
left_cells site z middle k s =
    with_word (with_word (left_of s z site.cells Loop) (pos (z + site.rec)) (Rec k))
    (pos (z + site.bound)) (Int middle)

-- the accumulators begin with their units
abbrev pub with_units : List (ℕ × Op) → ℕ → StackValue → StackValue
with_units [] z s = s
with_units (a ∷ accs) z s = with_units accs z (with_word s (pos (z + a.0)) (Int (unit a.1)))

-- the child has its record, begins at the cut, and has a mark of its own
abbrev pub child_cells : LoopSite → ℕ → ℤ → ℕ → StackValue → StackValue
child_cells site z middle k s =
    marked
    (with_units site.accs z
    (with_word (with_word (child_of s z site.cells) (pos (z + site.rec)) (Rec k))
    (pos (z + site.cursor)) (Int middle)))
    (loop_mark site z)

-- Where an iteration is left to the left it goes back; else its mark is gone, and it goes on where
-- none is left. The child begins its first iteration.
abbrev pub loop_halves : LoopSite → ℕ → ℤ → ℕ → StackValue → Bool → Halves
loop_halves site z middle k s has_iteration = record {
  left_stack = if has_iteration then left_cells site z middle k s
      else without_oldest (left_cells site z middle k s);
  left_label = if has_iteration then back_label site.label else none_label site.label;
  child_stack = child_cells site z middle k s;
  child_label = first_label site.label;
}

-- ---- the handler

-- In a code round a loop's handler the join target of the site stands, and the blocks at which the
-- child and a left with no iteration go on are no promotion points.
pub record IsRoundLoop (code : Listing) (site : LoopSite) : Type 0 where
  pub target : target_at code (target_label site.label) ≡ Some (loop_target site)
  pub first : is_ready (note_of (block_at code (first_label site.label))) ≡ false
  pub none : is_ready (note_of (block_at code (none_label site.label))) ≡ false

-- A task at the first block of a loop's handler: the base of the loop's activation is in r28, its
-- mark is the oldest, the iterations next, .., end - 1 aren't begun, and they are cut at a place.
pub record IsAtLoop (site : LoopSite) (z : ℕ) (next middle end : ℤ) (state : State) : Type 0 where
  pub block : state.block ≡ site.label
  pub at : state.at ≡ 0
  pub size : length state.registers ≡ REGISTERS
  pub base : register state.registers cut_register ≡ Int (pos z)
  pub rows : All (HasRow state.registers) site.carries
  pub granted : state.beat.granted ≡ true
  pub free : state.pending ≡ None
  pub marked : oldest state.stack ≡ Some (loop_mark site z)
  pub held : Holds state.stack z site.cells
  pub cursor : word_at state.stack (pos (z + site.cursor)) ≡ Some (Int next)
  pub bound : word_at state.stack (pos (z + site.bound)) ≡ Some (Int end)
  pub next_in_range : InRange next
  pub end_in_range : InRange end
  pub short : (end -ℤ next) ≤ℤ pos MAX_PAR_LENGTH
  pub cut : cut_of next end ≡ Some middle

-- What the handler of a loop does: it asks once, goes back unchanged where there is no record, and
-- under a record it cuts the iterations that aren't begun in two.
pub record CutsLoop (code : Listing) (heartbeat : ℕ) (site : LoopSite) : Type 0 where
  pub asks : (z : ℕ) (next middle end : ℤ) (state : State)
      → IsAtLoop site z next middle end state
      → (allowed : Bool)
      → step code heartbeat allowed state ≡ Asks (asking site.label state)
  pub goes_back : (z : ℕ) (next middle end : ℤ) (state : State)
      → IsAtLoop site z next middle end state
      → GoesBack code heartbeat site.label state (answered None (asking site.label state))
  pub cuts : (z : ℕ) (next middle end : ℤ) (state : State) (k : ℕ)
      → IsAtLoop site z next middle end state
      → IsCutInTwo code heartbeat (loop_work site z middle k state)
      (loop_halves site z middle k state.stack (int_lt next middle)) state
      (answered (Some k) (asking site.label state))
