-- The cells of the parts of a stack that is cut, and words set in them.
use Rattle.std.proofs.Common.{◌≡◌, ℕ, ◌+◌, ◌-◌, ◌<◌, ◌≤◌, List, [], ◌∷◌, length, drop, Some, refl}
use Rattle.std.proofs.Common.{ap, ◌∙◌, arith}
use Rattle.std.proofs.lemmas.List.{length-drop, length-take-le}
use Rattle.std.specs.Prelude.{pos, true, nat_le, slice_get, slice_index_or, filter}
use Rattle.reduce_ops.specs.Reduction.{unit}
use Rattle.stack_marks.specs.Causes.{Holds}
use Rattle.stack_marks.specs.declared.mark.Mark.{Mark}
use Rattle.stack_marks.specs.Stacks.{StackValue, word_at, with_word, left_of, child_of}
use Rattle.tp_value.specs.declared.Op.{Op}
use Rattle.tpal_syntax.specs.declared.notes.CutKind.TheVariants.{Loop, Call}
use Rattle.tpal_syntax.specs.declared.words.Word.{Word}
use Rattle.tpal_syntax.specs.declared.words.Word.TheVariants.{Int, Nil}
use Rattle.handler_gen.specs.LoopCuts.{with_units}
use Rattle.handler_gen.proofs.Words.{word_there, words_as_many}

-- the activation at a position, of so many cells, is all on a stack
pub record Has (s : StackValue) (z cells : ℕ) : Type 0 where
  pub low : s.base ≤ z
  pub high : z + cells ≤ s.base + length s.cells

-- one of its cells holds some word
pub some_word : (s : StackValue) (z cells off : ℕ) → Has s z cells → off < cells → word_at s (pos (z + off)) ≡ Some (slice_index_or s.cells (z + off - s.base) Nil)
some_word s z cells off has inside = word_there s (z + off) (omega (arith, has.low)) (omega (arith, has.high, inside))

pub has_set : (s : StackValue) (z cells at : ℕ) (w : Word) → Has s z cells → Has (with_word s (pos at) w) z cells
has_set s z cells at w has = record { low = has.low; high = omega (arith, has.high, words_as_many s at w) }

-- the left of a loop, the left of a pair of calls, and the child
pub has_left : (s : StackValue) (z cells : ℕ) → Holds s z cells → Has (left_of s z cells Loop) z cells
has_left s z cells held = record { low = omega arith; high = omega (arith, held.0, held.1, length-drop (z - s.base) s.cells) }

pub has_above : (s : StackValue) (z cells more : ℕ) → Holds s z (cells + more) → Has (left_of s z cells Call) (z + cells) more
has_above s z cells more held = record { low = omega arith; high = omega (arith, held.0, held.1, length-drop (z + cells - s.base) s.cells) }

pub has_child : (s : StackValue) (z cells : ℕ) → Holds s z cells → Has (child_of s z cells) z cells
has_child s z cells held =
    let inside : cells ≤ length (drop (z - s.base) s.cells) = omega (arith, held.0, held.1, length-drop (z - s.base) s.cells) in
    record { low = omega arith; high = omega (arith, length-take-le cells (drop (z - s.base) s.cells) inside) }

-- units in the cells of accumulators
pub has_units : (accs : List (ℕ × Op)) (s : StackValue) (z cells : ℕ) → Has s z cells → Has (with_units accs z s) z cells
has_units [] s z cells has = has
has_units (a ∷ accs) s z cells has = has_units accs (with_word s (pos (z + a.0)) (Int (unit a.1))) z cells (has_set s z cells (z + a.0) (Int (unit a.1)) has)

pub marks_units : (accs : List (ℕ × Op)) (s : StackValue) (z : ℕ) → (with_units accs z s).marks ≡ s.marks
marks_units [] s z = refl
marks_units (a ∷ accs) s z = marks_units accs (with_word s (pos (z + a.0)) (Int (unit a.1))) z

-- the oldest mark stays the oldest where those below a position go
pub oldest_kept : (marks : List Mark) (m : Mark) (low : ℕ) → slice_get marks 0 ≡ Some m → nat_le low m.at ≡ true → slice_get (filter (λ o. nat_le low o.at) marks) 0 ≡ Some m
oldest_kept [] m low is above = cc
oldest_kept (o ∷ marks) m low is above =
    let same : o ≡ m = cc in
    let kept : nat_le low o.at ≡ true = ap (λ (u : Mark). nat_le low u.at) same ∙ above in
    rw kept is
