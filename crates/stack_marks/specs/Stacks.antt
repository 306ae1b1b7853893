-- What a stack is seen as, and what each call makes of it.
use Rattle.std.specs.Prelude.{ℕ, suc, ◌+◌, ◌-◌, ◌<◌, ◌≤◌, ◌^◌, ℤ, pos, negsuc, not, nat_le}
use Rattle.std.specs.Prelude.{if◌then◌else◌, Option, None, List, [], ◌∷◌, ◌++◌, length, take, drop}
use Rattle.std.specs.Prelude.{slice_get, slice_set, filter, replicate}
use Rattle.std.specs.Ordering.{int_eq}
use Rattle.tpal_syntax.specs.declared.words.Word.{Word}
use Rattle.tpal_syntax.specs.declared.words.Word.TheVariants.{Nil}
use Rattle.tpal_syntax.specs.declared.notes.CutKind.{CutKind}
use Rattle.tpal_syntax.specs.declared.notes.CutKind.TheVariants.{Loop, Call}
use Rattle.stack_marks.specs.declared.mark.Mark.{Mark}

-- the position of the lowest cell, the cells from there upward, and the marks, the oldest first
pub record StackValue : Type 0 where
  pub base : ℕ
  pub cells : List Word
  pub marks : List Mark

-- the position above the highest cell
abbrev pub top_of : StackValue → ℕ
top_of s = s.base + length s.cells

-- the word at a position
abbrev pub word_at : StackValue → ℤ → Option Word
word_at s (pos at) = if nat_le s.base at then slice_get s.cells (at - s.base) else None
word_at s (negsuc at) = None

-- the positions of the marks rise, from `low` on and below `high`
abbrev pub InOrder : ℕ → ℕ → List Mark → Type 0
InOrder low high [] = Unit {0}
InOrder low high (m ∷ ms) = (low ≤ m.at) × (m.at < high) × InOrder (suc m.at) high ms

-- what is true of every stack: it lies below 2 ^ 62, and each mark lies on a cell above the last
pub record IsSound (s : StackValue) : Type 0 where
  pub base_low : s.base ≤ 2 ^ 62
  pub top_low : s.base + length s.cells ≤ 2 ^ 62
  pub in_order : InOrder s.base (s.base + length s.cells) s.marks

-- more cells on top, with nothing in them
abbrev pub pushed : StackValue → ℕ → StackValue
pushed s n = record { base = s.base; cells = s.cells ++ replicate n Nil; marks = s.marks }

-- the top cells taken off
abbrev pub popped : StackValue → ℕ → StackValue
popped s n = record { base = s.base; cells = take (length s.cells - n) s.cells; marks = s.marks }

-- one word set
abbrev pub with_word : StackValue → ℤ → Word → StackValue
with_word s (pos at) word =
    record { base = s.base; cells = slice_set s.cells (at - s.base) word; marks = s.marks }
with_word s (negsuc at) word = s

-- one more mark, the newest
abbrev pub marked : StackValue → Mark → StackValue
marked s m = record { base = s.base; cells = s.cells; marks = s.marks ++ m ∷ [] }

-- the mark at a position taken away
abbrev pub unmarked : StackValue → ℤ → StackValue
unmarked s at =
    record {
      base = s.base;
      cells = s.cells;
      marks = filter (λ m. not (int_eq (pos m.at) at))
          s.marks;
    }

-- the oldest mark taken away
abbrev pub without_oldest : StackValue → StackValue
without_oldest s = record { base = s.base; cells = s.cells; marks = drop 1 s.marks }

-- the part of a stack that the outer task keeps while a cut of the n cells from `base` on is out
abbrev pub rest_of : StackValue → ℕ → ℕ → StackValue
rest_of s base n = record { base = s.base; cells = take (base + n - s.base) s.cells; marks = [] }

-- the cells that the child of such a cut begins with
abbrev pub child_of : StackValue → ℕ → ℕ → StackValue
child_of s base n =
    record { base = base; cells = take n (drop (base - s.base) s.cells); marks = [] }

-- where the left of such a cut begins: a loop's keeps the activation, a call's what lies above it
abbrev pub left_base : CutKind → ℕ → ℕ → ℕ
left_base Loop base n = base
left_base Call base n = base + n

abbrev pub from_position : StackValue → ℕ → StackValue
from_position s low =
    record {
      base = low;
      cells = drop (low - s.base) s.cells;
      marks = filter (λ m. nat_le low m.at)
          s.marks;
    }

abbrev pub left_of : StackValue → ℕ → ℕ → CutKind → StackValue
left_of s base n kind = from_position s (left_base kind base n)
