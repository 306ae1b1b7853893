-- When a call of a stack is refused. Each refusal has one cause here, and a call that is not
-- refused has none.
use Rattle.std.specs.Prelude.{◌≡◌, ◌≢◌, ℕ, ◌+◌, ◌-◌, ◌<◌, ◌≤◌, ◌^◌, ℤ, pos, Option, None, Some}
use Rattle.std.specs.Prelude.{IsSome, length, All, Any}
use Rattle.stack_marks.specs.declared.mark.Mark.{Mark}
use Rattle.stack_marks.specs.declared.mark.StackFault.{StackFault}
use Rattle.stack_marks.specs.declared.mark.StackFault.TheVariants.{OutOfRange, NotMarked}
use Rattle.stack_marks.specs.declared.mark.StackFault.TheVariants.{MarkedCell, MarkOrder, TooLong}
use Rattle.stack_marks.specs.declared.mark.StackFault.TheVariants.{NoMemory}
use Rattle.stack_marks.specs.Stacks.{StackValue, word_at}

-- the cells up to the limit of positions have room for n more
abbrev pub HasRoom : StackValue → ℕ → Type 0
HasRoom s n = s.base + length s.cells + n ≤ 2 ^ 62

abbrev pub PushCause : StackFault → StackValue → ℕ → Type 0
PushCause OutOfRange s n = ⊥
PushCause NotMarked s n = ⊥
PushCause MarkedCell s n = ⊥
PushCause MarkOrder s n = ⊥
PushCause TooLong s n = HasRoom s n → ⊥
PushCause NoMemory s n = HasRoom s n

-- the position of the lowest of the n top cells
abbrev pub new_top : StackValue → ℕ → ℕ
new_top s n = s.base + (length s.cells - n)

abbrev pub PopCause : StackFault → StackValue → ℕ → Type 0
PopCause OutOfRange s n = length s.cells < n
PopCause NotMarked s n = ⊥
PopCause MarkedCell s n = (n ≤ length s.cells) × Any (λ m. new_top s n ≤ m.at) s.marks
PopCause MarkOrder s n = ⊥
PopCause TooLong s n = ⊥
PopCause NoMemory s n = ⊥

-- the only cause of a call that names one position
abbrev pub IsNoPosition : StackFault → StackValue → ℤ → Type 0
IsNoPosition fault s at = (fault ≡ OutOfRange) × (word_at s at ≡ None)

-- the cells from `base` on, `n` of them, are in the stack
abbrev pub Holds : StackValue → ℕ → ℕ → Type 0
Holds s base n = (s.base ≤ base) × (base + n ≤ s.base + length s.cells)

-- the mark's cells are in the stack, and the mark is on one of them
abbrev pub HoldsMark : StackValue → Mark → Type 0
HoldsMark s m = Holds s m.base m.cells × (m.base ≤ m.at) × (m.at < m.base + m.cells)

abbrev pub MarkCause : StackFault → StackValue → Mark → Type 0
MarkCause OutOfRange s m = HoldsMark s m → ⊥
MarkCause NotMarked s m = ⊥
MarkCause MarkedCell s m = ⊥
MarkCause MarkOrder s m = HoldsMark s m × Any (λ other. m.at ≤ other.at) s.marks
MarkCause TooLong s m = ⊥
MarkCause NoMemory s m = ⊥

abbrev pub UnmarkCause : StackFault → StackValue → ℤ → Type 0
UnmarkCause OutOfRange s at = word_at s at ≡ None
UnmarkCause NotMarked s at = IsSome (word_at s at) × All (λ m. pos m.at ≢ at) s.marks
UnmarkCause MarkedCell s at = ⊥
UnmarkCause MarkOrder s at = ⊥
UnmarkCause TooLong s at = ⊥
UnmarkCause NoMemory s at = ⊥

abbrev pub CutCause : StackFault → StackValue → ℕ → ℕ → Type 0
CutCause OutOfRange s base n = Holds s base n → ⊥
CutCause NotMarked s base n = ⊥
CutCause MarkedCell s base n = ⊥
CutCause MarkOrder s base n = ⊥
CutCause TooLong s base n = ⊥
CutCause NoMemory s base n = Holds s base n

-- the index of the cell at a position, where there is one
abbrev pub IsIndex : ℕ → ℕ → ℤ → Option ℕ → Type 0
IsIndex base len at None = (n : ℕ) → at ≡ pos n → base ≤ n → n < base + len → ⊥
IsIndex base len at (Some index) = (at ≡ pos (base + index)) × (index < len)
