-- What the links of a stack's cells are seen as, and what each call makes of them.
use Rattle.std.specs.Prelude.{◌≡◌, ◌≤◌, [], ℕ, pos, not, nat_le, List, filter}
use Rattle.std.specs.Ordering.{int_eq}
use Rattle.stack_marks.specs.declared.mark.Mark.{Mark}

-- the position of the lowest cell that there is a link for, the number of cells from there on that
-- there is room for, and the marks in the order of their cells
pub record LinksValue : Type 0 where
  pub lowest : ℕ
  pub room : ℕ
  pub marks : List Mark

-- the mark at a position taken away
abbrev pub without : LinksValue → ℕ → LinksValue
without s at =
    record {
      lowest = s.lowest;
      room = s.room;
      marks = filter
          (λ m. not (int_eq (pos m.at) (pos at))) s.marks;
    }

-- the marks below a position taken away
abbrev pub from_on : LinksValue → ℕ → LinksValue
from_on s low =
    record { lowest = s.lowest; room = s.room; marks = filter (λ m. nat_le low m.at) s.marks }

-- links of cells from a position on, with no mark and room for so many
abbrev pub HasLinks : LinksValue → ℕ → ℕ → Type 0
HasLinks s lowest room = (s.lowest ≡ lowest) × (s.marks ≡ []) × (room ≤ s.room)
