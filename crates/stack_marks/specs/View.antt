-- How the kept cells and links stand for the lists.
use Rattle.std.specs.Prelude.{◌+◌, ◌≤◌, ◌^◌, length}
use Rattle.stack_marks.specs.Stacks.{StackValue, InOrder}
use Rattle.stack_marks.specs.declared.cells.Stack.TheInside.{Inside}

abbrev pub stack_value : Inside → StackValue
stack_value s = record { base = s.base; cells = s.cells.items; marks = s.links.marks }

-- there is room for a mark and its links on each cell
pub record IsKept (s : Inside) : Type 0 where
  pub base_low : s.base ≤ 2 ^ 62
  pub top_low : s.base + length s.cells.items ≤ 2 ^ 62
  pub in_order : InOrder s.base (s.base + length s.cells.items) s.links.marks
  pub lowest : s.links.lowest ≤ s.base
  pub room : s.base + length s.cells.items ≤ s.links.lowest + s.links.room
