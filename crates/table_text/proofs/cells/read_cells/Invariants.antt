use Rattle.std.proofs.Common.{◌≡◌, ◌≤◌, ◌-◌, ℕ, List, [], length}
use Rattle.tp_value.specs.declared.values.Table.{Table}
use Rattle.table_text.specs.Reading.{tokens_at, read, filled}
use Rattle.table_text.proofs.cells.read_cells.Given as goal

abbrev pub invariant-loop-cell : goal.invariant-loop-cell
invariant-loop-cell l =
    (l.from ≤ l.at) × (l.at ≤ length l.text)
    × ((before : List Table) (name : List ℕ) (rows cols : ℕ) →
    read (length l.text) (tokens_at l.text l.from) (filled before name rows cols [] l.count)
    ≡ read (length l.text) (tokens_at l.text l.at) (filled before name rows cols l.values.items (l.count - l._cell)))
