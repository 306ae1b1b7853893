use Rattle.std.proofs.Common.{◌≡◌, ◌≤◌, ◌-◌, [], length}
use Rattle.tp_value.specs.declared.limits.TheConstants.{MAX_TABLE_CELLS}
use Rattle.table_text.specs.Wanted.{cells_of}
use Rattle.table_text.specs.Reading.{tokens_at, read, Between, HoldsNames}
use Rattle.table_text.proofs.reading.read_text.Given as goal

abbrev pub invariant-loop-word : goal.invariant-loop-word
invariant-loop-word l =
    (l.at ≤ length l.text) × (l.cells ≤ MAX_TABLE_CELLS) × (l.cells ≡ cells_of l.tables.items) × HoldsNames l.names l.tables.items
    × (read (length l.text) (tokens_at l.text 0) (Between []) ≡ read (length l.text) (tokens_at l.text l.at) (Between l.tables.items))

abbrev pub decreases-loop-word : goal.decreases-loop-word
decreases-loop-word l = length l.text - l.at
