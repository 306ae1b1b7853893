use Rattle.std.proofs.Common.{◌≡◌, ◌-◌}
use Rattle.tpal_machine.specs.Effect.{appended, row_numbers, numbers_from}
use Rattle.tpal_machine.proofs.Lines.{value_in}
use Rattle.tpal_machine.proofs.output.push_row.Given as goal

-- the numbers so far and those of the columns left are those of the row
abbrev pub invariant-loop-col : goal.invariant-loop-col
invariant-loop-col l = appended l.fn.row.items (row_numbers l.held l.at) ≡ appended l.row.items (numbers_from (value_in l.held l.at) l.col (l.held.cols - l.col))
