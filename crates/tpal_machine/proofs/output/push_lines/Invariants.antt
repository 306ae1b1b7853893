use Rattle.std.proofs.Common.{◌≡◌, ◌-◌}
use Rattle.tpal_machine.specs.Effect.{appended, table_lines, rows_text}
use Rattle.tpal_machine.proofs.output.push_lines.Given as goal

-- the lines so far and those of the rows left are those of the table
abbrev pub invariant-loop-at : goal.invariant-loop-at
invariant-loop-at l = appended l.fn.output.items (table_lines l.held) ≡ appended l.output.items (rows_text l.held l.at (l.held.rows - l.at))
