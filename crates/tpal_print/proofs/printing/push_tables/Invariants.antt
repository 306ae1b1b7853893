use Rattle.std.proofs.Common.{◌≡◌, ◌++◌, drop}
use Rattle.tpal_syntax.specs.Text.{tables_text}
use Rattle.tpal_print.proofs.printing.push_tables.Given as goal

-- the number of the next table, and what is written with what is left
abbrev pub invariant-loop-table : goal.invariant-loop-table
invariant-loop-table l = record {
  counted : l.number ≡ l.table-index;
  written : l.out.items ++ tables_text l.table-index (drop l.table-index l.tables) ≡ l.fn.out.items ++ tables_text 0 l.tables;
}
