use Rattle.std.proofs.Common.{◌≡◌, ◌++◌, ◌*◌}
use Rattle.std.specs.List.{flat_map}
use Rattle.table_text.specs.RowText.{row_text}
use Rattle.sample_gen.specs.Cells.{state_after, sample_rows}
use Rattle.sample_gen.specs.Texts.{head_line}
use Rattle.sample_gen.proofs.texts.tables_text.Given as goal

abbrev pub invariant-loop-row : goal.invariant-loop-row
invariant-loop-row l = record {
  text : l.text.items ≡ head_line l.rows l.cols ++ flat_map row_text (sample_rows l.seed l._row l.cols);
  state : l.state ≡ state_after l.seed (l._row * l.cols);
}
