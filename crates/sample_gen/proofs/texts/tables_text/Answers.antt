use Rattle.std.proofs.Common.{◌≡◌, ◌∙◌, ℕ, ◌++◌, ap, sym, arith, append-nil, zero-mul}
use Rattle.std.specs.List.{flat_map}
use Rattle.table_text.specs.RowText.{row_text}
use Rattle.sample_gen.specs.Cells.{state_after, sample_rows, row_cells}
use Rattle.sample_gen.specs.Texts.{head_line, sample_tables}
use Rattle.sample_gen.proofs.Rows.{row_is, behind_row, line_more}
use Rattle.sample_gen.proofs.texts.tables_text.Goals as goal

pub loop-row-init : goal.loop-row-init
unfolding state_after
loop-row-init c = record {
  text = c.in_ok-text.ensures ∙ sym (append-nil (head_line c.args.rows c.args.cols));
  state = ap (state_after c.args.seed) (sym (zero-mul c.args.cols));
}

pub loop-row-preserved : goal.loop-row-preserved
loop-row-preserved c =
    let row : c.deref.result.now ≡ row_cells c.args.seed c.args.cols c.loop-row._row
    = c.deref.ensures.value
    ∙ row_is _ _ _ _ _ c.in_ok-state.ensures.cells c.loop-row.invariant.state in
    record {
      text = c.in_ok-push_row_text.ensures.line
          ∙ line_more (head_line c.args.rows c.args.cols) _ c.args.seed c.loop-row._row c.args.cols _
          c.loop-row.invariant.text row;
      state = c.in_ok-state.ensures.state
          ∙ ap (λ (x : ℕ). state_after x c.args.cols) c.loop-row.invariant.state
          ∙ behind_row c.args.seed c.args.cols c.loop-row._row;
    }

pub returns : goal.returns
unfolding sample_tables
returns c =
    let all : c.loop-row._row ≡ c.args.rows = omega arith in
    c.loop-row.invariant.text
    ∙ ap (λ (x : ℕ). head_line c.args.rows c.args.cols ++ flat_map row_text (sample_rows c.args.seed x c.args.cols)) all
