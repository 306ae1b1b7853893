use Rattle.std.proofs.Common.{◌++◌, sym, ap, ◌∙◌, append_assoc}
use Rattle.loop_meaning.proofs.Found.{rows_step}
use Rattle.loop_meaning.proofs.simple.push_table.Goals as goal

pub loop-k-preserved : goal.loop-k-preserved
loop-k-preserved c =
    let step = rows_step c.args.table.now.rows c.loop-k.k c.args.table.now.cols c.loop-k.rest.now c.loop-k-test.true in
    rw (c.in_ok-push_row_text.ensures.line, c.split_at.ensures.front, c.split_at.ensures.back, c.min-n.ensures)
    (append_assoc c.loop-k.out.items _ _ ∙ ap (λ r. c.loop-k.out.items ++ r) (sym step) ∙ c.loop-k.invariant)
