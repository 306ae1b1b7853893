use Rattle.std.proofs.Common.{◌∙◌, ap, ◌+◌, slice_set, slice_index_or, arith}
use Rattle.stack_marks.proofs.Moving.{one_more_moved}
use Rattle.stack_marks.proofs.cuts.lower.Goals as goal

pub loop-index-preserved : goal.loop-index-preserved
loop-index-preserved c =
    let i = c.loop-index.index in
    let cells = c.args.cells.now.items in
    let x = c.index.result.now in
    ap (λ now. slice_set now i x) c.loop-index.invariant
    ∙ one_more_moved cells c.args.from i x (omega (arith, c))
    (c.index.ensures ∙ ap (λ now. slice_index_or now (c.args.from + i) x) c.loop-index.invariant)
