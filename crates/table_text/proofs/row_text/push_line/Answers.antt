use Rattle.std.proofs.Common.{rules, length, pos, get_or, ◌∙◌, ◌<◌, arith}
use Rattle.std.proofs.Common.{SFits, w64}
use Rattle.std.proofs.lemmas.Int.{to_z-of_z}
use Rattle.std.specs.Fmt.{signed_decimal}
use Rattle.table_text.proofs.Rows.{line_more, take_kept}
use Rattle.table_text.proofs.row_text.push_line.Goals as goal

pub returns-in_err-push_number-clause-kept : goal.returns-in_err-push_number-clause-kept
returns-in_err-push_number-clause-kept c =
    take_kept _ _ _ _ c.loop-column.invariant c.in_err-push_number.ensures.kept

pub loop-column-preserved : goal.loop-column-preserved
loop-column-preserved c =
    let within : c.loop-column.column < length c.args.row.now = omega arith in
    let fits : SFits w64 (get_or c.args.row.now c.loop-column.column (pos 0)) = search rules in
    c.in_ok-push_number.ensures.number
    ∙ simp to_z-of_z (line_more signed_decimal c.args.row.now c.loop-column.column c.args.out.now.items _ within c.loop-column.invariant)
