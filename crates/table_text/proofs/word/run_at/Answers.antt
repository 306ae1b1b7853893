use Rattle.std.proofs.Common.{arith, sym, ◌∙◌, ◌≡◌, ◌-◌, ◌+◌, get_or}
use Rattle.std.specs.Char.{is_ascii_digit, digit_value}
use Rattle.std.proofs.lemmas.Str.{digit_value_digit}
use Rattle.table_text.proofs.Ranges.{list_all_more, run_value_more}
use Rattle.table_text.proofs.word.run_at.Goals as goal

pub loop-at-preserved : goal.loop-at-preserved
loop-at-preserved c =
    let shown : digit_value (get_or c.args.text.now c.loop-at.at 0) + 48 ≡ get_or c.args.text.now c.loop-at.at 0 =
    digit_value_digit (get_or c.args.text.now c.loop-at.at 0) c.if-is_ascii_digit.ensures.cases in
    let digit : get_or c.args.text.now c.loop-at.at 0 - 48 ≡ digit_value (get_or c.args.text.now c.loop-at.at 0) = omega arith in (
      omega arith,
      omega arith,
      list_all_more is_ascii_digit c.args.text.now c.args.from c.loop-at.at (omega arith) (omega arith) c.loop-at.invariant.2 (sym c.if-is_ascii_digit.ensures.value),
      c.with_digit-value.ensures ∙ run_value_more c.args.text.now c.args.from c.loop-at.at _ c.loop-at.value _ (omega arith) (omega arith) c.loop-at.invariant.3 digit,
    )
