use Rattle.std.proofs.Common.{arith, sym, ap, not}
use Rattle.table_text.specs.Token.{is_token_byte}
use Rattle.table_text.proofs.Ranges.{list_all_more}
use Rattle.table_text.proofs.word.skip_word.Goals as goal

pub loop-at-preserved : goal.loop-at-preserved
loop-at-preserved c = (
  omega arith,
  omega arith,
  list_all_more is_token_byte c.args.text.now c.args.from c.loop-at.at (omega arith) (omega arith) c.loop-at.invariant.2 (sym (ap not c.if-not-is_blank.ensures)),
)
