use Rattle.std.proofs.Common.{arith, sym, ◌∙◌}
use Rattle.table_text.proofs.Tokens.{tokens_at-blank}
use Rattle.table_text.proofs.word.skip_blanks.Goals as goal

pub loop-at-preserved : goal.loop-at-preserved
loop-at-preserved c = (
  omega arith,
  omega arith,
  tokens_at-blank c.args.text.now c.loop-at.at (omega arith) (sym c.if-is_blank.ensures) ∙ c.loop-at.invariant.2,
)
