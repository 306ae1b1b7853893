use Rattle.std.proofs.Common.{arith, sym, ◌∙◌, ◌≡◌, ◌<◌, subst, true, length, get_or}
use Rattle.table_text.specs.Token.{is_blank}
use Rattle.table_text.proofs.Tokens.{tokens_at-word, tokens_at-none}
use Rattle.table_text.proofs.word.next_word.Goals as goal

pub returns-then-at-end-clause-none : goal.returns-then-at-end-clause-none
returns-then-at-end-clause-none c =
    sym c.skip_blanks-at.ensures.tokens
    ∙ tokens_at-none c.args.text.now c.skip_blanks-at.result c.skip_blanks-at.ensures.within c.skip_blanks-at.ensures.stops
    (subst (λ n. n < length c.args.text.now → is_blank (get_or c.args.text.now n 0) ≡ true) (sym c.if-at-end.true)
    c.skip_word-end.ensures.stops)

pub returns-clause-word : goal.returns-clause-word
returns-clause-word c =
    let some : c.skip_blanks-at.result < c.skip_word-end.result = omega arith in
    sym c.skip_blanks-at.ensures.tokens
    ∙ tokens_at-word c.args.text.now c.skip_blanks-at.result c.skip_word-end.result some c.skip_word-end.ensures.within
    c.skip_word-end.ensures.word c.skip_word-end.ensures.stops
