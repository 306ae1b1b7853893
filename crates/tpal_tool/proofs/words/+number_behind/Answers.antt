use Rattle.std.proofs.Common.{◌≡◌, ◌∷◌, ap, sym, ◌∙◌, rules}
use Rattle.tpal_tool.specs.Words.{spelled}
use Rattle.tpal_tool.proofs.Spelling.{too_great}
use Rattle.tpal_tool.proofs.words.+number_behind.Goals as goal

pub returns-then-number-most-clause-number : goal.returns-then-number-most-clause-number
returns-then-number-most-clause-number t c =
    let whole : c.args.digits.now ≡ c.in-Some.digit.now ∷ c.in-Some.rest.now = search rules in
    too_great c.args.most c.args.before c.in-Some.digit.now c.in-Some.rest.now (search rules) (search rules)
    ∙ ap (spelled c.args.most c.args.before) (sym whole)
