use Rattle.std.proofs.Common.{sym, ap, ◌∙◌, subst, length}
use Rattle.table_text.specs.Wanted.{ANumber, misfit}
use Rattle.table_text.specs.Reading.{tokens_at, TokenMisfits}
use Rattle.table_text.specs.declared.fault.TableFault.TheVariants.{Form}
use Rattle.table_text.proofs.Tokens.{tokens_at-end}
use Rattle.table_text.proofs.number.read_number.Goals as goal

pub returns-then-start-text-clause-fault : goal.returns-then-start-text-clause-fault
returns-then-start-text-clause-fault c =
    subst (λ tokens. TokenMisfits (length c.args.text.now) (misfit ANumber) tokens (Form c.skip_blanks-start.result))
    (sym (sym c.skip_blanks-start.ensures.tokens ∙ ap (tokens_at c.args.text.now) c.if-start-text.true ∙ tokens_at-end c.args.text.now))
    (ap Form c.if-start-text.true)
