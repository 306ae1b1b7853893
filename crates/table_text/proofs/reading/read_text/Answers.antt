use Rattle.std.proofs.Common.{◌∙◌, ap, length}
use Rattle.table_text.specs.Reading.{read, Between}
use Rattle.table_text.proofs.reading.read_text.Goals as goal

pub returns-clause-tables : goal.returns-clause-tables
unfolding read
returns-clause-tables c =
    c.loop-word.invariant.4
    ∙ ap (λ tokens. read (length c.args.text.now) tokens (Between c.loop-word.tables.items)) c.in_default.ensures.none
