use Rattle.std.proofs.Common.{ap, ◌∙◌}
use Rattle.tpal_tool.proofs.outcome_text.counts_line.Goals as goal

pub returns : goal.returns
returns c = ap (λ bytes. bytes.items) c.into_bytes.ensures.value ∙ c.in_ok-text.ensures.ok
