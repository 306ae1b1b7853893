use Rattle.std.proofs.Common.{◌≡◌, length}
use Rattle.tpal_syntax.specs.Conditions.{input_names}
use Rattle.tpal_asm.specs.Drafts.{is_among}
use Rattle.tpal_asm.proofs.steps.is_input.Given as goal

-- what is left decides
abbrev pub invariant-loop-first : goal.invariant-loop-first
invariant-loop-first l = is_among l.fn.name (input_names l.rest) ≡ is_among l.fn.name (input_names l.fn.tables)

abbrev pub decreases-loop-first : goal.decreases-loop-first
decreases-loop-first l = length l.rest
