use Rattle.std.proofs.Common.{◌≡◌, length}
use Rattle.tpal_verify.specs.Rules.{leads_to_fork}
use Rattle.tpal_verify.proofs.rules.leads_to_fork.Given as goal

-- what is left decides
abbrev pub invariant-loop-instr : goal.invariant-loop-instr
invariant-loop-instr l = leads_to_fork l.r l.rest ≡ leads_to_fork l.r l.fn.body

abbrev pub decreases-loop-instr : goal.decreases-loop-instr
decreases-loop-instr l = length l.rest
