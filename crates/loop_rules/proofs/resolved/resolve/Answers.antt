use Rattle.std.proofs.Common.{◌∙◌, sym}
use Rattle.loop_rules.proofs.First.{nothing_broken, first_broken}
use Rattle.loop_rules.proofs.resolved.resolve.Goals as goal

pub invariant_of-result : goal.invariant_of-result
invariant_of-result c = nothing_broken c.args.program (sym c.in-None.is ∙ c.in_ok-first_fault.ensures)

pub returns-in-None-clause-resolved : goal.returns-in-None-clause-resolved
returns-in-None-clause-resolved c = nothing_broken c.args.program (sym c.in-None.is ∙ c.in_ok-first_fault.ensures)

pub returns-in-Some-clause-cause : goal.returns-in-Some-clause-cause
returns-in-Some-clause-cause c =
    rw c.number.ensures (first_broken c.args.program c.in-Some.fault (sym c.in-Some.is ∙ c.in_ok-first_fault.ensures))
