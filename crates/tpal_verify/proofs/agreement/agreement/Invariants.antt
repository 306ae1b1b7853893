use Rattle.std.proofs.Common.{length}
use Rattle.tpal_verify.specs.Rounds.{with_join, all_joins}
use Rattle.tpal_verify.specs.Agreement.{StandsFor}
use Rattle.tpal_verify.proofs.agreement.agreement.Given as goal

-- one join for those so far, with what is left, stands for all
abbrev pub invariant-loop-trace : goal.invariant-loop-trace
invariant-loop-trace l = StandsFor (with_join l.kinds (all_joins l.rest)) (all_joins l.fn.traces)

abbrev pub decreases-loop-trace : goal.decreases-loop-trace
decreases-loop-trace l = length l.rest
