use Rattle.tpal_verify.specs.Rounding.{Stands}
use Rattle.tpal_verify.proofs.rounds.least_traces.Given as goal

abbrev pub invariant-loop-round : goal.invariant-loop-round
invariant-loop-round l = Stands l.ground l.left l.round

abbrev pub decreases-loop-round : goal.decreases-loop-round
decreases-loop-round l = l.left
