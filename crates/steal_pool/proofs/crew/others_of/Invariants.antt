use Rattle.steal_pool.proofs.Tying.{ReachesTo}
use Rattle.steal_pool.proofs.crew.others_of.Given as goal

abbrev pub invariant-loop-step : goal.invariant-loop-step
invariant-loop-step g l = ReachesTo l.number l.step l.sources l.others.items
