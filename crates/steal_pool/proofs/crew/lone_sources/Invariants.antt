use Rattle.std.proofs.Common.{◌≡◌, length}
use Rattle.steal_pool.proofs.crew.lone_sources.Given as goal

abbrev pub invariant-loop-number : goal.invariant-loop-number
invariant-loop-number g l = length l.sources.items ≡ l._number
