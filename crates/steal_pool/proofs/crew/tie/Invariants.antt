use Rattle.std.proofs.Common.{◌≡◌, length}
use Rattle.steal_pool.proofs.Tying.{AreTiedTo}
use Rattle.steal_pool.proofs.crew.tie.Given as goal

abbrev pub invariant-loop-number : goal.invariant-loop-number
invariant-loop-number g l =
    (length l.sources ≡ length l.initial.sources) × AreTiedTo l.number l.sources
