use Rattle.std.proofs.Common.{◌≡◌, replicate}
use Rattle.schedule_core.specs.Standing.{no_worker}
use Rattle.schedule_core.proofs.first.resting.Given as goal

-- the workers so far
abbrev pub invariant-loop-at : goal.invariant-loop-at
invariant-loop-at l = l.all.items ≡ replicate l._at no_worker
