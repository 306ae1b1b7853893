use Rattle.std.proofs.Common.{◌≡◌, ◌+◌, ◌≤◌, drop}
use Rattle.std.specs.Prelude.{min}
use Rattle.schedule_core.specs.Core.{top}
use Rattle.schedule_core.specs.Standing.{all_beats}
use Rattle.schedule_core.proofs.config.Config.beats.Given as goal

-- the beats so far and those of the workers left
abbrev pub invariant-loop-worker : goal.invariant-loop-worker
invariant-loop-worker l = (min (l.beats + all_beats (drop l.worker-index l.self.workers)) top ≡ min (all_beats l.self.workers) top) × (l.beats ≤ top)
