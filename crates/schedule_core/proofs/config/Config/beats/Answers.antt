use Rattle.std.proofs.Common.{arith, ap, length, min, ◌∙◌}
use Rattle.schedule_core.specs.Core.{top}
use Rattle.schedule_core.specs.Standing.{Standing, all_beats}
use Rattle.schedule_core.proofs.Beats.{beats_end, all_total}
use Rattle.schedule_core.proofs.config.Config.beats.Goals as goal

pub returns : goal.returns
returns c = beats_end c.loop-worker.beats (min (all_beats c.args.self.now.workers) top) c.args.self.now.workers c.loop-worker.worker-index c.loop-worker.invariant.1 (omega (arith, c.loop-worker-test.false, c.deref-worker-items.ensures.len, ap (λ (s : Standing). length s.workers) c.self.view_is, ap length c.deref-worker-items.ensures.value)) c.loop-worker.invariant.0
    ∙ ap (λ z. min z top) (all_total c.args.self.now.workers)
