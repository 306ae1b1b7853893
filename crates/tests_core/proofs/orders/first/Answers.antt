use Rattle.sum_code.specs.Sum.{prints_sum}
use Rattle.tests_core.proofs.orders.first.Goals as goal

pub returns-clause-sound : goal.returns-clause-sound
returns-clause-sound c =
    c.first.ensures.sound (prints_sum 100)
    (rw c.job_of.ensures (c.sum_is_owed.ensures c.args.plan.heartbeat 1000))
