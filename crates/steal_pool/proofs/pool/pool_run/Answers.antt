use Rattle.std.proofs.Common.{sym, subst, ap, ◌∙◌}
use Rattle.tpal_machine.specs.State.{State, first_state}
use Rattle.steal_pool.specs.Facts.{Owed}
use Rattle.steal_pool.proofs.Gathering.{one_outcome}
use Rattle.steal_pool.proofs.pool.pool_run.Goals as goal

-- the first task owes one ending
pub returns-clause-owed : goal.returns-clause-owed
returns-clause-owed g c e owes =
    let code = c.args.code.now in
    let heartbeat = c.args.job.heartbeat in
    let is =
    c.in_ok-task.ensures.first
    ∙ ap (λ tables. first_state tables c.args.job.fuel) c.into_vec.ensures in
    one_outcome code heartbeat c.in_ok-task.task (λ r. r.0.outcome) c.run_from.result e
    (subst (λ (s : State). Owed code heartbeat s e) (sym is) owes) c.run_from.ensures.owed
