use Rattle.std.proofs.Common.{ap, sym, subst, ◌∙◌, false, arith}
use Rattle.tpal_machine.specs.declared.ends.Ending.TheVariants.{Root}
use Rattle.tpal_machine.specs.Owes.{Owes}
use Rattle.tpal_machine.specs.State.{State, first_state}
use Rattle.schedule_core.specs.Solo.{SoloRun}
use Rattle.schedule_core.proofs.Sharing.{solo_shared, shared_end, job_paid}
use Rattle.schedule_core.proofs.Soloing.{owes_ends}
use Rattle.schedule_core.proofs.solo.solo_run.Goals as goal

pub invariant_of-run_turns : goal.invariant_of-run_turns
invariant_of-run_turns c =
    let first = c.in_ok-task.ensures.first ∙ ap (λ t. first_state t c.args.job.fuel) c.into_vec.ensures in
    record {
      ends = owes_ends c.args.code.now c.args.job.heartbeat c.args.job.forks c.in_ok-task.task (ap (λ (s : State). s.pending) first) (ap (λ (s : State). s.goal) first)
          (c.requires.owes.0, subst (λ (s : State). Owes c.args.code.now c.args.job.heartbeat false 0 s (Root c.requires.owes.0)) (sym first) c.requires.owes.1);
    }

pub returns-clause-run : goal.returns-clause-run
returns-clause-run c =
    let first = c.in_ok-task.ensures.first ∙ ap (λ t. first_state t c.args.job.fuel) c.into_vec.ensures in
    subst (λ (s : State). SoloRun c.args.code.now c.args.job.heartbeat c.args.job.forks s c.in_ok-outcome.outcome c.in_ok-outcome.tally) first c.in_ok-outcome.ensures.run

pub returns-clause-events : goal.returns-clause-events
returns-clause-events c =
    let first = c.in_ok-task.ensures.first ∙ ap (λ t. first_state t c.args.job.fuel) c.into_vec.ensures in
    solo_shared c.args.code.now c.blocks-blocks.ensures.right c.args.job.heartbeat c.args.job.forks c.args.job.fuel c.args.job.tables c.requires.owes.0 _ _ c.requires.owes.1
    (subst (λ (s : State). SoloRun c.args.code.now c.args.job.heartbeat c.args.job.forks s c.in_ok-outcome.outcome c.in_ok-outcome.tally) first c.in_ok-outcome.ensures.run)

pub returns-clause-beats : goal.returns-clause-beats
returns-clause-beats c =
    let first = c.in_ok-task.ensures.first ∙ ap (λ t. first_state t c.args.job.fuel) c.into_vec.ensures in
    let run = solo_shared c.args.code.now c.blocks-blocks.ensures.right c.args.job.heartbeat c.args.job.forks c.args.job.fuel c.args.job.tables c.requires.owes.0 _ _ c.requires.owes.1
    (subst (λ (s : State). SoloRun c.args.code.now c.args.job.heartbeat c.args.job.forks s c.in_ok-outcome.outcome c.in_ok-outcome.tally) first c.in_ok-outcome.ensures.run) in
    let few = c.requires.job.forks in
    (shared_end c.args.code.now c.blocks-blocks.ensures.right c.args.job.heartbeat c.args.job.forks c.args.job.fuel c.args.job.tables c.requires.owes.0 _ _ (job_paid c.args.job.forks c.args.job.heartbeat few c.requires.job.heartbeat.1) (omega (arith, few)) c.requires.owes.1 run).0

pub returns-clause-paid : goal.returns-clause-paid
returns-clause-paid c =
    let first = c.in_ok-task.ensures.first ∙ ap (λ t. first_state t c.args.job.fuel) c.into_vec.ensures in
    let run = solo_shared c.args.code.now c.blocks-blocks.ensures.right c.args.job.heartbeat c.args.job.forks c.args.job.fuel c.args.job.tables c.requires.owes.0 _ _ c.requires.owes.1
    (subst (λ (s : State). SoloRun c.args.code.now c.args.job.heartbeat c.args.job.forks s c.in_ok-outcome.outcome c.in_ok-outcome.tally) first c.in_ok-outcome.ensures.run) in
    let few = c.requires.job.forks in
    (shared_end c.args.code.now c.blocks-blocks.ensures.right c.args.job.heartbeat c.args.job.forks c.args.job.fuel c.args.job.tables c.requires.owes.0 _ _ (job_paid c.args.job.forks c.args.job.heartbeat few c.requires.job.heartbeat.1) (omega (arith, few)) c.requires.owes.1 run).1
