-- A run of accepted code begins: what follows of it by way of all configurations that it leads to.
use Rattle.std.proofs.Common.{◌≡◌, ℕ, ◌*◌, ◌≤◌, List, [], length, Option, Some, refl}
use Rattle.std.proofs.Common.{sym, subst, ◌∙◌, arith}
use Rattle.std.specs.Prelude.{IsSome}
use Rattle.slices.specs.Holding.{Holding}
use Rattle.tp_value.specs.declared.limits.TheConstants.{MAX_FORKS}
use Rattle.tpal_syntax.specs.Conditions.{IsCode}
use Rattle.tpal_syntax.specs.Listing.{Listing}
use Rattle.tpal_machine.specs.State.{first_state}
use Rattle.schedule_core.specs.Core.{first}
use Rattle.schedule_core.specs.Run as running
use Rattle.schedule_core.specs.Solo.{Runs, first_lane}
use Rattle.schedule_core.proofs.Reaching.{stands_first}
use Rattle.tpal_verify.specs.declared.report.ExecReport.{ExecReport}
use Rattle.tpal_verify.specs.declared.report.TheConstants.{MAX_STEPS}
use Rattle.tpal_verify.specs.Breaks.{Accepted}
use Rattle.tpal_verify.specs.Exec.{exec, ExecEvents, WhereStuck}
use Rattle.tpal_verify.specs.Flat.{ground_of}
use Rattle.tpal_verify.specs.Fits.{of_run}
use Rattle.tpal_verify.specs.Rounds.{least}
use Rattle.tpal_verify.specs.Safe.{IsAllowed}
use Rattle.tpal_verify.proofs.Accepting.{least_meets}
use Rattle.tpal_verify.proofs.Reached.{IsSafeFrom, Reached}
use Rattle.tpal_verify.proofs.Safety.{stays_sound}
use Rattle.tpal_verify.proofs.Told.{Told, tells}

some_of : (o : Option ExecReport) (report : ExecReport) → o ≡ Some report → IsSome o
some_of o report is = subst IsSome (sym is) refl

one_report : (report other : ExecReport) → Some report ≡ Some other → report ≡ other
one_report report other is = cc

module _ (code : Listing) (right : IsCode code.tables code.blocks) (accepted : Accepted code) (heartbeat forks fuel : ℕ) (held : List Holding) (few : forks ≤ MAX_FORKS) (sizes : length held ≡ length code.tables) where
  -- all configurations that the first task leads to are sound
  pub safe_from : IsSafeFrom code heartbeat forks (first_state held fuel)
  safe_from = record {
    shapes = least (ground_of code);
    promise = of_run fuel held;
    right = right;
    meets = least_meets code accepted;
    sound = λ events last run. stays_sound code (least (ground_of code)) (least_meets code accepted) right heartbeat forks 64 1 fuel held (omega arith) (omega (arith, few)) sizes last events run;
  }

  pub begins : Reached code heartbeat forks (first_state held fuel) safe_from (Runs (first_lane (first_state held fuel)))
  begins = record { events = []; last = first (first_state held fuel); run = running.here (first (first_state held fuel)); claims = tt; at = stands_first (first_state held fuel) refl refl }

  module _ (steps : ℕ) (within : steps ≤ MAX_STEPS) where
    told : Told code heartbeat forks (first_state held fuel) safe_from steps (Runs (first_lane (first_state held fuel)))
    told = tells code heartbeat forks (first_state held fuel) safe_from steps (Runs (first_lane (first_state held fuel))) begins (omega (arith, within))

    -- the run is told
    pub run_told : IsSome (exec steps code heartbeat forks held fuel)
    run_told = some_of (exec steps code heartbeat forks held fuel) told.report told.is

    module _ (report : ExecReport) (is : exec steps code heartbeat forks held fuel ≡ Some report) where
      same : told.report ≡ report
      same = one_report told.report report (sym told.is ∙ is)

      pub run_events : ExecEvents code heartbeat forks (first_state held fuel) report
      run_events = subst (λ r. ExecEvents code heartbeat forks (first_state held fuel) r) same told.events

      pub run_allowed : WhereStuck report.«end» IsAllowed
      run_allowed = subst (λ (r : ExecReport). WhereStuck r.«end» IsAllowed) same told.allowed

      pub run_paid : report.tasks * heartbeat ≤ report.instructions
      run_paid = subst (λ (r : ExecReport). r.tasks * heartbeat ≤ r.instructions) same told.paid_for
