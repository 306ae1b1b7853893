-- What is told of accepted code's run by one worker: where it ends, that its fault is an allowed one,
-- and that its tasks are paid for.
use Rattle.std.proofs.Common.{◌≡◌, ℕ, zero, suc, ◌+◌, ◌*◌, ◌<◌, ◌≤◌, ◌⊎◌, inl, inr, Bool, true, false}
use Rattle.std.proofs.Common.{cond, None, Some, List, [], ◌∷◌, length, refl, ap, subst, ◌∙◌}
use Rattle.std.proofs.Common.{arith}
use Rattle.std.proofs.Math.Nat.{min-le_left}
use Rattle.std.specs.Prelude.{◌-◌, ◌^◌, nat_lt}
use Rattle.tp_value.specs.declared.values.Outcome.{Outcome}
use Rattle.tpal_syntax.specs.Listing.{Listing}
use Rattle.tpal_machine.specs.declared.ends.Ending.{Ending}
use Rattle.tpal_machine.specs.declared.ends.Ending.TheVariants as ending
use Rattle.tpal_machine.specs.declared.ends.Side.{Side}
use Rattle.tpal_machine.specs.declared.faults.Fault.{Fault}
use Rattle.tpal_machine.specs.Effect.{answered}
use Rattle.tpal_machine.specs.Merge as merging
use Rattle.tpal_machine.specs.Merge.{Joined, joined}
use Rattle.tpal_machine.specs.State.{State}
use Rattle.tpal_machine.specs.Step.{Step, Goes, Beats, Ends, Asks, Forks, Stuck, Strays, step}
use Rattle.schedule_core.specs.declared.lanes.Opened.{Opened}
use Rattle.schedule_core.specs.declared.lanes.Opened.TheVariants.{Waiting, Half}
use Rattle.schedule_core.specs.declared.lanes.Tally.{Tally}
use Rattle.schedule_core.specs.Core.{top}
use Rattle.schedule_core.specs.Sharing.{CountsAre}
use Rattle.schedule_core.specs.Sound.{SeatOwes, total, saved}
use Rattle.schedule_core.specs.Solo.{Lane, SoloState, Runs, Over, Lost, after_step}
use Rattle.schedule_core.specs.Solo.{arrived_with, arrived_at, on_joined, met, records, runs, turned}
use Rattle.schedule_core.specs.Solo.{one_skipped}
use Rattle.schedule_core.proofs.Reaching as reaching
use Rattle.tpal_verify.specs.declared.report.ExecEnd.TheVariants as how
use Rattle.tpal_verify.specs.declared.report.ExecReport.{ExecReport}
use Rattle.tpal_verify.specs.Exec.{exec_from, report_of, stuck_at, ExecEvents, WhereStuck}
use Rattle.tpal_verify.specs.Fits.{fitting}
use Rattle.tpal_verify.specs.Safe.{IsAllowed}
use Rattle.tpal_verify.proofs.Executing.{exec_on, exec_over, exec_spent, exec_stuck}
use Rattle.tpal_verify.proofs.FirstTask.{stuck_by}
use Rattle.tpal_verify.proofs.Reached.{IsSafeFrom, IsTaken, Reached, strays_not, step_reached, sound_at}

-- ---- the instructions that were executed

abbrev pub executed : SoloState → ℕ
executed (Runs lane) = lane.tally.instructions
executed (Over outcome tally) = tally.instructions
executed Lost = 0

module _ (code : Listing) where
  end_executed : (opened : List Opened) (tally : Tally) (e : Ending) → ((side : Side) → executed (arrived_at opened code tally side) ≤ tally.instructions) → executed (arrived_with e tally (λ side. arrived_at opened code tally side)) ≤ tally.instructions
  end_executed opened tally (ending.Root outcome) each = omega arith
  end_executed opened tally (ending.At k name side) each = each side

  joined_executed : (both : Joined) (opened : List Opened) (tally : Tally) → ((e : Ending) → executed (arrived_with e tally (λ side. arrived_at opened code tally side)) ≤ tally.instructions) → executed (on_joined both opened tally (λ e. arrived_with e tally (λ side. arrived_at opened code tally side))) ≤ tally.instructions
  joined_executed (merging.Goes task) opened tally each = omega arith
  joined_executed (merging.Ends e) opened tally each = each e

  met_executed : (one : Opened) (opened : List Opened) (tally : Tally) (side : Side) → ((e : Ending) → executed (arrived_with e tally (λ other. arrived_at opened code tally other)) ≤ tally.instructions) → executed (met one code side opened tally (λ e. arrived_with e tally (λ other. arrived_at opened code tally other))) ≤ tally.instructions
  met_executed (Waiting rest child) opened tally side each = omega arith
  met_executed (Half rest kept) opened tally side each = joined_executed (joined code rest kept side) opened tally each

  arrived_executed : (opened : List Opened) (tally : Tally) (side : Side) → executed (arrived_at opened code tally side) ≤ tally.instructions
  arrived_executed [] tally side = omega arith
  arrived_executed (one ∷ opened) tally side = met_executed one opened tally side (λ e. end_executed opened tally e (λ other. arrived_executed opened tally other))

  asked_executed : (room : Bool) (waits : State) (opened : List Opened) (tally : Tally) → executed (cond room (runs (answered (Some (length opened)) waits) opened tally) (runs (answered None waits) opened (one_skipped tally))) ≤ tally.instructions
  asked_executed true waits opened tally = omega arith
  asked_executed false waits opened tally = omega arith

  -- one more at most by a step, and all that it leads to
  step_executed : (one : Step) (opened : List Opened) (tally : Tally) → executed (after_step code one opened tally) ≤ tally.instructions + 1
  step_executed (Goes after) opened tally = min-le_left (tally.instructions + 1) (2 ^ 64 - 1)
  step_executed (Beats after) opened tally = min-le_left (tally.instructions + 1) (2 ^ 64 - 1)
  step_executed (Ends e) opened tally =
      let one = min-le_left (tally.instructions + 1) (2 ^ 64 - 1) in
      let few = end_executed opened (turned 1 0 tally) e (λ side. arrived_executed opened (turned 1 0 tally) side) in
      omega (arith, one, few)
  step_executed (Asks waits) opened tally =
      let one = min-le_left (tally.instructions + 1) (2 ^ 64 - 1) in
      let few = asked_executed (nat_lt (length opened) records) waits opened (turned 1 0 tally) in
      omega (arith, one, few)
  step_executed (Forks parts) opened tally = min-le_left (tally.instructions + 1) (2 ^ 64 - 1)
  step_executed (Stuck fault) opened tally = omega arith
  step_executed Strays opened tally = omega arith

-- ---- what is told

module _ (code : Listing) (heartbeat forks : ℕ) (task : State) (safe : IsSafeFrom code heartbeat forks task) where
  -- the instructions of a sound configuration pay for its tasks
  paid : (stage : SoloState) (tally : Tally) (r : Reached code heartbeat forks task safe stage) → CountsAre tally r.last → tally.instructions < top → tally.tasks * heartbeat ≤ tally.instructions
  paid stage tally r counts few = subst (λ (k : ℕ). tally.tasks * heartbeat ≤ k) counts.instructions (subst (λ (k : ℕ). k * heartbeat ≤ r.last.instructions) counts.tasks (by (sound_at code heartbeat forks task safe r.events r.last r.run).counts.paid))
    where
      kept : ℕ
      kept = total 1 (λ w. saved (fitting code safe.shapes heartbeat) heartbeat (r.last.seats w))

      by : (r.last.tasks * heartbeat + kept ≤ r.last.instructions) ⊎ (r.last.instructions ≡ top) → r.last.tasks * heartbeat ≤ r.last.instructions
      by (inl le) = omega (arith, le)
      by (inr full) = let same = counts.instructions in absurd (omega (arith, full, same, few))

  stuck_allowed : (lane : Lane) (r : Reached code heartbeat forks task safe (Runs lane)) (allowed : Bool) (fault : Fault) → step code heartbeat allowed lane.task ≡ Stuck fault → IsAllowed fault
  stuck_allowed lane r allowed fault is =
      let sound = sound_at code heartbeat forks task safe r.events r.last r.run in
      let owes = subst (λ x. SeatOwes (fitting code safe.shapes heartbeat) sound.promise x) r.at.seat (sound.owed.seats 0) in
      stuck_by code safe.shapes safe.meets safe.right heartbeat allowed lane.task fault owes.knows owes.keeps.runs is

  -- what is told of a run from a stage on
  pub record Told (left : ℕ) (stage : SoloState) : Type 0 where
    pub report : ExecReport
    pub is : exec_from left code heartbeat forks stage ≡ Some report
    pub events : ExecEvents code heartbeat forks task report
    pub allowed : WhereStuck report.«end» IsAllowed
    pub paid_for : report.tasks * heartbeat ≤ report.instructions

  over_told : (left : ℕ) (outcome : Outcome) (tally : Tally) (r : Reached code heartbeat forks task safe (Over outcome tally)) → tally.instructions < top → Told left (Over outcome tally)
  over_told left outcome tally r few = record {
    report = report_of (how.Ended outcome) tally;
    is = exec_over code heartbeat forks left outcome tally;
    events = record { events = r.events; last = r.last; run = r.run; claims = r.claims; ends = r.at.0; tasks_are = r.at.1.tasks; instructions_are = r.at.1.instructions };
    allowed = tt;
    paid_for = paid (Over outcome tally) tally r r.at.1 few;
  }

  spent_told : (lane : Lane) (r : Reached code heartbeat forks task safe (Runs lane)) → lane.tally.instructions < top → Told 0 (Runs lane)
  spent_told lane r few = record {
    report = report_of how.Spent lane.tally;
    is = exec_spent code heartbeat forks lane;
    events = record {
      events = r.events;
      last = r.last;
      run = r.run;
      claims = r.claims;
      ends = record { task = lane.task; due = r.at.due; seat = r.at.seat; unfinished = r.at.unfinished };
      tasks_are = r.at.counts.tasks;
      instructions_are = r.at.counts.instructions;
    };
    allowed = tt;
    paid_for = paid (Runs lane) lane.tally r r.at.counts few;
  }

  stuck_told : (left : ℕ) (lane : Lane) (r : Reached code heartbeat forks task safe (Runs lane)) (fault : Fault) → step code heartbeat (nat_lt lane.tally.beats forks) lane.task ≡ Stuck fault → lane.tally.instructions < top → Told (suc left) (Runs lane)
  stuck_told left lane r fault is few = record {
    report = stuck_at fault lane;
    is = exec_stuck code heartbeat forks left lane fault is;
    events = record {
      events = r.events;
      last = r.last;
      run = r.run;
      claims = r.claims;
      ends = record {
        task = lane.task;
        due = r.at.due;
        seat = r.at.seat;
        stuck = ap (λ b. step code heartbeat b lane.task) (reaching.allowed_is code heartbeat forks lane r.last r.at) ∙ is;
        block_is = refl;
        at_is = refl;
      };
      tasks_are = r.at.counts.tasks;
      instructions_are = r.at.counts.instructions;
    };
    allowed = stuck_allowed lane r (nat_lt lane.tally.beats forks) fault is;
    paid_for = paid (Runs lane) lane.tally r r.at.counts few;
  }

  abbrev Tells : ℕ → Type 0
  Tells left = (stage : SoloState) → Reached code heartbeat forks task safe stage → executed stage + left < top → Told left stage

  on_told : (left : ℕ) (lane : Lane) (one : Step) → step code heartbeat (nat_lt lane.tally.beats forks) lane.task ≡ one → IsTaken one → Told left (after_step code one lane.opened lane.tally) → Told (suc left) (Runs lane)
  on_told left lane one is taken later = record { report = later.report; is = exec_on code heartbeat forks left lane one is taken ∙ later.is; events = later.events; allowed = later.allowed; paid_for = later.paid_for }

  taken_told : (left : ℕ) → Tells left → (lane : Lane) → Reached code heartbeat forks task safe (Runs lane) → (one : Step) → step code heartbeat (nat_lt lane.tally.beats forks) lane.task ≡ one → IsTaken one → lane.tally.instructions + suc left < top → Told (suc left) (Runs lane)
  taken_told left each lane r one is taken few =
      let more = step_executed code one lane.opened lane.tally in
      on_told left lane one is taken (each (after_step code one lane.opened lane.tally) (step_reached code heartbeat forks task safe lane r one is taken) (omega (arith, more, few)))

  by_step : (left : ℕ) → Tells left → (lane : Lane) → Reached code heartbeat forks task safe (Runs lane) → (one : Step) → step code heartbeat (nat_lt lane.tally.beats forks) lane.task ≡ one → lane.tally.instructions + suc left < top → Told (suc left) (Runs lane)
  by_step left each lane r (Goes after) is few = taken_told left each lane r (Goes after) is tt few
  by_step left each lane r (Beats after) is few = taken_told left each lane r (Beats after) is tt few
  by_step left each lane r (Ends e) is few = taken_told left each lane r (Ends e) is tt few
  by_step left each lane r (Asks waits) is few = taken_told left each lane r (Asks waits) is tt few
  by_step left each lane r (Forks parts) is few = taken_told left each lane r (Forks parts) is tt few
  by_step left each lane r (Stuck fault) is few = stuck_told left lane r fault is (omega (arith, few))
  by_step left each lane r Strays is few = absurd (strays_not code heartbeat forks task safe (nat_lt lane.tally.beats forks) lane r is)

  -- a run is told
  pub tells : (left : ℕ) → Tells left
  tells left (Over outcome tally) r few = over_told left outcome tally r (omega (arith, few))
  tells left Lost r few = absurd r.at
  tells zero (Runs lane) r few = spent_told lane r (omega (arith, few))
  tells (suc left) (Runs lane) r few = by_step left (tells left) lane r (step code heartbeat (nat_lt lane.tally.beats forks) lane.task) refl few
