-- A solo run is a list of events of the core.
use Rattle.std.proofs.Common.{◌≡◌, ℕ, ◌+◌, ◌*◌, ◌≤◌, inl, false}
use Rattle.std.proofs.Common.{Some, List, [], ◌++◌, refl, sym, subst}
use Rattle.std.proofs.Common.{arith}
use Rattle.std.proofs.Math.Nat.{mul-le-mul_left, mul-le-mul_right}
use Rattle.std.specs.Prelude.{nat_lt}
use Rattle.tp_value.specs.declared.values.Outcome.{Outcome}
use Rattle.tpal_syntax.specs.Conditions.{IsCode}
use Rattle.tpal_syntax.specs.Listing.{Listing}
use Rattle.tpal_machine.specs.declared.ends.Ending.{Ending}
use Rattle.tpal_machine.specs.declared.ends.Ending.TheVariants as ending
use Rattle.tpal_machine.specs.Keeping.{StepKeeps}
use Rattle.tpal_machine.specs.Owed.{owing, TurnOwes, due_after}
use Rattle.tpal_machine.specs.RestState.{RestState}
use Rattle.tpal_machine.specs.Owes.{Owes}
use Rattle.tpal_machine.specs.State.{State, first_state}
use Rattle.slices.specs.Holding.{Holding}
use Rattle.tpal_machine.specs.Step.{Step, Goes, Beats, Ends, Asks, Forks, Stuck, Strays, step}
use Rattle.tpal_machine.specs.Turn.{turned_once}
use Rattle.tpal_machine.specs.Turn as turns
use Rattle.tpal_machine.proofs.Keeping.{step_keeps}
use Rattle.schedule_core.specs.declared.lanes.Tally.{Tally}
use Rattle.schedule_core.specs.Core.{top, Config, Event, first}
use Rattle.schedule_core.specs.Lanes.{EndOwed}
use Rattle.schedule_core.specs.Lanes.{LaneOwed, SoloStateOwed}
use Rattle.schedule_core.specs.Run as running
use Rattle.schedule_core.specs.Run.{CoreRun, EachEvent}
use Rattle.schedule_core.specs.Sharing.{CountsAre}
use Rattle.schedule_core.specs.Sharing.{SharedRun}
use Rattle.schedule_core.specs.Solo.{Lane, SoloState, Runs, Lost, Comes, over, on, records}
use Rattle.schedule_core.specs.Solo.{next, after_step}
use Rattle.schedule_core.specs.Solo.{turned, first_lane}
use Rattle.schedule_core.specs.Solo.{SoloRun}
use Rattle.schedule_core.specs.Sound.{total}
use Rattle.schedule_core.proofs.Ruling.{begins_sound, run_sound, ends_owed}
use Rattle.schedule_core.proofs.Reaching.{Stands, stands_first, Many, Claims, At_stage, Reaches}
use Rattle.schedule_core.proofs.Reaching.{appended, claims_appended, any_run, steps_goes, steps_beats}
use Rattle.schedule_core.proofs.Reaching.{steps_ends, steps_asks, steps_forks}
use Rattle.schedule_core.proofs.Turning.{one_step, never_lost, stopped_owed, ending_arrives}

module _ (code : Listing) (heartbeat forks : ℕ) where
  module _ (right : IsCode code.tables code.blocks) where
    -- what an instruction and all that it leads to give
    record Goes_on (c : Config State RestState Ending) (out : Outcome) (stage : SoloState) : Type 0 where
      reaches : Reaches code heartbeat forks c stage
      owed : SoloStateOwed code heartbeat out stage

    goes_on : (lane : Lane) (c : Config State RestState Ending) (out : Outcome) (at : Stands lane c) (owed : LaneOwed code heartbeat lane out) (one : Step) → step code heartbeat (nat_lt lane.tally.beats forks) lane.task ≡ one → StepKeeps heartbeat lane.task one → TurnOwes code (owing code heartbeat) owed.due owed.ending (turned_once one lane.task) → (after_step code one lane.opened lane.tally ≡ Lost → ⊥) → Goes_on c out (after_step code one lane.opened lane.tally)
    goes_on lane c out at owed (Goes after) is kept owes found = record {
      reaches = steps_goes code heartbeat forks lane c at after is kept;
      owed = stopped_owed code heartbeat (due_after owed.due 0) 1 lane.task lane.opened out (turned 1 0 lane.tally) owed.ending (turns.Pauses after) owed.task.placed owed.more kept owes.stopped;
    }
    goes_on lane c out at owed (Beats after) is kept owes found = record {
      reaches = steps_beats code heartbeat forks lane c at after is kept;
      owed = stopped_owed code heartbeat (due_after owed.due 1) 1 lane.task lane.opened out (turned 1 1 lane.tally) owed.ending (turns.Pauses after) owed.task.placed owed.more kept owes.stopped;
    }
    goes_on lane c out at owed (Ends e) is kept owes found = record {
      reaches = steps_ends code heartbeat forks lane c at e is kept (ending_arrives code heartbeat lane.opened out e (subst (EndOwed code heartbeat lane.opened out) (sym owes.stopped.1) owed.more));
      owed = stopped_owed code heartbeat (due_after owed.due 0) 1 lane.task lane.opened out (turned 1 0 lane.tally) owed.ending (turns.Comes e) owed.task.placed owed.more kept owes.stopped;
    }
    goes_on lane c out at owed (Asks waits) is kept owes found = record {
      reaches = steps_asks code heartbeat forks lane c at waits is kept;
      owed = stopped_owed code heartbeat (due_after owed.due 0) 1 lane.task lane.opened out (turned 1 0 lane.tally) owed.ending (turns.Waits waits) owed.task.placed owed.more kept owes.stopped;
    }
    goes_on lane c out at owed (Forks parts) is kept owes found = record {
      reaches = steps_forks code heartbeat forks lane c at parts is kept;
      owed = stopped_owed code heartbeat (due_after owed.due 0) 1 lane.task lane.opened out (turned 1 0 lane.tally) owed.ending (turns.Parts parts) owed.task.placed owed.more kept owes.stopped;
    }
    goes_on lane c out at owed (Stuck fault) is kept owes found = absurd (found refl)
    goes_on lane c out at owed Strays is kept owes found = absurd (found refl)

    record To_end (c : Config State RestState Ending) (outcome : Outcome) (tally : Tally) : Type 0 where
      events : List Event
      last : Config State RestState Ending
      run : Many code heartbeat forks c events last
      claims : Claims code heartbeat forks run
      outcome_is : last.outcome ≡ Some (ending.Root outcome)
      counts : CountsAre tally last

    lost_not : (n : ℕ) (outcome : Outcome) (tally : Tally) (stage : SoloState) → Comes code heartbeat forks n stage outcome tally → stage ≡ Lost → ⊥
    lost_not n outcome tally stage comes is = never_lost code heartbeat forks right n outcome tally (subst (λ s. Comes code heartbeat forks n s outcome tally) is comes)

    to_end : (n : ℕ) (stage : SoloState) (outcome out : Outcome) (tally : Tally) (c : Config State RestState Ending) → Comes code heartbeat forks n stage outcome tally → At_stage code heartbeat forks stage c → SoloStateOwed code heartbeat out stage → To_end c outcome tally
    to_end n stage outcome out tally c (over _ _) at owed = record { events = []; last = c; run = running.here c; claims = tt; outcome_is = at.0; counts = at.1 }
    to_end n stage outcome out tally c (on k lane _ _ comes) at owed =
        let further = goes_on lane c out at owed (step code heartbeat (nat_lt lane.tally.beats forks) lane.task) refl (step_keeps heartbeat code (nat_lt lane.tally.beats forks) lane.task) (one_step code heartbeat forks right (nat_lt lane.tally.beats forks) owed.due lane.task owed.ending owed.task.owes) (lost_not k outcome tally (next code heartbeat forks lane) comes) in
        let reached = further.reaches in
        let later = to_end k (next code heartbeat forks lane) outcome out tally reached.last comes reached.at further.owed in
        record { events = reached.events ++ later.events; last = later.last; run = appended code heartbeat forks c reached.last later.last reached.events later.events reached.run later.run; claims = claims_appended code heartbeat forks c reached.last later.last reached.events later.events reached.run later.run reached.claims later.claims; outcome_is = later.outcome_is; counts = later.counts }

-- a solo run is a list of events of the core
pub solo_shared : (code : Listing) → IsCode code.tables code.blocks → (heartbeat forks fuel : ℕ) (held : List Holding) (out outcome : Outcome) (tally : Tally) → Owes code heartbeat false 0 (first_state held fuel) (ending.Root out) → SoloRun code heartbeat forks (first_state held fuel) outcome tally → SharedRun code heartbeat forks (first_state held fuel) outcome tally
solo_shared code right heartbeat forks fuel held out outcome tally owes run =
    let task = first_state held fuel in
    let stands : Stands (first_lane task) (first task) = stands_first task refl refl in
    let owed : LaneOwed code heartbeat (first_lane task) out = record { due = false; ending = ending.Root out; task = record { owes = owes; placed = record { place = refl; given = inl refl } }; more = refl } in
    let all = to_end code heartbeat forks right run.instructions (Runs (first_lane task)) outcome out tally (first task) run.comes stands owed in
    record { events = all.events; last = all.last; run = all.run; claims = all.claims; outcome_is = all.outcome_is; counts = all.counts }

-- ---- its counts

-- what holds at its end
pub shared_end : (code : Listing) → IsCode code.tables code.blocks → (heartbeat forks fuel : ℕ) (held : List Holding) (out outcome : Outcome) (tally : Tally) → forks * heartbeat ≤ top → forks ≤ top → Owes code heartbeat false 0 (first_state held fuel) (ending.Root out) → SharedRun code heartbeat forks (first_state held fuel) outcome tally → (tally.tasks + tally.skipped ≡ tally.beats) × (tally.tasks * heartbeat ≤ tally.instructions)
shared_end code right heartbeat forks fuel held out outcome tally paid room owes run =
    let sound = run_sound code right heartbeat forks records 1 (ending.Root out) (first (first_state held fuel)) run.last run.events (omega arith) (omega (arith, room))
    (begins_sound code heartbeat forks records 1 held fuel (ending.Root out) (omega arith) owes) (any_run code heartbeat forks (first (first_state held fuel)) run.last run.events run.run) in
    let few : 1 * forks * heartbeat ≤ top = subst (λ (n : ℕ). n * heartbeat ≤ top) (let same : forks ≡ 1 * forks = omega arith in same) paid in
    let is = ends_owed code heartbeat forks records 1 (ending.Root out) (ending.Root outcome) run.last few sound run.outcome_is in
    let counts = run.counts in
    let a = is.beats in
    let one : total 1 run.last.beats ≡ run.last.beats 0 = single run.last.beats in
    let t = counts.tasks in
    let b = counts.beats in
    let s = counts.skipped in
    (omega (arith, a, one, t, b, s), subst (λ (n : ℕ). tally.tasks * heartbeat ≤ n) counts.instructions (subst (λ (n : ℕ). n * heartbeat ≤ run.last.instructions) counts.tasks is.paid))
  where
    single : (f : ℕ → ℕ) → total 1 f ≡ f 0
    single f = omega arith

-- so many forks and such a heartbeat keep the counts below their type's end
pub job_paid : (forks heartbeat : ℕ) → forks ≤ 1000000 → heartbeat ≤ 1000000000 → forks * heartbeat ≤ top
job_paid forks heartbeat few short = let some = mul-le-mul_right heartbeat few in let all = mul-le-mul_left 1000000 short in omega (arith, some, all)
