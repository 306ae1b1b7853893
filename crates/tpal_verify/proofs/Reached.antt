-- Accepted code's run by one worker, as a list of events of the core: it is never lost.
use Rattle.std.proofs.Common.{◌≡◌, ℕ, Bool}
use Rattle.std.proofs.Common.{List, [], ◌∷◌, ◌++◌, length, refl}
use Rattle.std.proofs.Common.{subst}
use Rattle.std.specs.Prelude.{nat_lt}
use Rattle.tpal_syntax.specs.Conditions.{IsCode}
use Rattle.tpal_syntax.specs.Listing.{Listing}
use Rattle.tpal_machine.specs.declared.ends.End.TheVariants as «end»
use Rattle.tpal_machine.specs.declared.ends.Ending.{Ending}
use Rattle.tpal_machine.specs.declared.ends.Ending.TheVariants as ending
use Rattle.tpal_machine.specs.declared.ends.Side.{Side}
use Rattle.tpal_machine.specs.declared.ends.SideName.{SideName}
use Rattle.tpal_machine.specs.declared.ends.SideName.TheVariants.{Left, Right}
use Rattle.tpal_machine.specs.Belonging.{RunsOn, IsStepOf}
use Rattle.tpal_machine.specs.Keeping.{StepKeeps}
use Rattle.tpal_machine.specs.Merge as merging
use Rattle.tpal_machine.specs.Merge.{Joined, MergeOf}
use Rattle.tpal_machine.specs.RestState.{RestState}
use Rattle.tpal_machine.specs.State.{State}
use Rattle.tpal_machine.specs.Step.{Step, Goes, Beats, Ends, Asks, Forks, Stuck, Strays, step}
use Rattle.tpal_machine.proofs.Belonging.{step_of}
use Rattle.tpal_machine.proofs.Keeping.{step_keeps}
use Rattle.schedule_core.specs.declared.lanes.Opened.{Opened}
use Rattle.schedule_core.specs.declared.lanes.Opened.TheVariants.{Waiting, Half}
use Rattle.schedule_core.specs.declared.lanes.Tally.{Tally}
use Rattle.schedule_core.specs.Core as core
use Rattle.schedule_core.specs.Core.{Config, Event, LeastFree, AnyFree, CoreStep, first}
use Rattle.schedule_core.specs.Lanes.{EndArrives, JoinedArrives, CanArrive}
use Rattle.schedule_core.specs.Run as running
use Rattle.schedule_core.specs.Run.{CoreRun}
use Rattle.schedule_core.specs.Solo.{Lane, SoloState, Runs, after_step, records, turned}
use Rattle.schedule_core.specs.Sound.{Sound, CellOwes, SeatOwes}
use Rattle.schedule_core.specs.Tasks.{tasks}
use Rattle.schedule_core.proofs.Reaching as reaching
use Rattle.schedule_core.proofs.Reaching.{Stands, Ended_at, Reaches, Many, Claims, appended}
use Rattle.schedule_core.proofs.Reaching.{claims_appended, any_run, moved_end, same_end, second, parted}
use Rattle.schedule_core.proofs.Reaching.{Merged_at, Arriving}
use Rattle.tpal_verify.specs.Breaks.{MeetsRules}
use Rattle.tpal_verify.specs.Fits.{Promise, fitting}
use Rattle.tpal_verify.specs.Rounds.{Shapes}

-- a step that a run doesn't stop at
abbrev pub IsTaken : Step → Type 0
IsTaken (Goes after) = Unit {0}
IsTaken (Beats diverted) = Unit {0}
IsTaken (Ends e) = Unit {0}
IsTaken (Asks waits) = Unit {0}
IsTaken (Forks parts) = Unit {0}
IsTaken (Stuck fault) = ⊥
IsTaken Strays = ⊥

-- what an ending that a step comes to can do
abbrev pub StepArrives : Listing → List Opened → Step → Type 0
StepArrives code opened (Goes after) = Unit {0}
StepArrives code opened (Beats diverted) = Unit {0}
StepArrives code opened (Ends e) = EndArrives e (λ side. CanArrive code opened side)
StepArrives code opened (Asks waits) = Unit {0}
StepArrives code opened (Forks parts) = Unit {0}
StepArrives code opened (Stuck fault) = Unit {0}
StepArrives code opened Strays = Unit {0}

-- Every configuration of the core's that the first task leads to is sound for shapes: what a run by
-- one worker makes of it.
pub record IsSafeFrom (code : Listing) (heartbeat forks : ℕ) (task : State) : Type 0 where
  pub shapes : Shapes
  pub promise : Promise
  pub right : IsCode code.tables code.blocks
  pub meets : MeetsRules code shapes
  pub sound : (events : List Event) (last : Config State RestState Ending)
      → CoreRun (tasks code heartbeat) AnyFree forks records 1 (first task) events last
      → Sound (fitting code shapes heartbeat) heartbeat forks records 1 promise last

module _ (code : Listing) (heartbeat forks : ℕ) (task : State) (safe : IsSafeFrom code heartbeat forks task) where
  abbrev Led : List Event → Config State RestState Ending → Type 0
  Led events c = Many code heartbeat forks (first task) events c

  pub sound_at : (events : List Event) (c : Config State RestState Ending) → Led events c → Sound (fitting code safe.shapes heartbeat) heartbeat forks records 1 safe.promise c
  sound_at events c led = safe.sound events c (any_run code heartbeat forks (first task) c events led)

  -- one event more
  led_on : (events : List Event) (c d : Config State RestState Ending) (e : Event) → Led events c → CoreStep (tasks code heartbeat) LeastFree forks records 1 c e d → Led (events ++ e ∷ []) d
  led_on events c d e led one = appended code heartbeat forks (first task) c d events (e ∷ []) led (running.on c d d e [] one (running.here d))

  -- ---- merges

  -- two sides that have met merge
  sides_merge : (events : List Event) (c : Config State RestState Ending) (k : ℕ) (rest : RestState) (p q : Side) → Led events c → c.cells k ≡ core.met 0 rest (ending.At k Left p) (ending.At k Right q) → (both : Joined) × MergeOf code rest p q both
  sides_merge events c k rest p q led is =
      let sound = sound_at events c led in
      let owes = subst (λ x. CellOwes (fitting code safe.shapes heartbeat) sound.promise k x) is (sound.owed.records k) in
      let well = owes.0 (ending.At k Left p) (ending.At k Right q) owes.1 owes.2 in
      (well.merges.joined, well.merges.merge)

  abbrev Arrives : List Opened → Type 0
  Arrives opened = (tally : Tally) (e : Ending) (events : List Event) (c : Config State RestState Ending) → Led events c → Ended_at code heartbeat forks opened tally e c → Arriving code heartbeat forks opened e

  joined_arrives : (opened : List Opened) (tally : Tally) (both : Joined) (events : List Event) (c : Config State RestState Ending) → Arrives opened → Led events c → Merged_at code heartbeat forks opened tally both c → JoinedArrives both (λ side. CanArrive code opened side)
  joined_arrives opened tally (merging.Goes after) events c each led at = tt
  joined_arrives opened tally (merging.Ends e) events c each led at = each tally e events c led at

  half_arrives : (rest : RestState) (kept : Side) (opened : List Opened) (tally : Tally) (side : Side) (events : List Event) (c : Config State RestState Ending) → Arrives opened → Led events c → Ended_at code heartbeat forks (Half rest kept ∷ opened) tally (ending.At (length opened) Right side) c → CanArrive code (Half rest kept ∷ opened) side
  half_arrives rest kept opened tally side events c each led at =
      let n = length opened in
      let d = second code heartbeat forks n side c in
      let meets = reaching.meets code heartbeat forks rest kept opened tally side c at in
      let led_there = led_on events c d (core.Arrive 0) led meets.one in
      let merge = sides_merge (events ++ core.Arrive 0 ∷ []) d n rest kept side led_there meets.cell in
      let f = parted code heartbeat forks n side merge.0 c in
      let frees = reaching.frees code heartbeat forks rest kept opened tally side merge.0 c at merge.1 in
      record {
        both = merge.0;
        merge = merge.1;
        later = joined_arrives opened tally merge.0 ((events ++ core.Arrive 0 ∷ []) ++ core.Free 0 ∷ []) f each (led_on (events ++ core.Arrive 0 ∷ []) d f (core.Free 0) led_there frees.one) frees.at;
      }

  no_end : (k : ℕ) (name : SideName) → «end».At k name ≡ «end».Root → ⊥
  no_end k name is = cc

  -- an ended task can arrive
  arrives : (opened : List Opened) → Arrives opened
  arrives opened tally (ending.Root outcome) events c led at = tt
  arrives [] tally (ending.At k name side) events c led at = absurd (no_end k name at.place)
  arrives (Waiting rest child ∷ opened) tally (ending.At k name side) events c led at = tt
  arrives (Half rest kept ∷ opened) tally (ending.At k name side) events c led at =
      half_arrives rest kept opened tally side events c (arrives opened) led
      (moved_end code heartbeat forks (Half rest kept ∷ opened) tally _ _ c (same_end code heartbeat forks k (length opened) name Right side at.place) at)

  -- ---- one instruction

  -- a stage of the run that the core comes to
  abbrev pub Reached : SoloState → Type 0
  Reached stage = Reaches code heartbeat forks (first task) stage

  further : (lane : Lane) (stage : SoloState) (r : Reached (Runs lane)) → Reaches code heartbeat forks r.last stage → Reached stage
  further lane stage r s = record {
    events = r.events ++ s.events;
    last = s.last;
    run = appended code heartbeat forks (first task) r.last s.last r.events s.events r.run s.run;
    claims = claims_appended code heartbeat forks (first task) r.last s.last r.events s.events r.run s.run r.claims s.claims;
    at = s.at;
  }

  -- a task that runs belongs to the code, so it doesn't stray
  pub runs_on : (lane : Lane) (r : Reached (Runs lane)) → RunsOn code lane.task
  runs_on lane r =
      let sound = sound_at r.events r.last r.run in
      let owes = subst (λ x. SeatOwes (fitting code safe.shapes heartbeat) sound.promise x) r.at.seat (sound.owed.seats 0) in
      owes.keeps.runs

  pub strays_not : (allowed : Bool) (lane : Lane) → Reached (Runs lane) → step code heartbeat allowed lane.task ≡ Strays → ⊥
  strays_not allowed lane r is = subst (IsStepOf code) is (step_of code heartbeat allowed lane.task safe.right (runs_on lane r))

  arrives_by : (lane : Lane) (r : Reached (Runs lane)) (one : Step) → step code heartbeat (nat_lt lane.tally.beats forks) lane.task ≡ one → StepKeeps heartbeat lane.task one → StepArrives code lane.opened one
  arrives_by lane r (Goes after) is kept = tt
  arrives_by lane r (Beats after) is kept = tt
  arrives_by lane r (Ends e) is kept =
      let there = reaching.ended_config code heartbeat forks lane r.last r.at e in
      arrives lane.opened (turned 1 0 lane.tally) e (r.events ++ core.Step 0 ∷ []) there
      (led_on r.events r.last there (core.Step 0) r.run (reaching.steps_to_end code heartbeat forks lane r.last r.at e is))
      (reaching.ended_at code heartbeat forks lane r.last r.at e kept)
  arrives_by lane r (Asks waits) is kept = tt
  arrives_by lane r (Forks parts) is kept = tt
  arrives_by lane r (Stuck fault) is kept = tt
  arrives_by lane r Strays is kept = tt

  -- an ending that the run's next step comes to can arrive
  pub step_arrives : (lane : Lane) → Reached (Runs lane) → StepArrives code lane.opened (step code heartbeat (nat_lt lane.tally.beats forks) lane.task)
  step_arrives lane r = arrives_by lane r (step code heartbeat (nat_lt lane.tally.beats forks) lane.task) refl (step_keeps heartbeat code (nat_lt lane.tally.beats forks) lane.task)

  reached_by : (lane : Lane) (r : Reached (Runs lane)) (one : Step) → step code heartbeat (nat_lt lane.tally.beats forks) lane.task ≡ one → StepKeeps heartbeat lane.task one → StepArrives code lane.opened one → IsTaken one → Reached (after_step code one lane.opened lane.tally)
  reached_by lane r (Goes after) is kept can taken = further lane _ r (reaching.steps_goes code heartbeat forks lane r.last r.at after is kept)
  reached_by lane r (Beats after) is kept can taken = further lane _ r (reaching.steps_beats code heartbeat forks lane r.last r.at after is kept)
  reached_by lane r (Ends e) is kept can taken = further lane _ r (reaching.steps_ends code heartbeat forks lane r.last r.at e is kept can)
  reached_by lane r (Asks waits) is kept can taken = further lane _ r (reaching.steps_asks code heartbeat forks lane r.last r.at waits is kept)
  reached_by lane r (Forks parts) is kept can taken = further lane _ r (reaching.steps_forks code heartbeat forks lane r.last r.at parts is kept)
  reached_by lane r (Stuck fault) is kept can taken = absurd taken
  reached_by lane r Strays is kept can taken = absurd taken

  -- what the run's next step, and all that it leads to, comes to
  pub step_reached : (lane : Lane) → Reached (Runs lane) → (one : Step) → step code heartbeat (nat_lt lane.tally.beats forks) lane.task ≡ one → IsTaken one → Reached (after_step code one lane.opened lane.tally)
  step_reached lane r one is taken =
      reached_by lane r one is (subst (StepKeeps heartbeat lane.task) is (step_keeps heartbeat code (nat_lt lane.tally.beats forks) lane.task))
      (subst (StepArrives code lane.opened) is (step_arrives lane r)) taken
