-- The laws of the core for the tasks of a code.
use Rattle.std.proofs.Common.{◌≡◌, ℕ, ◌*◌, ◌<◌, ◌≤◌, ◌^◌, List, length, Some, refl, arith}
use Rattle.std.specs.Prelude.{Bool, false}
use Rattle.tpal_syntax.specs.Conditions.{IsCode}
use Rattle.tpal_syntax.specs.Listing.{Listing}
use Rattle.tpal_machine.specs.declared.ends.Ending.{Ending}
use Rattle.tpal_machine.specs.declared.ends.Ending.TheVariants as ending
use Rattle.tpal_machine.specs.declared.ends.SideName.TheVariants.{Left, Right}
use Rattle.tpal_machine.specs.Owes.{Owes}
use Rattle.tpal_machine.specs.RestState.{RestState}
use Rattle.tpal_machine.specs.State.{State, first_state}
use Rattle.slices.specs.Holding.{Holding}
use Rattle.schedule_core.specs.declared.event.Event as declared
use Rattle.schedule_core.specs.declared.event.Event.TheVariants as event
use Rattle.schedule_core.specs.Apply.{AreSidesOf, SidesFit, IsSound}
use Rattle.schedule_core.specs.Core.{top, Config, Event, AnyFree, CoreStep, Seat, resting, running}
use Rattle.schedule_core.specs.Core.{forked, ended, holding, Cell, free, taken, opened, met, first}
use Rattle.schedule_core.specs.Enabled.{MetWith, HasMet}
use Rattle.schedule_core.specs.Machine.{CoreMachine, Merged, Stuck}
use Rattle.schedule_core.specs.Run.{CoreRun, Finished, Arrivals, counted_in}
use Rattle.schedule_core.specs.Sound.{Sound}
use Rattle.schedule_core.specs.Standing.{Standing, IsStanding, stands}
use Rattle.schedule_core.specs.Tasks.{tasks, MergesTo}
use Rattle.schedule_core.proofs.Arrivals.{one_each}
use Rattle.schedule_core.proofs.Asked.{roomy}
use Rattle.schedule_core.proofs.Every.{first_sound, every_event, every_run, few_tasks, finished}
use Rattle.schedule_core.proofs.Instance.{lawful}
use Rattle.schedule_core.proofs.Keeps.{merge_at, never_stuck}
use Rattle.schedule_core.proofs.View.{view_of, sound_of}

merges_fit : (code : Listing) (r : RestState) (p q : Ending) (both : Merged State Ending) → MergesTo code r p q both → AreSidesOf code r p q
merges_fit code r (ending.At i Left p) (ending.At j Right q) both m = m.merge.sides
merges_fit code r (ending.At i Left p) (ending.At j Left q) both m = m
merges_fit code r (ending.At i Right p) (ending.At j side q) both m = m
merges_fit code r (ending.At i Right p) (ending.Root outcome) both m = m
merges_fit code r (ending.At i Left p) (ending.Root outcome) both m = m
merges_fit code r (ending.Root outcome) q both m = m

module _ (code : Listing) (is_code : IsCode code.tables code.blocks) (s : Standing) (is : IsStanding s) (out : Ending) (so : IsSound code s out) where
  M : CoreMachine State RestState Ending
  M = tasks code s.heartbeat

  fit_cell : (k : ℕ) (x : Cell State RestState Ending) → (stands s).cells k ≡ x → MetWith (λ r p q. Unit {0}) x → MetWith (AreSidesOf code) x
  fit_cell k free q m = m
  fit_cell k (taken w) q m = m
  fit_cell k (opened r c p e) q m = m
  fit_cell k (met w r p e) q m =
      let owed = merge_at (tasks code s.heartbeat) s.heartbeat (length s.cells) s.forks (length s.workers) out (lawful code s.heartbeat (length s.cells) is_code (let l = is.records in omega (arith, l))) (roomy s is) (stands s)
      (view_of (tasks code s.heartbeat) s.heartbeat s.forks (length s.cells) (length s.workers) out (stands s) so) k w r p e q in
      merges_fit code r p e owed.both owed.merges

  fit_seat : (x : Seat State RestState Ending) → HasMet (λ r p q. Unit {0}) (stands s).cells x → HasMet (AreSidesOf code) (stands s).cells x
  fit_seat resting m = m
  fit_seat (running task due) m = m
  fit_seat (forked k l c r) m = m
  fit_seat (ended e) m = m
  fit_seat (holding k) m = fit_cell k ((stands s).cells k) refl m

  pub sides_fit : (e : declared.Event) → SidesFit code s e
  sides_fit (event.Step w) = tt
  sides_fit (event.Open w) = tt
  sides_fit (event.Claim w k) = tt
  sides_fit (event.Arrive w) = tt
  sides_fit (event.Free w) = λ m. fit_seat ((stands s).seats w) m
  sides_fit (event.Finish w) = tt

module _ (code : Listing) (is_code : IsCode code.tables code.blocks) (H N K W : ℕ) (few : K ≤ 2 ^ 32) (room : W * N ≤ top) where
  pub met_once : (held : List Holding) (fuel : ℕ) (out : Ending) → 0 < W → Owes code H false 0 (first_state held fuel) out
      → (last : Config State RestState Ending) (events : List Event) (run : CoreRun (tasks code H) AnyFree N K W (first (first_state held fuel)) events last) (seen : Arrivals) (k w : ℕ) (rest : RestState) (p q : Ending) → last.cells k ≡ met w rest p q → counted_in (tasks code H) AnyFree N K W run seen k ≡ (1, 1)
  met_once held fuel out some owes last events run seen k w rest p q e =
      let M = tasks code H in
      let t = first_state held fuel in
      one_each M H K N W (lawful code H K is_code few) room out (first t) last events run seen
      (sound_of M H N K W out (first t) (first_sound M H K N W out t some refl refl refl owes)) (λ j o. absurd o) k w rest p q e

module _ (code : Listing) (H N K W : ℕ) where
  pub begins_sound : (held : List Holding) (fuel : ℕ) (out : Ending) → 0 < W → Owes code H false 0 (first_state held fuel) out → Sound (tasks code H) H N K W out (first (first_state held fuel))
  begins_sound held fuel out some owes = sound_of (tasks code H) H N K W out (first (first_state held fuel)) (first_sound (tasks code H) H K N W out (first_state held fuel) some refl refl refl owes)

  pub ends_owed : (out e : Ending) (c : Config State RestState Ending) → W * N * H ≤ top → Sound (tasks code H) H N K W out c → c.outcome ≡ Some e → Finished H W out e c
  ends_owed out e c le so q =
      let settled = finished (tasks code H) H K N W out c (view_of (tasks code H) H N K W out c so) (λ at_top. few_tasks (tasks code H) H N W c so.counts tt le) e q in
      record { owed = settled.owed; closed = settled.closed; rest = settled.rest; beats = settled.beats tt; paid = settled.paid }

module _ (code : Listing) (is_code : IsCode code.tables code.blocks) (H N K W : ℕ) where
  pub event_sound : (out : Ending) (c next : Config State RestState Ending) (v : Event) → K ≤ 2 ^ 32 → W * N ≤ top → Sound (tasks code H) H N K W out c → CoreStep (tasks code H) AnyFree N K W c v next → Sound (tasks code H) H N K W out next
  event_sound out c next v few room so st = every_event (tasks code H) H K N W (lawful code H K is_code few) room out c next v so st

  pub run_sound : (out : Ending) (c last : Config State RestState Ending) (vs : List Event) → K ≤ 2 ^ 32 → W * N ≤ top → Sound (tasks code H) H N K W out c → CoreRun (tasks code H) AnyFree N K W c vs last → Sound (tasks code H) H N K W out last
  run_sound out c last vs few room so run = every_run (tasks code H) H K N W (lawful code H K is_code few) room out c last vs so run

  pub not_stuck : (w : ℕ) (out : Ending) (c : Config State RestState Ending) (task : State) (due allowed : Bool) → K ≤ 2 ^ 32 → W * N ≤ top → Sound (tasks code H) H N K W out c → c.seats w ≡ running task due → (tasks code H).turn allowed task ≡ Stuck → ⊥
  not_stuck w out c task due allowed few room so q st = never_stuck (tasks code H) H K N W out (lawful code H K is_code few) room c (view_of (tasks code H) H N K W out c so) allowed w task due q st

  pub one_outcome : (fuel : ℕ) (held : List Holding) (out e : Ending) (last : Config State RestState Ending) (vs : List Event) → K ≤ 2 ^ 32 → W * N ≤ top → W * N * H ≤ top → 0 < W → Owes code H false 0 (first_state held fuel) out → CoreRun (tasks code H) AnyFree N K W (first (first_state held fuel)) vs last → last.outcome ≡ Some e → Finished H W out e last
  one_outcome fuel held out e last vs few room paid some owes run is =
      ends_owed code H N K W out e last paid (run_sound out (first (first_state held fuel)) last vs few room (begins_sound code H N K W held fuel out some owes) run) is
