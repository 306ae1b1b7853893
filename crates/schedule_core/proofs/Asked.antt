-- What an event asks of a configuration, and what its answer says.
use Rattle.std.proofs.Common.{◌≡◌, ℕ, ◌*◌, ◌<◌, ◌≤◌, ◌^◌, length, Option, Some, None, refl, sym, ap}
use Rattle.std.proofs.Common.{subst, arith}
use Rattle.std.specs.Prelude.{true, Result, Ok, Err, IfOk, nat_lt}
use Rattle.std.proofs.Math.Nat.{mul-le-mul_right}
use Rattle.tpal_syntax.specs.Conditions.{IsCode}
use Rattle.tpal_syntax.specs.Listing.{Listing}
use Rattle.tpal_machine.specs.declared.ends.Ending.{Ending}
use Rattle.tpal_machine.specs.declared.faults.Fault.{Fault}
use Rattle.tpal_machine.specs.RestState.{RestState}
use Rattle.tpal_machine.specs.State.{State}
use Rattle.schedule_core.specs.declared.event.Event.{Event}
use Rattle.schedule_core.specs.declared.event.Event.TheVariants as event
use Rattle.schedule_core.specs.declared.event.ApplyFault.{ApplyFault}
use Rattle.schedule_core.specs.declared.event.ApplyFault.TheVariants as fault
use Rattle.schedule_core.specs.declared.seats.Seat.{Seat}
use Rattle.schedule_core.specs.declared.seats.Seat.TheVariants as seat
use Rattle.schedule_core.specs.declared.seats.Cell.{Cell}
use Rattle.schedule_core.specs.declared.seats.Cell.TheVariants as cell
use Rattle.schedule_core.specs.Core as core
use Rattle.schedule_core.specs.Core.{top, is_allowed, Config, AnyFree, LeastFree, CoreStep}
use Rattle.schedule_core.specs.Apply.{SeatBelongs, CellBelongs, AreSidesOf, Belongs, SidesFit}
use Rattle.schedule_core.specs.Apply.{Steps, Gives, WhereNotEnabled, WhereStuck, IsStuckAt}
use Rattle.schedule_core.specs.Apply.{SeatStuck, IsEnabled, IsSound, event_of}
use Rattle.schedule_core.specs.Effects.{can, fits, worker_of, CanRun, CellCanMerge, CanMerge}
use Rattle.schedule_core.specs.Enabled.{MetWith, HasMet}
use Rattle.schedule_core.specs.Machine.{CoreMachine}
use Rattle.schedule_core.specs.Sound.{Sound}
use Rattle.schedule_core.specs.Standing.{Standing, SameRun, IsStanding, seat_of, cell_of, worker_at}
use Rattle.schedule_core.specs.Standing.{cell_at, stands}
use Rattle.schedule_core.specs.Tasks.{tasks, turn_of}
use Rattle.schedule_core.proofs.Belonging.{event_belongs}
use Rattle.schedule_core.proofs.Enabling.{and_left, lt_is}
use Rattle.schedule_core.proofs.Every.{every_event}
use Rattle.schedule_core.proofs.Instance.{lawful}
use Rattle.schedule_core.proofs.Keeps.{never_stuck}
use Rattle.schedule_core.proofs.View.{view_of}

pub worker_is : (s : Standing) (e : Event) → can s e ≡ true → worker_of e < length s.workers
worker_is s e q = lt_is (worker_of e) (length s.workers) (and_left (nat_lt (worker_of e) (length s.workers)) (fits s.cells e (worker_at s.workers (worker_of e)).seat) q)

module _ (code : Listing) where
  run_by : (x : Seat) → SeatBelongs code (seat_of x) → CanRun code x
  run_by seat.Resting b = tt
  run_by (seat.Running task due) b = b
  run_by (seat.Forked k l c r) b = tt
  run_by (seat.Ended e) b = tt
  run_by (seat.Holding k) b = tt

  merge_cell : (k : ℕ) (x : Cell) → (MetWith (λ r p q. Unit {0}) (cell_of k x) → MetWith (AreSidesOf code) (cell_of k x)) → CellBelongs code (cell_of k x) → CellCanMerge code x
  merge_cell k cell.Free f b = tt
  merge_cell k (cell.Taken w) f b = tt
  merge_cell k (cell.Opened r c p q) f b = tt
  merge_cell k (cell.Met w r p q) f b = record { sides = f tt; rest_belongs = b.0; left_belongs = b.1; right_belongs = b.2 }

  merge_seat : (s : Standing) (x : Seat) → (HasMet (λ r p q. Unit {0}) (stands s).cells (seat_of x) → HasMet (AreSidesOf code) (stands s).cells (seat_of x)) → ((k : ℕ) → CellBelongs code ((stands s).cells k)) → CanMerge code s x
  merge_seat s seat.Resting f b = tt
  merge_seat s (seat.Running task due) f b = tt
  merge_seat s (seat.Forked k l c r) f b = tt
  merge_seat s (seat.Ended e) f b = tt
  merge_seat s (seat.Holding k) f b = merge_cell k (cell_at s.cells k) f (b k)

pub can_run : (code : Listing) (s : Standing) (w : ℕ) → Belongs code (stands s) → CanRun code (worker_at s.workers w).seat
can_run code s w b = run_by code (worker_at s.workers w).seat (b.seats w)

pub can_merge : (code : Listing) (s : Standing) (w : ℕ) → Belongs code (stands s) → SidesFit code s (event.Free w) → CanMerge code s (worker_at s.workers w).seat
can_merge code s w b f = merge_seat code s (worker_at s.workers w).seat f b.records

-- ---- the answer

module _ {T R E : Type 0} (M : CoreMachine T R E) (N K W : ℕ) (c : Config T R E) where
  least_any : (cells : ℕ → core.Cell T R E) (o : Option ℕ) → LeastFree K cells o → AnyFree K cells o
  least_any cells None ch = tt
  least_any cells (Some k) ch = (ch.0, ch.1)

  pub any_of : (d : Config T R E) (v : core.Event) → CoreStep M LeastFree N K W c v d → CoreStep M AnyFree N K W c v d
  any_of _ _ (core.goes w t d u lt q st) = core.goes w t d u lt q st
  any_of _ _ (core.beats w t d u lt q st) = core.beats w t d u lt q st
  any_of _ _ (core.ends w t d e lt q st) = core.ends w t d e lt q st
  any_of _ _ (core.asks w t d f o lt q st ch) = core.asks w t d f o lt q st (least_any c.cells o ch)
  any_of _ _ (core.forks w t d k l x r lt q st) = core.forks w t d k l x r lt q st
  any_of _ _ (core.opens w k l x r lt lk q) = core.opens w k l x r lt lk q
  any_of _ _ (core.claims w k r x p q lt a b) = core.claims w k r x p q lt a b
  any_of _ _ (core.arrives_left w k e lt a b) = core.arrives_left w k e lt a b
  any_of _ _ (core.arrives_right w k e lt a b) = core.arrives_right w k e lt a b
  any_of _ _ (core.frees w k i r p q both lt a b m) = core.frees w k i r p q both lt a b m
  any_of _ _ (core.finishes w e lt a b) = core.finishes w e lt a b

-- the beats of all workers are counted
pub roomy : (s : Standing) → IsStanding s → length s.workers * s.forks ≤ top
roomy s is = let f = is.forks in let w = is.workers in let m = mul-le-mul_right {m = length s.workers} {n = 16} s.forks (omega (arith, w)) in omega (arith, m, f)

module _ (code : Listing) (s : Standing) (e : Event) (is : IsStanding s) (is_code : IsCode code.tables code.blocks) where
  few : length s.cells ≤ 2 ^ 32
  few = let r = is.records in omega (arith, r)

  sound_step : (new : Standing) (out : Ending) → IsSound code s out → Steps code s e new → SameRun s new → IsSound code new out
  sound_step new out so st same =
      let M = tasks code s.heartbeat in
      let after = every_event M s.heartbeat (length s.cells) s.forks (length s.workers) (lawful code s.heartbeat (length s.cells) is_code few) (roomy s is) out (stands s) (stands new) (event_of e) so
      (any_of M s.forks (length s.cells) (length s.workers) (stands s) (stands new) (event_of e) st) in
      subst (λ h. Sound (tasks code h) h new.forks (length new.cells) (length new.workers) out (stands new)) (sym same.heartbeat)
      (subst (λ n. Sound M s.heartbeat n (length new.cells) (length new.workers) out (stands new)) (sym same.forks)
      (subst (λ k. Sound M s.heartbeat s.forks k (length new.workers) out (stands new)) (sym same.records)
      (subst (λ w. Sound M s.heartbeat s.forks (length s.cells) w out (stands new)) (sym same.workers) after)))

  seat_never : (w : ℕ) (out : Ending) (f : Fault) (x : core.Seat State RestState Ending) → IsSound code s out → (stands s).seats w ≡ x → SeatStuck code s.heartbeat (is_allowed s.forks ((stands s).beats w)) f x → ⊥
  seat_never w out f core.resting so q st = st
  seat_never w out f (core.running t d) so q st =
      never_stuck (tasks code s.heartbeat) s.heartbeat (length s.cells) s.forks (length s.workers) out (lawful code s.heartbeat (length s.cells) is_code few) (roomy s is) (stands s)
      (view_of (tasks code s.heartbeat) s.heartbeat s.forks (length s.cells) (length s.workers) out (stands s) so) (is_allowed s.forks ((stands s).beats w)) w t d q (ap turn_of st)
  seat_never w out f (core.forked k l c r) so q st = st
  seat_never w out f (core.ended x) so q st = st
  seat_never w out f (core.holding k) so q st = st

  never_at : (v : Event) (out : Ending) (f : Fault) → IsSound code s out → IsStuckAt code s v f → ⊥
  never_at (event.Step w) out f so st = seat_never w out f ((stands s).seats w) so refl st
  never_at (event.Open w) out f so st = st
  never_at (event.Claim w k) out f so st = st
  never_at (event.Arrive w) out f so st = st
  never_at (event.Free w) out f so st = st
  never_at (event.Finish w) out f so st = st

  pub given_sound : (result : Result Standing ApplyFault) → Gives code s e result → (out : Ending) → IsSound code s out → IfOk result (λ after. IsSound code after out)
  given_sound (Ok new) g out so = sound_step new out so g.0 g.1
  given_sound (Err f) g out so = tt

  pub given_never : (result : Result Standing ApplyFault) → Gives code s e result → (out : Ending) → IsSound code s out → WhereStuck result (λ f. ⊥)
  given_never (Ok new) g out so = tt
  given_never (Err (fault.NotEnabled same)) g out so = tt
  given_never (Err (fault.Stuck f)) g out so = never_at e out f so g
  given_never (Err fault.NoMemory) g out so = tt

pub given_belongs : (code : Listing) (s : Standing) (e : Event) → IsCode code.tables code.blocks → Belongs code (stands s) → (result : Result Standing ApplyFault) → Gives code s e result → IfOk result (λ after. Belongs code (stands after))
given_belongs code s e is_code b (Ok new) g = event_belongs code is_code s.heartbeat s.forks (length s.cells) (length s.workers) LeastFree (stands s) b (stands new) (event_of e) g.0
given_belongs code s e is_code b (Err f) g = tt

module _ (code : Listing) (s : Standing) (e : Event) where
  pub given_step : (result : Result Standing ApplyFault) → Gives code s e result → IfOk result (λ after. Steps code s e after)
  given_step (Ok new) g = g.0
  given_step (Err f) g = tt

  pub given_kept : (result : Result Standing ApplyFault) → Gives code s e result → IfOk result (λ after. SameRun s after)
  given_kept (Ok new) g = g.1
  given_kept (Err f) g = tt

  pub given_refused : (result : Result Standing ApplyFault) → Gives code s e result → WhereNotEnabled result (λ same. (same ≡ s) × (IsEnabled code s e → ⊥))
  given_refused (Ok new) g = tt
  given_refused (Err (fault.NotEnabled same)) g = g
  given_refused (Err (fault.Stuck f)) g = tt
  given_refused (Err fault.NoMemory) g = tt

  pub given_stuck : (result : Result Standing ApplyFault) → Gives code s e result → WhereStuck result (λ f. IsStuckAt code s e f)
  given_stuck (Ok new) g = tt
  given_stuck (Err (fault.NotEnabled same)) g = tt
  given_stuck (Err (fault.Stuck f)) g = g
  given_stuck (Err fault.NoMemory) g = tt
