-- Which events are enabled, by what is kept.
use Rattle.std.proofs.Common.{◌≡◌, ℕ, ◌<◌, length, Some, None, refl, ⊎_elim, arith}
use Rattle.std.specs.Prelude.{Bool, true, false, ◌&&◌, nat_lt, ◌≢◌}
use Rattle.std.proofs.lemmas.Bool.{cases_lt, lt-ltb, le-ltb}
use Rattle.tpal_syntax.specs.Listing.{Listing}
use Rattle.tpal_machine.specs.declared.ends.Ending.TheVariants as ending
use Rattle.tpal_machine.specs.declared.ends.SideName.TheVariants.{Left, Right}
use Rattle.tpal_machine.specs.Keeping.{place_of}
use Rattle.schedule_core.specs.declared.event.Event.{Event}
use Rattle.schedule_core.specs.declared.event.Event.TheVariants as event
use Rattle.schedule_core.specs.declared.seats.Seat.{Seat}
use Rattle.schedule_core.specs.declared.seats.Seat.TheVariants as seat
use Rattle.schedule_core.specs.declared.seats.Cell.{Cell}
use Rattle.schedule_core.specs.declared.seats.Cell.TheVariants as cell
use Rattle.schedule_core.specs.Machine.{root}
use Rattle.schedule_core.specs.Apply.{IsEnabled}
use Rattle.schedule_core.specs.Effects.{can, runs, has_forked, rests, comes_to_record, ends_run}
use Rattle.schedule_core.specs.Effects.{is_unclaimed, is_met, has_met}
use Rattle.schedule_core.specs.Enabled.{Runs, HasForked, Rests, HasEnded, IsUnclaimed, MetWith}
use Rattle.schedule_core.specs.Enabled.{HasMet}
use Rattle.schedule_core.specs.Standing.{Standing, seat_of, cell_of, cell_at, worker_at, stands}
use Rattle.schedule_core.specs.Tasks.{end_number}

pub and_left : (a b : Bool) → (a && b) ≡ true → a ≡ true
and_left true b q = refl
and_left false b q = q

pub and_right : (a b : Bool) → (a && b) ≡ true → b ≡ true
and_right true b q = q
and_right false b q = absurd (cc)

and_both : (a b : Bool) → a ≡ true → b ≡ true → (a && b) ≡ true
and_both true b q r = r
and_both false b q r = q

pub lt_is : (a b : ℕ) → nat_lt a b ≡ true → a < b
lt_is a b e = ⊎_elim (λ (l : a < b). l) (λ l. absurd (let f = le-ltb a b l in cc)) (cases_lt a b)

can_run : (x : Seat) → Runs (seat_of x) → runs x ≡ true
can_run seat.Resting r = absurd r
can_run (seat.Running t d) r = refl
can_run (seat.Forked k l c s) r = absurd r
can_run (seat.Ended e) r = absurd r
can_run (seat.Holding k) r = absurd r

can_open : (K : ℕ) (x : Seat) → HasForked K (seat_of x) → has_forked K x ≡ true
can_open K seat.Resting r = absurd r
can_open K (seat.Running t d) r = absurd r
can_open K (seat.Forked k l c s) r = lt-ltb k K r
can_open K (seat.Ended e) r = absurd r
can_open K (seat.Holding k) r = absurd r

can_rest : (x : Seat) → Rests (seat_of x) → rests x ≡ true
can_rest seat.Resting r = refl
can_rest (seat.Running t d) r = absurd r
can_rest (seat.Forked k l c s) r = absurd r
can_rest (seat.Ended e) r = absurd r
can_rest (seat.Holding k) r = absurd r

can_arrive : (x : Seat) → HasEnded (λ e. end_number (place_of e) ≢ root) (seat_of x) → comes_to_record x ≡ true
can_arrive seat.Resting r = absurd r
can_arrive (seat.Running t d) r = absurd r
can_arrive (seat.Forked k l c s) r = absurd r
can_arrive (seat.Ended (ending.At k d o)) r = refl
can_arrive (seat.Ended (ending.Root o)) r = absurd (r refl)
can_arrive (seat.Holding k) r = absurd r

can_finish : (x : Seat) → HasEnded (λ e. end_number (place_of e) ≡ root) (seat_of x) → ends_run x ≡ true
can_finish seat.Resting r = absurd r
can_finish (seat.Running t d) r = absurd r
can_finish (seat.Forked k l c s) r = absurd r
can_finish (seat.Ended (ending.At k Left o)) r = absurd (omega (arith, r))
can_finish (seat.Ended (ending.At k Right o)) r = absurd (omega (arith, r))
can_finish (seat.Ended (ending.Root o)) r = refl
can_finish (seat.Holding k) r = absurd r

can_claim : (k : ℕ) (x : Cell) → IsUnclaimed (cell_of k x) → is_unclaimed x ≡ true
can_claim k cell.Free r = absurd r
can_claim k (cell.Taken w) r = absurd r
can_claim k (cell.Opened s None p q) r = absurd r
can_claim k (cell.Opened s (Some c) p q) r = refl
can_claim k (cell.Met w s p q) r = absurd r

can_meet : (k : ℕ) (x : Cell) → MetWith (λ r p q. Unit {0}) (cell_of k x) → is_met x ≡ true
can_meet k cell.Free r = absurd r
can_meet k (cell.Taken w) r = absurd r
can_meet k (cell.Opened s c p q) r = absurd r
can_meet k (cell.Met w s p q) r = refl

can_free : (s : Standing) (x : Seat) → HasMet (λ r p q. Unit {0}) (stands s).cells (seat_of x) → has_met s.cells x ≡ true
can_free s seat.Resting r = absurd r
can_free s (seat.Running t d) r = absurd r
can_free s (seat.Forked k l c u) r = absurd r
can_free s (seat.Ended e) r = absurd r
can_free s (seat.Holding k) r = can_meet k (cell_at s.cells k) r

module _ (code : Listing) (s : Standing) where
  enabled_can : (e : Event) → IsEnabled code s e → can s e ≡ true
  enabled_can (event.Step w) r = and_both _ _ (lt-ltb w (length s.workers) r.0) (can_run (worker_at s.workers w).seat r.1)
  enabled_can (event.Open w) r = and_both _ _ (lt-ltb w (length s.workers) r.0) (can_open (length s.cells) (worker_at s.workers w).seat r.1)
  enabled_can (event.Claim w k) r = and_both _ _ (lt-ltb w (length s.workers) r.0) (and_both _ _ (can_rest (worker_at s.workers w).seat r.1) (can_claim k (cell_at s.cells k) r.2))
  enabled_can (event.Arrive w) r = and_both _ _ (lt-ltb w (length s.workers) r.0) (can_arrive (worker_at s.workers w).seat r.1)
  enabled_can (event.Free w) r = and_both _ _ (lt-ltb w (length s.workers) r.0) (can_free s (worker_at s.workers w).seat r.1)
  enabled_can (event.Finish w) r = and_both _ _ (lt-ltb w (length s.workers) r.0) (can_finish (worker_at s.workers w).seat r.1)

  pub not_enabled : (e : Event) → can s e ≡ false → IsEnabled code s e → ⊥
  not_enabled e q r = let z = enabled_can e r in absurd (cc)
