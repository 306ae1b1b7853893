-- Where a list of events has led: to the first configuration, and from one on by one event more.
-- There two sides that have met are of the rest's record.
use Rattle.std.proofs.Common.{◌≡◌, ℕ, List, [], ◌∷◌, ◌++◌, length, sym, subst, arith}
use Rattle.std.specs.Prelude.{Result, Ok, Err, IfOk}
use Rattle.std.proofs.Math.Nat.{mul-le-mul_right}
use Rattle.tpal_syntax.specs.Listing.{Listing}
use Rattle.tpal_machine.specs.declared.ends.Ending.{Ending}
use Rattle.tpal_machine.specs.RestState.{RestState}
use Rattle.tpal_machine.specs.State.{State, first_state}
use Rattle.schedule_core.specs.declared.event.Event as declared
use Rattle.schedule_core.specs.declared.event.Event.TheVariants as event
use Rattle.schedule_core.specs.declared.job.Job.{Job}
use Rattle.schedule_core.specs.declared.seats.Seat.{Seat}
use Rattle.schedule_core.specs.declared.seats.Seat.TheVariants as seat
use Rattle.schedule_core.specs.declared.seats.Cell.{Cell}
use Rattle.schedule_core.specs.declared.seats.Cell.TheVariants as cell
use Rattle.schedule_core.specs.Apply.{IsJob, IsRunOf, AreSidesOf, SidesFit, Steps, event_of}
use Rattle.schedule_core.specs.Core.{Config, Event, AnyFree, Choice, CoreStep, first}
use Rattle.schedule_core.specs.Enabled.{MetWith, HasMet}
use Rattle.schedule_core.specs.Machine.{CoreMachine}
use Rattle.schedule_core.specs.Run.{CoreRun, here, on}
use Rattle.schedule_core.specs.Sound.{Sound, CellOwes}
use Rattle.schedule_core.specs.Standing.{Standing, SameRun, seat_of, cell_of, cell_at, worker_at}
use Rattle.schedule_core.specs.Standing.{stands}
use Rattle.schedule_core.specs.Tasks.{tasks}
use Rattle.schedule_core.proofs.Asked.{any_of}
use Rattle.tpal_verify.specs.Fits.{Promise, fitting}
use Rattle.tpal_verify.specs.Rounds.{Shapes}
use Rattle.tests_events.specs.Led.{IsLed}

-- the first configuration of a job
module _ (code : Listing) (job : Job) (is : IsJob code job) where
  begins : (s : Standing) → stands s ≡ first (first_state job.tables job.fuel) → IsRunOf job s → IsLed code s
  begins s q r =
      let some = is.workers.0 in
      let few = is.workers.1 in
      let forks = is.forks in
      let workers = r.workers in
      let same = r.forks in
      let most = mul-le-mul_right {m = length s.workers} {n = 16} s.forks (omega (arith, few, workers)) in
      record {
        held = job.tables;
        fuel = job.fuel;
        events = [];
        sizes = is.tables;
        some = omega (arith, some, workers);
        room = omega (arith, most, forks, same);
        run = subst
            (λ (c : Config State RestState Ending). CoreRun (tasks code s.heartbeat) AnyFree s.forks (length s.cells) (length s.workers) (first (first_state job.tables job.fuel)) [] c)
            (sym q) (here (first (first_state job.tables job.fuel)));
      }

  pub first_led : {E : Type 0} (result : Result Standing E) → IfOk result (λ s. stands s ≡ first (first_state job.tables job.fuel)) → IfOk result (IsRunOf job) → IfOk result (IsLed code)
  first_led (Ok s) q r = begins s q r
  first_led (Err e) q r = tt

module _ (M : CoreMachine State RestState Ending) (choice : Choice State RestState Ending) (N K W : ℕ) where
  one_more : (a b c : Config State RestState Ending) (es : List Event) (e : Event) → CoreRun M choice N K W a es b → CoreStep M choice N K W b e c → CoreRun M choice N K W a (es ++ e ∷ []) c
  one_more a _ c _ e (here _) st = on a c c e [] st (here c)
  one_more a b c _ e (on _ n _ v vs s r) st = on a n c v (vs ++ e ∷ []) s (one_more n b c vs e r st)

-- one event more
pub leads_on : (code : Listing) (old new : Standing) (e : declared.Event) → Steps code old e new → SameRun old new → IsLed code old → IsLed code new
leads_on code old new e st same led =
    let M = tasks code old.heartbeat in
    let start = first (first_state led.held led.fuel) in
    let run : CoreRun M AnyFree old.forks (length old.cells) (length old.workers) start (led.events ++ event_of e ∷ []) (stands new) =
    one_more M AnyFree old.forks (length old.cells) (length old.workers) start (stands old) (stands new) led.events (event_of e) led.run
    (any_of M old.forks (length old.cells) (length old.workers) (stands old) (stands new) (event_of e) st) in
    record {
      held = led.held;
      fuel = led.fuel;
      events = led.events ++ event_of e ∷ [];
      sizes = led.sizes;
      some = rw same.workers led.some;
      room = rw (same.workers, same.forks) led.room;
      run = rw (same.workers, same.records, same.forks, same.heartbeat) run;
    }

module _ (code : Listing) (A : Shapes) (s : Standing) (out : Promise) (so : Sound (fitting code A s.heartbeat) s.heartbeat s.forks (length s.cells) (length s.workers) out (stands s)) where
  fit_cell : (k : ℕ) (x : Cell) → CellOwes (fitting code A s.heartbeat) so.promise k (cell_of k x) → MetWith (λ r p q. Unit {0}) (cell_of k x) → MetWith (AreSidesOf code) (cell_of k x)
  fit_cell k (cell.Met w r p q) owed m = (owed.0 _ _ owed.1 owed.2).merges.merge.sides
  fit_cell k x owed m = m

  fit_seat : (x : Seat) → HasMet (λ r p q. Unit {0}) (stands s).cells (seat_of x) → HasMet (AreSidesOf code) (stands s).cells (seat_of x)
  fit_seat (seat.Holding k) m = fit_cell k (cell_at s.cells k) (so.owed.records k) m
  fit_seat x m = m

  pub sides_fit : (e : declared.Event) → SidesFit code s e
  sides_fit (event.Free w) = λ m. fit_seat (worker_at s.workers w).seat m
  sides_fit e = tt
