-- The first configuration.
use Rattle.std.proofs.Common.{◌≡◌, ℕ, ◌*◌, ◌<◌, ◌≤◌, [], length, replicate, None, refl, sym, ap}
use Rattle.std.proofs.Common.{◌∙◌, subst, ⊎_elim, arith}
use Rattle.std.specs.Prelude.{false, slice_set, slice_index_or}
use Rattle.std.proofs.lemmas.Bool.{cases_lt}
use Rattle.std.proofs.lemmas.List.{length-set, length-replicate, get_or-replicate, get_or_past}
use mathlib.Core.Path.{fun_ext}
use Rattle.tpal_syntax.specs.Listing.{Listing}
use Rattle.tp_value.specs.declared.limits.TheConstants.{RECORDS_PER_WORKER}
use Rattle.tpal_machine.specs.declared.ends.Ending.{Ending}
use Rattle.tpal_machine.specs.Belonging.{RunsOn}
use Rattle.tpal_machine.specs.RestState.{RestState}
use Rattle.tpal_machine.specs.State.{State, first_state}
use Rattle.schedule_core.specs.declared.job.Job.{Job}
use Rattle.schedule_core.specs.declared.seats.Seat.TheVariants as seat
use Rattle.schedule_core.specs.declared.seats.Cell.TheVariants as cell
use Rattle.schedule_core.specs.declared.seats.Worker.{Worker}
use Rattle.schedule_core.specs.Apply.{IsJob, IsRunOf, Belongs, SeatBelongs, FirstOwes, IsSound}
use Rattle.schedule_core.specs.Core as core
use Rattle.schedule_core.specs.Core.{put, first, Config}
use Rattle.schedule_core.specs.Sound.{Sound}
use Rattle.schedule_core.specs.Standing.{Standing, IsStanding, seat_of, cell_of, worker_at, cell_at}
use Rattle.schedule_core.specs.Standing.{no_worker, stands}
use Rattle.schedule_core.specs.Tasks.{tasks}
use Rattle.schedule_core.proofs.Every.{first_sound}
use Rattle.schedule_core.proofs.Puts.{at_put}
use Rattle.schedule_core.proofs.Stands.{seats_put, beats_put}
use Rattle.schedule_core.proofs.View.{sound_of}

all_same : {X : Type 0} (n i : ℕ) (x : X) → slice_index_or (replicate n x) i x ≡ x
all_same n i x = ⊎_elim
    (λ (l : i < n). get_or-replicate n i x x l)
    (λ (l : n ≤ i). get_or_past (replicate n x) i x (let q = length-replicate n x in omega (arith, q, l)))
    (cases_lt i n)

-- a worker with a task
abbrev pub working : State → Worker
working task = record { seat = seat.Running task false; beats = 0 }

-- the first configuration as it is kept
abbrev pub first_kept : ℕ → ℕ → State → ℕ → ℕ → Standing
first_kept workers cells task heartbeat forks = record {
  workers = slice_set (replicate workers no_worker) 0 (working task);
  cells = replicate cells cell.Free;
  order = [];
  outcome = None;
  tasks = 0;
  skipped = 0;
  instructions = 0;
  heartbeat = heartbeat;
  forks = forks;
}

module _ (workers cells : ℕ) (task : State) (heartbeat forks : ℕ) (some : 0 < workers) where
  kept : Standing
  kept = first_kept workers cells task heartbeat forks

  in_list : 0 < length (replicate workers no_worker)
  in_list = subst (λ n. 0 < n) (sym (length-replicate workers no_worker)) some

  none_seated : ◌≡◌ {A = ℕ → core.Seat State RestState Ending} (λ v. seat_of (worker_at (replicate workers no_worker) v).seat) (λ v. core.resting)
  none_seated = fun_ext (λ v. ap (λ (z : Worker). seat_of z.seat) (all_same workers v no_worker))

  none_beats : ◌≡◌ {A = ℕ → ℕ} (λ v. (worker_at (replicate workers no_worker) v).beats) (λ v. 0)
  none_beats = fun_ext (λ v. ap (λ (z : Worker). z.beats) (all_same workers v no_worker))

  none_kept : ◌≡◌ {A = ℕ → core.Cell State RestState Ending} (λ k. cell_of k (cell_at (replicate cells cell.Free) k)) (λ k. core.free)
  none_kept = fun_ext (λ k. ap (cell_of k) (all_same cells k cell.Free))

  still_none : ◌≡◌ {A = ℕ → ℕ} (put (λ v. 0) 0 0) (λ v. 0)
  still_none = fun_ext (λ v. at_put (λ v. 0) 0 0 (λ y z. z ≡ 0) v refl (λ ne. refl))

  pub stands_first : stands (first_kept workers cells task heartbeat forks) ≡ first task
  stands_first =
      ap (λ (f : ℕ → core.Seat State RestState Ending). record (stands (first_kept workers cells task heartbeat forks)) { seats = f })
      (seats_put (replicate workers no_worker) 0 (working task) in_list ∙ ap (λ (f : ℕ → core.Seat State RestState Ending). put f 0 (core.running task false)) none_seated)
      ∙ (ap (λ (f : ℕ → core.Cell State RestState Ending). record (stands (first_kept workers cells task heartbeat forks)) { seats = put (λ w. core.resting) 0 (core.running task false); cells = f }) none_kept
      ∙ ap (λ (f : ℕ → ℕ). record { seats = put (λ w. core.resting) 0 (core.running task false); cells = λ k. core.free; order = []; outcome = None; beats = f; tasks = 0; skipped = 0; instructions = 0 })
      (beats_put (replicate workers no_worker) 0 (working task) in_list ∙ (ap (λ (f : ℕ → ℕ). put f 0 0) none_beats ∙ still_none)))

module _ (code : Listing) (job : Job) (is : IsJob code job) where
  abbrev this : State → Standing
  this task = first_kept job.workers (RECORDS_PER_WORKER * job.workers) task job.heartbeat job.forks

  some_of : 0 < job.workers
  some_of = let w = is.workers.0 in omega (arith, w)

  pub some_worker : 0 < job.workers
  some_worker = some_of

  pub first_stands : (task : State) → stands (this task) ≡ first task
  first_stands task = stands_first job.workers (RECORDS_PER_WORKER * job.workers) task job.heartbeat job.forks some_of

  pub first_run : (task : State) → IsRunOf job (this task)
  first_run task = record { heartbeat = refl; forks = refl; workers = length-set _ _ _ ∙ length-replicate job.workers no_worker; records = length-replicate (RECORDS_PER_WORKER * job.workers) cell.Free }

  pub first_is_standing : (task : State) → IsStanding (this task)
  first_is_standing task =
      let w = is.workers.1 in
      let r = first_run task in
      let rw = r.workers in
      let rr = r.records in
      record { heartbeat = is.heartbeat.0; beat = is.heartbeat.1; workers = omega (arith, w, rw); records = omega (arith, w, rr); forks = is.forks }

  pub first_belongs : (task : State) → RunsOn code task → Belongs code (stands (this task))
  first_belongs task runs = subst (λ c. Belongs code c) (sym (first_stands task)) (record {
    seats = λ w. at_put (λ v. core.resting) 0 (core.running task false) (λ y z. SeatBelongs code z) w runs (λ ne. tt);
    records = λ k. tt;
  })

  pub first_is_sound : (out : Ending) → FirstOwes code job out → IsSound code (this (first_state job.tables job.fuel)) out
  first_is_sound out owes =
      let task = first_state job.tables job.fuel in
      let r = first_run task in
      let M = tasks code job.heartbeat in
      subst (λ k. Sound M job.heartbeat job.forks k (length (this task).workers) out (stands (this task))) (sym r.records)
      (subst (λ w. Sound M job.heartbeat job.forks (RECORDS_PER_WORKER * job.workers) w out (stands (this task))) (sym r.workers)
      (subst (λ c. Sound M job.heartbeat job.forks (RECORDS_PER_WORKER * job.workers) job.workers out c) (sym (first_stands task))
      (sound_of M job.heartbeat job.forks (RECORDS_PER_WORKER * job.workers) job.workers out (first task)
      (first_sound M job.heartbeat (RECORDS_PER_WORKER * job.workers) job.forks job.workers out task some_of refl refl refl owes))))
