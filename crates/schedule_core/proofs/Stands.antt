-- What a change of what is kept is for the workers and records of the core.
use Rattle.std.proofs.Common.{◌≡◌, ℕ, ◌<◌, ◌≤◌, List, length, set, refl, sym, ap, ◌∙◌, subst}
use Rattle.std.proofs.Common.{⊎_elim}
use Rattle.std.specs.Prelude.{slice_set}
use Rattle.std.proofs.lemmas.Bool.{cases_eq}
use Rattle.std.proofs.lemmas.List.{get_or-set_same, get_or-set_other, length-set, set_past}
use Rattle.std.proofs.lemmas.List.{get_or_past}
use mathlib.Core.Path.{fun_ext}
use Rattle.tpal_machine.specs.declared.ends.Ending.{Ending}
use Rattle.tpal_machine.specs.RestState.{RestState}
use Rattle.tpal_machine.specs.State.{State}
use Rattle.schedule_core.specs.declared.seats.Seat.{Seat}
use Rattle.schedule_core.specs.declared.seats.Cell.{Cell}
use Rattle.schedule_core.specs.declared.seats.Cell.TheVariants as cell
use Rattle.schedule_core.specs.declared.seats.Worker.{Worker}
use Rattle.schedule_core.specs.Core as core
use Rattle.schedule_core.specs.Core.{put, Config}
use Rattle.schedule_core.specs.Standing.{Standing, SameRun, seat_of, cell_of, worker_at, no_worker}
use Rattle.schedule_core.specs.Standing.{cell_at, stands, with_seat, with_cell}
use Rattle.schedule_core.proofs.Puts.{put_here, put_else, at_put}

-- a function with the value of another at a number
pub put_is : {A : Type 0} (f g : ℕ → A) (k : ℕ) (x : A) → f k ≡ x → ((y : ℕ) → (y ≡ k → ⊥) → f y ≡ g y) → f ≡ put g k x
put_is f g k x here other = fun_ext (λ y. sym (at_put g k x (λ z v. v ≡ f z) y (sym here) (λ ne. sym (other y ne))))

pub put_twice : {A : Type 0} (f : ℕ → A) (k : ℕ) (x y : A) → put (put f k x) k y ≡ put f k y
put_twice f k x y = put_is (put (put f k x) k y) f k y (put_here (put f k x) k y) (λ z ne. put_else (put f k x) k y z ne ∙ put_else f k x z ne)

-- a store beyond the end changes nothing, and nothing is there
pub set_beyond : {X : Type 0} (xs : List X) (i : ℕ) (y : X) → length xs ≤ i → set xs i y ≡ xs
set_beyond xs i y past = set_past xs i y past

pub cell_beyond : (xs : List Cell) (i : ℕ) → length xs ≤ i → cell_at xs i ≡ cell.Free
cell_beyond xs i past = get_or_past xs i cell.Free past

-- what workers have, where one has something else
pub seats_put : (ws : List Worker) (w : ℕ) (x : Worker) → w < length ws → ◌≡◌ {A = ℕ → core.Seat State RestState Ending} (λ v. seat_of (worker_at (slice_set ws w x) v).seat) (put (λ v. seat_of (worker_at ws v).seat) w (seat_of x.seat))
seats_put ws w x lt = put_is (λ v. seat_of (worker_at (slice_set ws w x) v).seat) (λ v. seat_of (worker_at ws v).seat) w (seat_of x.seat)
    (ap (λ (z : Worker). seat_of z.seat) (get_or-set_same ws w x no_worker lt))
    (λ y ne. ap (λ (z : Worker). seat_of z.seat) (get_or-set_other ws w y x no_worker ne))

pub beats_put : (ws : List Worker) (w : ℕ) (x : Worker) → w < length ws → ◌≡◌ {A = ℕ → ℕ} (λ v. (worker_at (slice_set ws w x) v).beats) (put (λ v. (worker_at ws v).beats) w x.beats)
beats_put ws w x lt = put_is (λ v. (worker_at (slice_set ws w x) v).beats) (λ v. (worker_at ws v).beats) w x.beats
    (ap (λ (z : Worker). z.beats) (get_or-set_same ws w x no_worker lt))
    (λ y ne. ap (λ (z : Worker). z.beats) (get_or-set_other ws w y x no_worker ne))

-- a worker's beats stay where only its seat changes
pub beats_stay : (ws : List Worker) (w : ℕ) (x : Seat) → w < length ws → ◌≡◌ {A = ℕ → ℕ} (λ v. (worker_at (slice_set ws w (record { seat = x; beats = (worker_at ws w).beats })) v).beats) (λ v. (worker_at ws v).beats)
beats_stay ws w x lt = fun_ext (λ y. ⊎_elim
    (λ (e : y ≡ w). subst (λ z. (worker_at (slice_set ws w (record { seat = x; beats = (worker_at ws w).beats })) z).beats ≡ (worker_at ws z).beats) (sym e) (ap (λ (z : Worker). z.beats) (get_or-set_same ws w (record { seat = x; beats = (worker_at ws w).beats }) no_worker lt)))
    (λ (ne : y ≡ w → ⊥). ap (λ (z : Worker). z.beats) (get_or-set_other ws w y (record { seat = x; beats = (worker_at ws w).beats }) no_worker ne))
    (cases_eq y w))

-- what records hold, where one holds something else
pub cells_put : (cs : List Cell) (k : ℕ) (x : Cell) → k < length cs → ◌≡◌ {A = ℕ → core.Cell State RestState Ending} (λ j. cell_of j (cell_at (slice_set cs k x) j)) (put (λ j. cell_of j (cell_at cs j)) k (cell_of k x))
cells_put cs k x lt = put_is (λ j. cell_of j (cell_at (slice_set cs k x) j)) (λ j. cell_of j (cell_at cs j)) k (cell_of k x)
    (ap (cell_of k) (get_or-set_same cs k x cell.Free lt))
    (λ y ne. ap (cell_of y) (get_or-set_other cs k y x cell.Free ne))

pub stands_seat : (s : Standing) (w : ℕ) (x : Seat) → w < length s.workers → stands (with_seat s w x) ≡ record (stands s) { seats = put (stands s).seats w (seat_of x) }
stands_seat s w x lt =
    ap (λ (b : ℕ → ℕ). record (stands (with_seat s w x)) { beats = b }) (beats_stay s.workers w x lt)
    ∙ ap (λ (f : ℕ → core.Seat State RestState Ending). record (stands s) { seats = f }) (seats_put s.workers w (record { seat = x; beats = (worker_at s.workers w).beats }) lt)

pub stands_cell : (s : Standing) (k : ℕ) (x : Cell) → k < length s.cells → stands (with_cell s k x) ≡ record (stands s) { cells = put (stands s).cells k (cell_of k x) }
stands_cell s k x lt = ap (λ (f : ℕ → core.Cell State RestState Ending). record (stands s) { cells = f }) (cells_put s.cells k x lt)

pub same_seat : (s : Standing) (w : ℕ) (x : Seat) → SameRun s (with_seat s w x)
same_seat s w x = record { workers = length-set s.workers w (record { seat = x; beats = (worker_at s.workers w).beats }); records = refl; heartbeat = refl; forks = refl }

pub same_cell : (s : Standing) (k : ℕ) (x : Cell) → SameRun s (with_cell s k x)
same_cell s k x = record { workers = refl; records = length-set s.cells k x; heartbeat = refl; forks = refl }

pub same_on : (s t u : Standing) → SameRun s t → SameRun t u → SameRun s u
same_on s t u a b = record { workers = b.workers ∙ a.workers; records = b.records ∙ a.records; heartbeat = b.heartbeat ∙ a.heartbeat; forks = b.forks ∙ a.forks }
