-- What the code makes of a configuration is an event of the core.
use Rattle.std.proofs.Common.{◌≡◌, ℕ, ◌<◌, ◌≤◌, ◌⊎◌, List, [], ◌∷◌, ◌++◌, length, Option, Some}
use Rattle.std.proofs.Common.{None, refl, sym, ap, ◌∙◌, subst, ⊎_elim, inl, inr, arith}
use Rattle.std.specs.Prelude.{Bool, true, false, ◌&&◌, nat_lt, Result, Ok, Err}
use Rattle.std.proofs.lemmas.Bool.{cases_lt}
use Rattle.std.proofs.lemmas.List.{length-set}
use Rattle.tpal_syntax.specs.Listing.{Listing}
use Rattle.tpal_machine.specs.declared.ends.Ending.{Ending}
use Rattle.tpal_machine.specs.declared.ends.Ending.TheVariants as ending
use Rattle.tpal_machine.specs.declared.ends.Side.{Side}
use Rattle.tpal_machine.specs.declared.ends.SideName.{SideName}
use Rattle.tpal_machine.specs.declared.ends.SideName.TheVariants.{Left, Right}
use Rattle.tpal_machine.specs.declared.faults.Fault.{Fault}
use Rattle.tpal_machine.specs.Effect.{answered}
use Rattle.tpal_machine.specs.Merge as merging
use Rattle.tpal_machine.specs.Merge.{joined}
use Rattle.tpal_machine.specs.RestState.{RestState}
use Rattle.tpal_machine.specs.State.{State}
use Rattle.tpal_machine.specs.Step as machine
use Rattle.tpal_machine.specs.Step.{Step, step}
use Rattle.schedule_core.specs.declared.event.Event.{Event}
use Rattle.schedule_core.specs.declared.event.Event.TheVariants as event
use Rattle.schedule_core.specs.declared.event.ApplyFault.{ApplyFault}
use Rattle.schedule_core.specs.declared.event.ApplyFault.TheVariants as fault
use Rattle.schedule_core.specs.declared.seats.Seat.{Seat}
use Rattle.schedule_core.specs.declared.seats.Seat.TheVariants as seat
use Rattle.schedule_core.specs.declared.seats.Cell.{Cell}
use Rattle.schedule_core.specs.declared.seats.Cell.TheVariants as cell
use Rattle.schedule_core.specs.declared.seats.Worker.{Worker}
use Rattle.schedule_core.specs.Core as core
use Rattle.schedule_core.specs.Core.{put, one_more, without, is_allowed, Config, LeastFree}
use Rattle.schedule_core.specs.Core.{CoreStep}
use Rattle.schedule_core.specs.Apply.{Steps, Gives, SeatStuck, event_of}
use Rattle.schedule_core.specs.Effects as effects
use Rattle.schedule_core.specs.Effects.{can, fits, runs, has_forked, rests, comes_to_record}
use Rattle.schedule_core.specs.Effects.{ends_run, is_unclaimed, is_met, has_met, least_free}
use Rattle.schedule_core.specs.Effects.{emptied, counted, diverted_on, given_on, opened, claimed}
use Rattle.schedule_core.specs.Effects.{met_left, met_right, met_side, met_at, arrived, finished}
use Rattle.schedule_core.specs.Effects.{freed, freed_of, IsNow, IsStuckBy, Stepped, SeatStepped}
use Rattle.schedule_core.specs.Effects.{Mergeable, CellCanMerge, CanMerge}
use Rattle.schedule_core.specs.Standing.{Standing, SameRun, seat_of, left_of, right_of, cell_of}
use Rattle.schedule_core.specs.Standing.{worker_at, cell_at, stands, with_seat, with_cell}
use Rattle.schedule_core.specs.Tasks.{turn_of, merged_of, tasks}
use Rattle.schedule_core.proofs.Enabling.{and_left, and_right, lt_is}
use Rattle.schedule_core.proofs.Free.{least_is}
use Rattle.schedule_core.proofs.Stands.{put_is, put_twice, seats_put, beats_put, beats_stay}
use Rattle.schedule_core.proofs.Stands.{stands_seat, stands_cell, set_beyond, cell_beyond}

abbrev Conf : Type 0
Conf = Config State RestState Ending

abbrev Seats : Type 0
Seats = ℕ → core.Seat State RestState Ending

abbrev Cells : Type 0
Cells = ℕ → core.Cell State RestState Ending

-- a store of what is there already changes nothing
put_same : {A : Type 0} (f : ℕ → A) (k : ℕ) (x : A) → f k ≡ x → f ≡ put f k x
put_same f k x q = put_is f f k x q (λ y ne. refl)

-- a record that is free beyond the last stays free
beyond : (s : Standing) (k : ℕ) (x : Cell) → length s.cells ≤ k → cell_of k x ≡ core.free → stands (with_cell s k x) ≡ record (stands s) { cells = put (stands s).cells k (cell_of k x) }
beyond s k x le q =
    ap (λ (cs : List Cell). stands (record s { cells = cs })) (set_beyond s.cells k x le)
    ∙ ap (λ (f : Cells). record (stands s) { cells = f }) (put_same (stands s).cells k (cell_of k x) (ap (cell_of k) (cell_beyond s.cells k le) ∙ sym q))

stands_free : (s : Standing) (k : ℕ) → stands (with_cell s k cell.Free) ≡ record (stands s) { cells = put (stands s).cells k core.free }
stands_free s k = ⊎_elim (λ (l : k < length s.cells). stands_cell s k cell.Free l) (λ (l : length s.cells ≤ k). beyond s k cell.Free l refl) (cases_lt k (length s.cells))

module _ (s : Standing) (w : ℕ) (lt : w < length s.workers) where
  lt1 : w < length (emptied s w).workers
  lt1 = subst (λ n. w < n) (sym (length-set s.workers w (record { seat = seat.Resting; beats = (worker_at s.workers w).beats }))) lt

  seats1 : Seats
  seats1 = put (stands s).seats w core.resting

  empty_stands : stands (emptied s w) ≡ record (stands s) { seats = put (stands s).seats w core.resting }
  empty_stands = stands_seat s w seat.Resting lt

  seats_twice : (x : core.Seat State RestState Ending) → put (put (stands s).seats w core.resting) w x ≡ put (stands s).seats w x
  seats_twice x = put_twice (stands s).seats w core.resting x

  -- the worker has something else
  again : (x : Seat) → stands (with_seat (emptied s w) w x) ≡ record (stands s) { seats = put (stands s).seats w (seat_of x) }
  again x = stands_seat (emptied s w) w x lt1
      ∙ (ap (λ (c : Conf). record c { seats = put c.seats w (seat_of x) }) empty_stands
      ∙ ap (λ (f : Seats). record (stands s) { seats = f }) (seats_twice (seat_of x)))

  -- the worker has something else, after one more instruction
  ran : (x : Seat) → stands (with_seat (counted s w) w x) ≡ core.stepped (stands s) w (seat_of x)
  ran x = stands_seat (counted s w) w x lt1
      ∙ (ap (λ (c : Conf). record c { seats = put c.seats w (seat_of x); instructions = one_more s.instructions }) empty_stands
      ∙ ap (λ (f : Seats). record (stands s) { seats = f; instructions = one_more s.instructions }) (seats_twice (seat_of x)))

  diverted : (task : State) → stands (diverted_on (counted s w) w task) ≡ core.diverted (stands s) w task
  diverted task =
      let ws = (emptied s w).workers in
      let x : Worker = record { seat = seat.Running task true; beats = one_more (worker_at ws w).beats } in
      ap (λ (f : Seats). record (stands (diverted_on (counted s w) w task)) { seats = f }) (seats_put ws w x lt1)
      ∙ (ap (λ (b : ℕ → ℕ). record (stands s) { seats = put (λ v. seat_of (worker_at ws v).seat) w (core.running task true); beats = b; instructions = one_more s.instructions })
      (beats_put ws w x lt1 ∙ ap (λ (f : ℕ → ℕ). put f w (one_more (f w))) (beats_stay s.workers w seat.Resting lt))
      ∙ ap (λ (f : Seats). record (stands s) { seats = f; beats = put (stands s).beats w (one_more ((stands s).beats w)); instructions = one_more s.instructions })
      (ap (λ (f : Seats). put f w (core.running task true)) (seats_put s.workers w (record { seat = seat.Resting; beats = (worker_at s.workers w).beats }) lt) ∙ seats_twice (core.running task true)))

  given : (task : State) (o : Option ℕ) → LeastFree (length s.cells) (stands s).cells o → stands (given_on (counted s w) w task o) ≡ core.given (stands s) w (answered o task) o
  given task None ch = ap (λ (c : Conf). record c { skipped = one_more s.skipped }) (ran (seat.Running (answered None task) false))
  given task (Some k) ch = stands_cell (with_seat (counted s w) w (seat.Running (answered (Some k) task) false)) k (cell.Taken w) ch.0
      ∙ ap (λ (c : Conf). record c { cells = put c.cells k (core.taken w) }) (ran (seat.Running (answered (Some k) task) false))

  -- ---- what stays the same

  workers_twice : (x : Seat) → length (with_seat (emptied s w) w x).workers ≡ length s.workers
  workers_twice x = length-set _ _ _ ∙ length-set _ _ _

  same_ran : (x : Seat) → SameRun s (with_seat (counted s w) w x)
  same_ran x = record { workers = workers_twice x; records = refl; heartbeat = refl; forks = refl }

  same_diverted : (task : State) → SameRun s (diverted_on (counted s w) w task)
  same_diverted task = record { workers = length-set _ _ _ ∙ length-set _ _ _; records = refl; heartbeat = refl; forks = refl }

  same_given : (task : State) (o : Option ℕ) → SameRun s (given_on (counted s w) w task o)
  same_given task None = record { workers = workers_twice (seat.Running (answered None task) false); records = refl; heartbeat = refl; forks = refl }
  same_given task (Some k) = record { workers = workers_twice (seat.Running (answered (Some k) task) false); records = length-set _ _ _; heartbeat = refl; forks = refl }

  module _ (code : Listing) where
    now : (e : Event) (target : Standing) (result : Result Standing ApplyFault) → IsNow target result → Steps code s e target → SameRun s target → Gives code s e result
    now e target (Ok new) is a b = (subst (λ z. Steps code s e z) (sym is) a, subst (λ z. SameRun s z) (sym is) b)
    now e target (Err (fault.NotEnabled c)) is a b = absurd is
    now e target (Err (fault.Stuck f)) is a b = absurd is
    now e target (Err fault.NoMemory) is a b = tt

    at : (e : Event) (target : Standing) (c : Conf) → stands target ≡ c → CoreStep (tasks code s.heartbeat) LeastFree s.forks (length s.cells) (length s.workers) (stands s) (event_of e) c → Steps code s e target
    at e target c q st = subst (λ z. CoreStep (tasks code s.heartbeat) LeastFree s.forks (length s.cells) (length s.workers) (stands s) (event_of e) z) (sym q) st

    stuck_by : (task : State) (due : Bool) (f : Fault) (result : Result Standing ApplyFault) → (worker_at s.workers w).seat ≡ seat.Running task due → step code s.heartbeat (is_allowed s.forks (worker_at s.workers w).beats) task ≡ machine.Stuck f → IsStuckBy f result → Gives code s (event.Step w) result
    stuck_by task due f (Ok new) q st is = absurd is
    stuck_by task due f (Err (fault.NotEnabled c)) q st is = absurd is
    stuck_by task due f (Err (fault.Stuck g)) q st is = subst (λ x. SeatStuck code s.heartbeat (is_allowed s.forks (worker_at s.workers w).beats) g (seat_of x)) (sym q) (st ∙ ap machine.Stuck is)
    stuck_by task due f (Err fault.NoMemory) q st is = tt

    step_by : (task : State) (due : Bool) (y : Step) (result : Result Standing ApplyFault) → (worker_at s.workers w).seat ≡ seat.Running task due → step code s.heartbeat (is_allowed s.forks (worker_at s.workers w).beats) task ≡ y → Stepped s w (least_free s.cells) due y result → Gives code s (event.Step w) result
    step_by task due (machine.Goes t) result q st is = now (event.Step w) (with_seat (counted s w) w (seat.Running t due)) result is (at (event.Step w) (with_seat (counted s w) w (seat.Running t due)) _ (ran (seat.Running t due)) (core.goes w task due t lt (ap seat_of q) (ap turn_of st))) (same_ran (seat.Running t due))
    step_by task due (machine.Beats t) result q st is = now (event.Step w) (diverted_on (counted s w) w t) result is (at (event.Step w) (diverted_on (counted s w) w t) _ (diverted t) (core.beats w task due t lt (ap seat_of q) (ap turn_of st))) (same_diverted t)
    step_by task due (machine.Ends e) result q st is = now (event.Step w) (with_seat (counted s w) w (seat.Ended e)) result is (at (event.Step w) (with_seat (counted s w) w (seat.Ended e)) _ (ran (seat.Ended e)) (core.ends w task due e lt (ap seat_of q) (ap turn_of st))) (same_ran (seat.Ended e))
    step_by task due (machine.Asks t) result q st is = now (event.Step w) (given_on (counted s w) w t (least_free s.cells)) result is (at (event.Step w) (given_on (counted s w) w t (least_free s.cells)) _ (given t (least_free s.cells) (least_is s)) (core.asks w task due (λ o. answered o t) (least_free s.cells) lt (ap seat_of q) (ap turn_of st) (least_is s))) (same_given t (least_free s.cells))
    step_by task due (machine.Forks p) result q st is = now (event.Step w) (with_seat (counted s w) w (seat.Forked p.rec p.left p.child p.rest)) result is (at (event.Step w) (with_seat (counted s w) w (seat.Forked p.rec p.left p.child p.rest)) _ (ran (seat.Forked p.rec p.left p.child p.rest)) (core.forks w task due p.rec p.left p.child p.rest lt (ap seat_of q) (ap turn_of st))) (same_ran (seat.Forked p.rec p.left p.child p.rest))
    step_by task due (machine.Stuck f) result q st is = stuck_by task due f result q st is
    step_by task due machine.Strays result q st is = absurd is

    seat_gives : (x : Seat) (result : Result Standing ApplyFault) → (worker_at s.workers w).seat ≡ x → runs x ≡ true → SeatStepped code s w x result → Gives code s (event.Step w) result
    seat_gives seat.Resting result q r is = absurd (cc)
    seat_gives (seat.Running task due) result q r is = step_by task due (step code s.heartbeat (is_allowed s.forks (worker_at s.workers w).beats) task) result q refl is
    seat_gives (seat.Forked k l c u) result q r is = absurd (cc)
    seat_gives (seat.Ended e) result q r is = absurd (cc)
    seat_gives (seat.Holding k) result q r is = absurd (cc)

    -- ---- records

    open_at : (k : ℕ) (l c : State) (r : RestState) → (worker_at s.workers w).seat ≡ seat.Forked k l c r → k < length s.cells → Steps code s (event.Open w) (opened s w (seat.Forked k l c r))
    open_at k l c r q lk = at (event.Open w) (opened s w (seat.Forked k l c r)) _
        (ap (λ (z : Conf). record z { order = s.order ++ k ∷ []; tasks = one_more s.tasks })
        (stands_cell (with_seat (emptied s w) w (seat.Running l false)) k (cell.Opened r (Some c) None None) lk
        ∙ ap (λ (z : Conf). record z { cells = put z.cells k (core.opened r (Some c) None None) }) (again (seat.Running l false))))
        (core.opens w k l c r lt lk (ap seat_of q))

    open_gives : (x : Seat) (new : Standing) → (worker_at s.workers w).seat ≡ x → has_forked (length s.cells) x ≡ true → new ≡ opened s w x → Gives code s (event.Open w) (Ok new)
    open_gives seat.Resting new q r is = absurd (cc)
    open_gives (seat.Running t d) new q r is = absurd (cc)
    open_gives (seat.Forked k l c u) new q r is = now (event.Open w) (opened s w (seat.Forked k l c u)) (Ok new) is (open_at k l c u q (lt_is k (length s.cells) r)) (record { workers = workers_twice (seat.Running l false); records = length-set _ _ _; heartbeat = refl; forks = refl })
    open_gives (seat.Ended e) new q r is = absurd (cc)
    open_gives (seat.Holding k) new q r is = absurd (cc)

    rest_is : (x : Seat) → rests x ≡ true → x ≡ seat.Resting
    rest_is seat.Resting r = refl
    rest_is (seat.Running t d) r = absurd (cc)
    rest_is (seat.Forked k l c u) r = absurd (cc)
    rest_is (seat.Ended e) r = absurd (cc)
    rest_is (seat.Holding k) r = absurd (cc)

    -- a record that isn't free is one of those there are
    in_range : (k : ℕ) (x : Cell) → cell_at s.cells k ≡ x → (x ≡ cell.Free → ⊥) → k < length s.cells
    in_range k x q n = ⊎_elim (λ (l : k < length s.cells). l) (λ (l : length s.cells ≤ k). absurd (n (sym q ∙ cell_beyond s.cells k l))) (cases_lt k (length s.cells))

    cells_twice : (k : ℕ) (x : core.Cell State RestState Ending) → put (put (stands s).cells k core.free) k x ≡ put (stands s).cells k x
    cells_twice k x = put_twice (stands s).cells k core.free x

    claim_at : (k : ℕ) (r : RestState) (c : State) (p q : Option Side) → (worker_at s.workers w).seat ≡ seat.Resting → cell_at s.cells k ≡ cell.Opened r (Some c) p q → k < length s.cells → Steps code s (event.Claim w k) (claimed s w k (cell.Opened r (Some c) p q))
    claim_at k r c p q rq cq lk = at (event.Claim w k) (claimed s w k (cell.Opened r (Some c) p q)) _
        (stands_cell (with_seat (with_cell s k cell.Free) w (seat.Running c false)) k (cell.Opened r None p q) (subst (λ n. k < n) (sym (length-set s.cells k cell.Free)) lk)
        ∙ (ap (λ (z : Conf). record z { cells = put z.cells k (core.opened r None (left_of k p) (right_of k q)) }) (stands_seat (with_cell s k cell.Free) w (seat.Running c false) lt)
        ∙ (ap (λ (z : Conf). record z { seats = put z.seats w (core.running c false); cells = put z.cells k (core.opened r None (left_of k p) (right_of k q)) }) (stands_cell s k cell.Free lk)
        ∙ ap (λ (f : Cells). record (stands s) { seats = put (stands s).seats w (core.running c false); cells = f }) (cells_twice k (core.opened r None (left_of k p) (right_of k q))))))
        (core.claims w k r c (left_of k p) (right_of k q) lt (ap seat_of rq) (ap (cell_of k) cq))

    abbrev cell_kind : Cell → ℕ
    cell_kind cell.Free = 0
    cell_kind (cell.Taken v) = 1
    cell_kind (cell.Opened r c p q) = 2
    cell_kind (cell.Met v r p q) = 3

    opened_not : (r : RestState) (c : Option State) (p q : Option Side) → cell.Opened r c p q ≡ cell.Free → ⊥
    opened_not r c p q e = let z = ap cell_kind e in omega (arith, z)

    met_not : (v : ℕ) (r : RestState) (p q : Side) → cell.Met v r p q ≡ cell.Free → ⊥
    met_not v r p q e = let z = ap cell_kind e in omega (arith, z)

    claim_gives : (k : ℕ) (x : Cell) (new : Standing) → (worker_at s.workers w).seat ≡ seat.Resting → cell_at s.cells k ≡ x → is_unclaimed x ≡ true → new ≡ claimed s w k x → Gives code s (event.Claim w k) (Ok new)
    claim_gives k cell.Free new rq cq u is = absurd (cc)
    claim_gives k (cell.Taken v) new rq cq u is = absurd (cc)
    claim_gives k (cell.Opened r None p q) new rq cq u is = absurd (cc)
    claim_gives k (cell.Opened r (Some c) p q) new rq cq u is = now (event.Claim w k) (claimed s w k (cell.Opened r (Some c) p q)) (Ok new) is (claim_at k r c p q rq cq (in_range k _ cq (opened_not r (Some c) p q))) (record { workers = length-set _ _ _; records = length-set _ _ _ ∙ length-set _ _ _; heartbeat = refl; forks = refl })
    claim_gives k (cell.Met v r p q) new rq cq u is = absurd (cc)

    -- ---- arrivals

    left_meets : (k : ℕ) (o : Side) (x : Cell) → (cell_of k (met_left w k o x).0 ≡ (core.left_arrives w k (ending.At k Left o) (cell_of k x)).0) × (seat_of (met_left w k o x).1 ≡ (core.left_arrives w k (ending.At k Left o) (cell_of k x)).1)
    left_meets k o cell.Free = (refl, refl)
    left_meets k o (cell.Taken v) = (refl, refl)
    left_meets k o (cell.Opened r c p None) = (refl, refl)
    left_meets k o (cell.Opened r c p (Some q)) = (refl, refl)
    left_meets k o (cell.Met v r p q) = (refl, refl)

    right_meets : (k : ℕ) (o : Side) (x : Cell) → (cell_of k (met_right w k o x).0 ≡ (core.right_arrives w k (ending.At k Right o) (cell_of k x)).0) × (seat_of (met_right w k o x).1 ≡ (core.right_arrives w k (ending.At k Right o) (cell_of k x)).1)
    right_meets k o cell.Free = (refl, refl)
    right_meets k o (cell.Taken v) = (refl, refl)
    right_meets k o (cell.Opened r c None q) = (refl, refl)
    right_meets k o (cell.Opened r c (Some p) q) = (refl, refl)
    right_meets k o (cell.Met v r p q) = (refl, refl)

    -- a record after another free one, of which it is known that it is one of those there are or stays free
    meet_stands : (k : ℕ) (both : Cell × Seat) → (k < length s.cells) ⊎ (cell_of k both.0 ≡ core.free) → stands (met_at s w k both) ≡ core.moved (stands s) w (seat_of both.1) k (cell_of k both.0)
    meet_stands k both u =
        let t0 = with_cell (emptied s w) k cell.Free in
        let t1 = with_cell t0 k both.0 in
        let put_cell : stands t1 ≡ record (stands t0) { cells = put (stands t0).cells k (cell_of k both.0) } = ⊎_elim
        (λ (l : k < length s.cells). stands_cell t0 k both.0 (subst (λ n. k < n) (sym (length-set s.cells k cell.Free)) l))
        (λ (f : cell_of k both.0 ≡ core.free). ⊎_elim
        (λ (l : k < length t0.cells). stands_cell t0 k both.0 l)
        (λ (l : length t0.cells ≤ k). beyond t0 k both.0 l f)
        (cases_lt k (length t0.cells)))
        u in
        stands_seat t1 w both.1 lt1
        ∙ (ap (λ (z : Conf). record z { seats = put z.seats w (seat_of both.1) }) put_cell
        ∙ (ap (λ (z : Conf). record z { seats = put z.seats w (seat_of both.1); cells = put z.cells k (cell_of k both.0) }) (stands_free (emptied s w) k)
        ∙ (ap (λ (z : Conf). record z { seats = put z.seats w (seat_of both.1); cells = put (put z.cells k core.free) k (cell_of k both.0) }) empty_stands
        ∙ (ap (λ (f : Cells). record (stands s) { seats = put (put (stands s).seats w core.resting) w (seat_of both.1); cells = f }) (cells_twice k (cell_of k both.0))
        ∙ ap (λ (f : Seats). record (stands s) { seats = f; cells = put (stands s).cells k (cell_of k both.0) }) (seats_twice (seat_of both.1))))))

    same_met : (k : ℕ) (both : Cell × Seat) → SameRun s (met_at s w k both)
    same_met k both = record { workers = workers_twice both.1; records = length-set _ _ _ ∙ length-set _ _ _; heartbeat = refl; forks = refl }

    -- beyond the last record nothing is there, and nothing comes there
    place_left : (k : ℕ) (o : Side) → (k < length s.cells) ⊎ (cell_of k (met_left w k o (cell_at s.cells k)).0 ≡ core.free)
    place_left k o = ⊎_elim (λ (l : k < length s.cells). inl l) (λ (l : length s.cells ≤ k). inr (ap (λ x. cell_of k (met_left w k o x).0) (cell_beyond s.cells k l))) (cases_lt k (length s.cells))

    place_right : (k : ℕ) (o : Side) → (k < length s.cells) ⊎ (cell_of k (met_right w k o (cell_at s.cells k)).0 ≡ core.free)
    place_right k o = ⊎_elim (λ (l : k < length s.cells). inl l) (λ (l : length s.cells ≤ k). inr (ap (λ x. cell_of k (met_right w k o x).0) (cell_beyond s.cells k l))) (cases_lt k (length s.cells))

    to_moved : (k : ℕ) (a b : core.Cell State RestState Ending) (x y : core.Seat State RestState Ending) → a ≡ b → x ≡ y → core.moved (stands s) w x k a ≡ core.moved (stands s) w y k b
    to_moved k a b x y p q = ap (λ (z : core.Cell State RestState Ending). core.moved (stands s) w x k z) p ∙ ap (λ (z : core.Seat State RestState Ending). core.moved (stands s) w z k b) q

    arrive_at : (k : ℕ) (side : SideName) (o : Side) → (worker_at s.workers w).seat ≡ seat.Ended (ending.At k side o) → Steps code s (event.Arrive w) (met_at s w k (met_side w k side o (cell_at s.cells k)))
    arrive_at k Left o q =
        let m = left_meets k o (cell_at s.cells k) in
        at (event.Arrive w) (met_at s w k (met_left w k o (cell_at s.cells k))) _ (meet_stands k (met_left w k o (cell_at s.cells k)) (place_left k o) ∙ to_moved k _ _ _ _ m.0 m.1)
        (core.arrives_left w k (ending.At k Left o) lt (ap seat_of q) refl)
    arrive_at k Right o q =
        let m = right_meets k o (cell_at s.cells k) in
        at (event.Arrive w) (met_at s w k (met_right w k o (cell_at s.cells k))) _ (meet_stands k (met_right w k o (cell_at s.cells k)) (place_right k o) ∙ to_moved k _ _ _ _ m.0 m.1)
        (core.arrives_right w k (ending.At k Right o) lt (ap seat_of q) refl)

    arrive_gives : (x : Seat) (new : Standing) → (worker_at s.workers w).seat ≡ x → comes_to_record x ≡ true → new ≡ arrived s w x → Gives code s (event.Arrive w) (Ok new)
    arrive_gives seat.Resting new q r is = absurd (cc)
    arrive_gives (seat.Running t d) new q r is = absurd (cc)
    arrive_gives (seat.Forked k l c u) new q r is = absurd (cc)
    arrive_gives (seat.Ended (ending.At k side o)) new q r is = now (event.Arrive w) (met_at s w k (met_side w k side o (cell_at s.cells k))) (Ok new) is (arrive_at k side o q) (same_met k (met_side w k side o (cell_at s.cells k)))
    arrive_gives (seat.Ended (ending.Root o)) new q r is = absurd (cc)
    arrive_gives (seat.Holding k) new q r is = absurd (cc)

    finish_gives : (x : Seat) (new : Standing) → (worker_at s.workers w).seat ≡ x → ends_run x ≡ true → new ≡ finished s w x → Gives code s (event.Finish w) (Ok new)
    finish_gives seat.Resting new q r is = absurd (cc)
    finish_gives (seat.Running t d) new q r is = absurd (cc)
    finish_gives (seat.Forked k l c u) new q r is = absurd (cc)
    finish_gives (seat.Ended (ending.At k side o)) new q r is = absurd (cc)
    finish_gives (seat.Ended (ending.Root o)) new q r is = now (event.Finish w) (finished s w (seat.Ended (ending.Root o))) (Ok new) is
        (at (event.Finish w) (finished s w (seat.Ended (ending.Root o))) _ (ap (λ (z : Conf). record z { outcome = Some (ending.Root o) }) empty_stands) (core.finishes w (ending.Root o) lt (ap seat_of q) refl))
        (record { workers = length-set _ _ _; records = refl; heartbeat = refl; forks = refl })
    finish_gives (seat.Holding k) new q r is = absurd (cc)

    -- ---- freeing

    merged_is : (both : merging.Joined) → seat_of (effects.merged_seat both) ≡ core.merged_seat (merged_of both)
    merged_is (merging.Goes task) = refl
    merged_is (merging.Ends e) = refl

    free_at : (k v : ℕ) (r : RestState) (p q : Side) → (worker_at s.workers w).seat ≡ seat.Holding k → cell_at s.cells k ≡ cell.Met v r p q → Mergeable code r p q → k < length s.cells → Steps code s (event.Free w) (freed_of s w code k (cell.Met v r p q))
    free_at k v r p q sq cq m lk =
        let both = joined code r p q in
        let x = effects.merged_seat both in
        at (event.Free w) (freed_of s w code k (cell.Met v r p q)) _
        (ap (λ (z : Conf). record z { order = without k s.order })
        (stands_seat (with_cell (emptied s w) k cell.Free) w x lt1
        ∙ (ap (λ (z : Conf). record z { seats = put z.seats w (seat_of x) }) (stands_cell (emptied s w) k cell.Free lk)
        ∙ (ap (λ (z : Conf). record z { seats = put z.seats w (seat_of x); cells = put z.cells k core.free }) empty_stands
        ∙ (ap (λ (f : Seats). record (stands s) { seats = f; cells = put (stands s).cells k core.free }) (seats_twice (seat_of x))
        ∙ ap (λ (y : core.Seat State RestState Ending). record (stands s) { seats = put (stands s).seats w y; cells = put (stands s).cells k core.free }) (merged_is both))))))
        (core.frees w k v r (ending.At k Left p) (ending.At k Right q) (merged_of both) lt (ap seat_of sq) (ap (cell_of k) cq)
        (record { joined = both; merge = record { sides = m.sides; rest_belongs = m.rest_belongs; left_belongs = m.left_belongs; right_belongs = m.right_belongs; gives = refl }; is = refl }))

    free_cell : (k : ℕ) (x : Cell) (new : Standing) → (worker_at s.workers w).seat ≡ seat.Holding k → cell_at s.cells k ≡ x → is_met x ≡ true → CellCanMerge code x → new ≡ freed_of s w code k x → Gives code s (event.Free w) (Ok new)
    free_cell k cell.Free new sq cq r m is = absurd (cc)
    free_cell k (cell.Taken v) new sq cq r m is = absurd (cc)
    free_cell k (cell.Opened u c p q) new sq cq r m is = absurd (cc)
    free_cell k (cell.Met v u p q) new sq cq r m is = now (event.Free w) (freed_of s w code k (cell.Met v u p q)) (Ok new) is (free_at k v u p q sq cq m (in_range k _ cq (met_not v u p q)))
        (record { workers = workers_twice (effects.merged_seat (joined code u p q)); records = length-set _ _ _; heartbeat = refl; forks = refl })

    free_gives : (x : Seat) (new : Standing) → (worker_at s.workers w).seat ≡ x → has_met s.cells x ≡ true → CanMerge code s x → new ≡ freed s w code x → Gives code s (event.Free w) (Ok new)
    free_gives seat.Resting new q r m is = absurd (cc)
    free_gives (seat.Running t d) new q r m is = absurd (cc)
    free_gives (seat.Forked k l c u) new q r m is = absurd (cc)
    free_gives (seat.Ended e) new q r m is = absurd (cc)
    free_gives (seat.Holding k) new q r m is = free_cell k (cell_at s.cells k) new q refl r m is

-- ---- the events, where they can happen

module _ (code : Listing) (s : Standing) (w : ℕ) where
  abbrev x : Seat
  x = (worker_at s.workers w).seat

  can_lt : (b : Bool) → (nat_lt w (length s.workers) && b) ≡ true → w < length s.workers
  can_lt b q = lt_is w (length s.workers) (and_left _ b q)

  pub gives_step : (result : Result Standing ApplyFault) → can s (event.Step w) ≡ true → SeatStepped code s w x result → Gives code s (event.Step w) result
  gives_step result q is = seat_gives s w (can_lt _ q) code x result refl (and_right _ _ q) is

  pub gives_open : (new : Standing) → can s (event.Open w) ≡ true → new ≡ opened s w x → Gives code s (event.Open w) (Ok new)
  gives_open new q is = open_gives s w (can_lt _ q) code x new refl (and_right _ _ q) is

  pub gives_claim : (k : ℕ) (new : Standing) → can s (event.Claim w k) ≡ true → new ≡ claimed s w k (cell_at s.cells k) → Gives code s (event.Claim w k) (Ok new)
  gives_claim k new q is =
      let both = and_right (nat_lt w (length s.workers)) (fits s.cells (event.Claim w k) x) q in
      claim_gives s w (can_lt _ q) code k (cell_at s.cells k) new (rest_is s w (can_lt _ q) code x (and_left _ _ both)) refl (and_right _ _ both) is

  pub gives_arrive : (new : Standing) → can s (event.Arrive w) ≡ true → new ≡ arrived s w x → Gives code s (event.Arrive w) (Ok new)
  gives_arrive new q is = arrive_gives s w (can_lt _ q) code x new refl (and_right _ _ q) is

  pub gives_free : (new : Standing) → can s (event.Free w) ≡ true → CanMerge code s x → new ≡ freed s w code x → Gives code s (event.Free w) (Ok new)
  gives_free new q m is = free_gives s w (can_lt _ q) code x new refl (and_right _ _ q) m is

  pub gives_finish : (new : Standing) → can s (event.Finish w) ≡ true → new ≡ finished s w x → Gives code s (event.Finish w) (Ok new)
  gives_finish new q is = finish_gives s w (can_lt _ q) code x new refl (and_right _ _ q) is
