-- Configurations of workers and records, and the events that change them.
use Rattle.std.specs.Prelude.{ℕ, ◌+◌, ◌-◌, ◌^◌, min, ◌≡◌, ◌≢◌, ◌<◌, List, [], ◌∷◌, ◌++◌, Option}
use Rattle.std.specs.Prelude.{Some, None, Bool, true, false, not, nat_eq, nat_lt, if◌then◌else◌}
use Rattle.std.specs.List.{filter}
use Rattle.schedule_core.specs.Machine.{root, left, right, CoreMachine, Merged, Runs, Over, Goes}
use Rattle.schedule_core.specs.Machine.{Beats, Ends, Asks, Forks}

-- ---- configurations

-- what a worker has: nothing, a running task and whether a beat came for which it asked for no
-- record yet, a task that just forked under a record with its child and its rest, an ended task
-- that has yet to arrive, or a record that both sides have met
pub data Seat (Task Rest Ending : Type 0) : Type 0 where
  resting : Seat Task Rest Ending
  running : (task : Task) (due : Bool) → Seat Task Rest Ending
  forked : (k : ℕ) (on child : Task) (rest : Rest) → Seat Task Rest Ending
  ended : (e : Ending) → Seat Task Rest Ending
  holding : (k : ℕ) → Seat Task Rest Ending

-- a record: free, taken by a worker's task, open with its rest, its child where that is unclaimed
-- and the endings of the sides that arrived, or met by both sides, the second of which a worker
-- brought
pub data Cell (Task Rest Ending : Type 0) : Type 0 where
  free : Cell Task Rest Ending
  taken : (w : ℕ) → Cell Task Rest Ending
  opened : (rest : Rest) (child : Option Task) (p q : Option Ending) → Cell Task Rest Ending
  met : (w : ℕ) (rest : Rest) (p q : Ending) → Cell Task Rest Ending

-- what each worker has, what each record holds, the records between their opening and their freeing
-- in the order in which they were opened, the outcome that is kept with the finish flag, each
-- worker's beats, and the counts
pub record Config (Task Rest Ending : Type 0) : Type 0 where
  pub seats : ℕ → Seat Task Rest Ending
  pub cells : ℕ → Cell Task Rest Ending
  pub order : List ℕ
  pub outcome : Option Ending
  pub beats : ℕ → ℕ
  pub tasks : ℕ
  pub skipped : ℕ
  pub instructions : ℕ

-- ---- changes

-- a function with another value at a number
unfoldable pub put : {A : Type 0} → (ℕ → A) → ℕ → A → ℕ → A
put f k x y = if nat_eq y k then x else f y

-- the end of a count's type
abbrev pub top : ℕ
top = 2 ^ 64 - 1

-- one more; a count stays at its type's end
abbrev pub one_more : ℕ → ℕ
one_more n = min (n + 1) top

-- a list without a record
abbrev pub without : ℕ → List ℕ → List ℕ
without k js = filter (λ j. not (nat_eq j k)) js

-- whether a worker with so many beats may be diverted, where N are allowed
abbrev pub is_allowed : ℕ → ℕ → Bool
is_allowed N beats = nat_lt beats N

module _ {Task Rest Ending : Type 0} where
  -- the worker has something else, after one more instruction
  abbrev pub stepped : Config Task Rest Ending → ℕ → Seat Task Rest Ending → Config Task Rest Ending
  stepped c w s = record c { seats = put c.seats w s; instructions = one_more c.instructions }

  -- the worker's task was diverted
  abbrev pub diverted : Config Task Rest Ending → ℕ → Task → Config Task Rest Ending
  diverted c w task =
      record c {
        seats = put c.seats w (running task true);
        beats = put c.beats w (one_more (c.beats w));
        instructions = one_more c.instructions;
      }

  -- the worker's task was given an answer: a record, or none, which is skipped
  abbrev pub given : Config Task Rest Ending → ℕ → Task → Option ℕ → Config Task Rest Ending
  given c w task None =
      record c {
        seats = put c.seats w (running task false);
        skipped = one_more c.skipped;
        instructions =
            one_more c.instructions;
      }
  given c w task (Some k) =
      record c {
        seats = put c.seats w (running task false);
        cells = put c.cells k (taken w);
        instructions =
            one_more c.instructions;
      }

  -- the record that the worker's task forked under is open, and the worker runs the task that
  -- forked
  abbrev pub opens_record : Config Task Rest Ending → ℕ → ℕ → Task → Task → Rest
      → Config Task Rest Ending
  opens_record c w k on child rest =
      record c {
        seats = put c.seats w (running on false);
        cells = put c.cells k
            (opened rest (Some child) None None);
        order = c.order
            ++ k ∷ [];
        tasks = one_more c.tasks;
      }

  -- the worker and a record have something else
  abbrev pub moved : Config Task Rest Ending → ℕ → Seat Task Rest Ending → ℕ → Cell Task Rest Ending
      → Config Task Rest Ending
  moved c w s k x = record c { seats = put c.seats w s; cells = put c.cells k x }

  -- the record is free, and the worker has what its sides were merged to
  abbrev pub freed : Config Task Rest Ending → ℕ → Seat Task Rest Ending → ℕ
      → Config Task Rest Ending
  freed c w s k =
      record c { seats = put c.seats w s; cells = put c.cells k free; order = without k c.order }

  -- the run has its outcome
  abbrev pub over : Config Task Rest Ending → ℕ → Ending → Config Task Rest Ending
  over c w e = record c { seats = put c.seats w resting; outcome = Some e }

  -- what a worker has with what its task was merged to
  abbrev pub merged_seat : Merged Task Ending → Seat Task Rest Ending
  merged_seat (Runs task) = running task false
  merged_seat (Over e) = ended e

  -- a left side arrives, brought by a worker: the record after it, and what the worker has then.
  -- The first to arrive is kept, and the second has met the record
  abbrev pub left_arrives : ℕ
      → ℕ
      → Ending
      → Cell Task Rest Ending
      → Cell Task Rest Ending × Seat Task Rest Ending
  left_arrives w k e free = (free, resting)
  left_arrives w k e (taken i) = (taken i, resting)
  left_arrives w k e (opened rest child p None) = (opened rest child (Some e) None, resting)
  left_arrives w k e (opened rest child p (Some q)) = (met w rest e q, holding k)
  left_arrives w k e (met i rest p q) = (met i rest p q, resting)

  -- a right side arrives
  abbrev pub right_arrives : ℕ
      → ℕ
      → Ending
      → Cell Task Rest Ending
      → Cell Task Rest Ending × Seat Task Rest Ending
  right_arrives w k e free = (free, resting)
  right_arrives w k e (taken i) = (taken i, resting)
  right_arrives w k e (opened rest child None q) = (opened rest child None (Some e), resting)
  right_arrives w k e (opened rest child (Some p) q) = (met w rest p e, holding k)
  right_arrives w k e (met i rest p q) = (met i rest p q, resting)

-- ---- events

-- an event of a worker; that of a claim names the record too
pub data Event : Type 0 where
  Step : (w : ℕ) → Event
  Open : (w : ℕ) → Event
  Claim : (w k : ℕ) → Event
  Arrive : (w : ℕ) → Event
  Free : (w : ℕ) → Event
  Finish : (w : ℕ) → Event

-- which answers a question for a record may have: among K records, by what each holds
abbrev pub Choice : Type 0 → Type 0 → Type 0 → Type 1
Choice Task Rest Ending = ℕ → (ℕ → Cell Task Rest Ending) → Option ℕ → Type 0

module _ {Task Rest Ending : Type 0} where
  -- any free record, or none
  abbrev pub AnyFree : Choice Task Rest Ending
  AnyFree K cells None = Unit {0}
  AnyFree K cells (Some k) = (k < K) × (cells k ≡ free)

  -- the least free record, and none only where no record is free
  abbrev pub LeastFree : Choice Task Rest Ending
  LeastFree K cells None = (j : ℕ) → j < K → cells j ≢ free
  LeastFree K cells (Some k) = (k < K) × (cells k ≡ free) × ((j : ℕ) → j < k → cells j ≢ free)

-- One event of W workers over K records, where each worker may be diverted N times.
pub data CoreStep {Task Rest Ending : Type 0} (M : CoreMachine Task Rest Ending)
    (choice : Choice Task Rest Ending) (N K W : ℕ) (c : Config Task Rest Ending) : Event
    → Config Task Rest Ending → Type 0 where
  -- a worker's task takes one step
  goes : (w : ℕ) (task : Task) (due : Bool) (next : Task)
      → w < W
      → c.seats w ≡ running task due
      → M.turn (is_allowed N (c.beats w)) task ≡ Goes next
      → CoreStep M choice N K W c (Step w) (stepped c w (running next due))
  beats : (w : ℕ) (task : Task) (due : Bool) (next : Task)
      → w < W
      → c.seats w ≡ running task due
      → M.turn (is_allowed N (c.beats w)) task ≡ Beats next
      → CoreStep M choice N K W c (Step w) (diverted c w next)
  ends : (w : ℕ) (task : Task) (due : Bool) (e : Ending)
      → w < W
      → c.seats w ≡ running task due
      → M.turn (is_allowed N (c.beats w)) task ≡ Ends e
      → CoreStep M choice N K W c (Step w) (stepped c w (ended e))
  asks : (w : ℕ) (task : Task) (due : Bool) (answered : Option ℕ → Task) (answer : Option ℕ)
      → w < W
      → c.seats w ≡ running task due
      → M.turn (is_allowed N (c.beats w)) task ≡ Asks answered
      → choice K c.cells answer
      → CoreStep M choice N K W c (Step w) (given c w (answered answer) answer)
  forks : (w : ℕ) (task : Task) (due : Bool) (k : ℕ) (on child : Task) (rest : Rest)
      → w < W
      → c.seats w ≡ running task due
      → M.turn (is_allowed N (c.beats w)) task ≡ Forks k on child rest
      → CoreStep M choice N K W c (Step w) (stepped c w (forked k on child rest))
  -- a worker whose task has just forked opens the record
  opens : (w k : ℕ) (on child : Task) (rest : Rest)
      → w < W
      → k < K
      → c.seats w ≡ forked k on child rest
      → CoreStep M choice N K W c (Open w) (opens_record c w k on child rest)
  -- a worker that has nothing takes the child of an open record
  claims : (w k : ℕ) (rest : Rest) (child : Task) (p q : Option Ending)
      → w < W
      → c.seats w ≡ resting
      → c.cells k ≡ opened rest (Some child) p q
      → CoreStep M choice N K W c (Claim w k)
      (moved c w (running child false) k (opened rest None p q))
  -- a worker's ended task arrives at its record
  arrives_left : (w k : ℕ) (e : Ending)
      → w < W
      → c.seats w ≡ ended e
      → M.end_of e ≡ left k
      → CoreStep M choice N K W c (Arrive w)
      (moved c w ((left_arrives w k e (c.cells k)).1) k ((left_arrives w k e (c.cells k)).0))
  arrives_right : (w k : ℕ) (e : Ending)
      → w < W
      → c.seats w ≡ ended e
      → M.end_of e ≡ right k
      → CoreStep M choice N K W c (Arrive w)
      (moved c w ((right_arrives w k e (c.cells k)).1) k ((right_arrives w k e (c.cells k)).0))
  -- a worker frees the record that it has met
  frees : (w k i : ℕ) (rest : Rest) (p q : Ending) (both : Merged Task Ending)
      → w < W
      → c.seats w ≡ holding k
      → c.cells k ≡ met i rest p q
      → M.merges rest p q both
      → CoreStep M choice N K W c (Free w) (freed c w (merged_seat both) k)
  -- the run ends with what a worker's task ended with
  finishes : (w : ℕ) (e : Ending)
      → w < W
      → c.seats w ≡ ended e
      → M.end_of e ≡ root
      → CoreStep M choice N K W c (Finish w) (over c w e)

-- the first configuration: worker 0 runs the first task
abbrev pub first : {Task Rest Ending : Type 0} → Task → Config Task Rest Ending
first task =
    record {
      seats = put (λ w. resting) 0 (running task false);
      cells = λ k. free;
      order = [];
      outcome = None;
      beats = λ w. 0;
      tasks = 0;
      skipped = 0;
      instructions = 0;
    }
