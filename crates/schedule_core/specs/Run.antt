-- Lists of events, and what is said of the configurations that they lead to.
use Rattle.std.specs.Prelude.{ℕ, suc, ◌+◌, ◌*◌, ◌≡◌, ◌≤◌, List, [], ◌∷◌}
use Rattle.schedule_core.specs.Machine.{CoreMachine}
use Rattle.schedule_core.specs.Core.{resting, Config, Event, Choice, CoreStep, goes, beats, ends}
use Rattle.schedule_core.specs.Core.{asks, forks, opens, claims, arrives_left, arrives_right, frees}
use Rattle.schedule_core.specs.Core.{finishes, put}
use Rattle.schedule_core.specs.Sound.{IsOpen, total}

-- a list of events leads from a configuration to another
pub data CoreRun {Task Rest Ending : Type 0} (M : CoreMachine Task Rest Ending)
    (choice : Choice Task Rest Ending) (N K W : ℕ) : Config Task Rest Ending
    → List Event → Config Task Rest Ending → Type 0 where
  here : (c : Config Task Rest Ending) → CoreRun M choice N K W c [] c
  on : (c next last : Config Task Rest Ending) (event : Event) (events : List Event)
      → CoreStep M choice N K W c event next
      → CoreRun M choice N K W next events last
      → CoreRun M choice N K W c (event ∷ events) last

module _ {Task Rest Ending : Type 0} (M : CoreMachine Task Rest Ending)
    (choice : Choice Task Rest Ending) (N K W : ℕ) where
  -- each event of a list is such a one in the configuration in which it happens
  abbrev pub EachEvent : (Config Task Rest Ending → Event → Type 0)
      → {c last : Config Task Rest Ending} {events : List Event}
      → CoreRun M choice N K W c events last
      → Type 0
  EachEvent P (here c) = Unit {0}
  EachEvent P (on c next last event events step run) = P c event × EachEvent P run

-- where a run has its outcome: it is the one that was owed, no record is open and no worker has
-- anything, each beat made a task or was skipped, and H instructions were executed for each task
pub record Finished {Task Rest Ending : Type 0} (H W : ℕ) (out e : Ending)
    (c : Config Task Rest Ending) : Type 0 where
  pub owed : e ≡ out
  pub closed : (k : ℕ) → IsOpen (c.cells k) → ⊥
  pub rest : (w : ℕ) → c.seats w ≡ resting
  pub beats : c.tasks + c.skipped ≡ total W c.beats
  pub paid : c.tasks * H ≤ c.instructions

-- the same of any machine: the outcome meets what was promised, and each beat made a task or was
-- skipped where a record is asked once a beat
pub record Settled {Task Rest Ending : Type 0} (M : CoreMachine Task Rest Ending) (H W : ℕ)
    (out : M.Promise) (e : Ending) (c : Config Task Rest Ending) : Type 0 where
  pub owed : M.meets e out
  pub closed : (k : ℕ) → IsOpen (c.cells k) → ⊥
  pub rest : (w : ℕ) → c.seats w ≡ resting
  pub beats : M.Strict → c.tasks + c.skipped ≡ total W c.beats
  pub paid : c.tasks * H ≤ c.instructions

-- ---- arrivals

-- for each record, the left and the right arrivals since it was opened last
abbrev pub Arrivals : Type 0
Arrivals = ℕ → ℕ × ℕ

abbrev pub one_left : ℕ × ℕ → ℕ × ℕ
one_left seen = (suc seen.0, seen.1)

abbrev pub one_right : ℕ × ℕ → ℕ × ℕ
one_right seen = (seen.0, suc seen.1)

module _ {Task Rest Ending : Type 0} (M : CoreMachine Task Rest Ending)
    (choice : Choice Task Rest Ending) (N K W : ℕ) where
  -- what one event adds
  abbrev pub counted : {c next : Config Task Rest Ending} {event : Event}
      → CoreStep M choice N K W c event next
      → Arrivals
      → Arrivals
  counted (goes w task due after lt q st) seen = seen
  counted (beats w task due after lt q st) seen = seen
  counted (ends w task due e lt q st) seen = seen
  counted (asks w task due answered answer lt q st ch) seen = seen
  counted (forks w task due k task_on child rest lt q st) seen = seen
  counted (opens w k task_on child rest lt lk q) seen = put seen k (0, 0)
  counted (claims w k rest child p q lt a b) seen = seen
  counted (arrives_left w k e lt a b) seen = put seen k (one_left (seen k))
  counted (arrives_right w k e lt a b) seen = put seen k (one_right (seen k))
  counted (frees w k i rest p q both lt a b m) seen = seen
  counted (finishes w e lt a b) seen = seen

  -- what a list of events adds
  abbrev pub counted_in : {c last : Config Task Rest Ending} {events : List Event}
      → CoreRun M choice N K W c events last
      → Arrivals
      → Arrivals
  counted_in (here c) seen = seen
  counted_in (on c next last event events step run) seen = counted_in run (counted step seen)
