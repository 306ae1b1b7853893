-- What the core of all interleavings uses of a machine that runs one task.
use Rattle.std.specs.Prelude.{ℕ, suc, ◌+◌, ◌*◌, ◌≡◌, ◌≢◌, ◌<◌, ◌≤◌, Option, Some, None, Bool, true}
use Rattle.std.specs.Prelude.{false}

-- ---- ends

-- An end is told by a number: 0 is the end of the whole run, and record k has two ends.
abbrev pub root : ℕ
root = 0

-- the end of the task that forked under record k
abbrev pub left : ℕ → ℕ
left k = 2 * k + 1

-- the end of the task that was forked under record k
abbrev pub right : ℕ → ℕ
right k = 2 * k + 2

-- ---- what a step and a merge come to

-- what a step comes to: the next task, the task that a beat diverted, what the task ends with, for
-- each answer the task that asked for a record and was given it, the parts of a fork, or nothing
pub data Turn (Task Rest Ending : Type 0) : Type 0 where
  Goes : (next : Task) → Turn Task Rest Ending
  Beats : (diverted : Task) → Turn Task Rest Ending
  Ends : (e : Ending) → Turn Task Rest Ending
  Asks : (answered : Option ℕ → Task) → Turn Task Rest Ending
  Forks : (k : ℕ) (on child : Task) (rest : Rest) → Turn Task Rest Ending
  Stuck : Turn Task Rest Ending

-- what a rest and the endings of its two sides come to: a task that goes on, or an ending
pub data Merged (Task Ending : Type 0) : Type 0 where
  Runs : (task : Task) → Merged Task Ending
  Over : (e : Ending) → Merged Task Ending

-- A machine, for one code and one heartbeat: its step, where a diversion is allowed or not; its
-- merge, which gives nothing where two endings aren't of the rest's record; the end of a task, of
-- what a rest becomes and of an ending; the record that a task was given and hasn't used; the
-- instructions that a task may pay for a fork with; and what may be promised at an end: that a task
-- keeps a promise, where a beat came for which no record was asked yet or none came, and that an
-- ending meets it. `Strict`: tasks that keep a promise ask for a record once a beat. `Sticks`:
-- their step may be stuck.
pub record CoreMachine (Task Rest Ending : Type 0) : Type 1 where
  pub turn : Bool → Task → Turn Task Rest Ending
  pub merges : Rest → Ending → Ending → Merged Task Ending → Type 0
  pub home : Task → ℕ
  pub kept : Rest → ℕ
  pub end_of : Ending → ℕ
  pub pending : Task → Option ℕ
  pub credit : Task → ℕ
  pub Promise : Type 0
  pub owes : Bool → Task → Promise → Type 0
  pub meets : Ending → Promise → Type 0
  pub Strict : Type 0
  pub Sticks : Type 0

-- ---- what is owed

module _ {Task Rest Ending : Type 0} (M : CoreMachine Task Rest Ending) where
  abbrev pub MergedOwes : M.Promise → Merged Task Ending → Type 0
  MergedOwes e (Runs task) = M.owes false task e
  MergedOwes e (Over other) = M.meets other e

  -- a rest and two endings can be merged, and whatever they come to keeps a promise
  pub record MergesWell (e : M.Promise) (rest : Rest) (p q : Ending) : Type 0 where
    pub both : Merged Task Ending
    pub merges : M.merges rest p q both
    pub owes : (other : Merged Task Ending) → M.merges rest p q other → MergedOwes e other

  -- a rest, merged with any endings that meet these promises, keeps a promise
  abbrev pub MergeOwes : M.Promise → Rest → M.Promise → M.Promise → Type 0
  MergeOwes e rest p q = (x y : Ending) → M.meets x p → M.meets y q → MergesWell e rest x y

  -- the two sides of a fork keep a promise each, and with these the rest keeps one
  pub record ForkOwes (e : M.Promise) (on child : Task) (rest : Rest) : Type 0 where
    pub p : M.Promise
    pub q : M.Promise
    pub on_owes : M.owes false on p
    pub child_owes : M.owes false child q
    pub merged : MergeOwes e rest p q

  -- a record whose end isn't that of a task
  abbrev pub IsOther : ℕ → ℕ → ℕ → Type 0
  IsOther K y k = (k < K) × (y ≢ left k) × (y ≢ right k)

  -- whether a beat came for which no record was asked yet shows where a record is asked once a beat
  abbrev pub IsDue : Bool → Bool → Type 0
  IsDue due wanted = M.Strict → due ≡ wanted

  -- what a task at an end owes by its step, where there are K records
  abbrev pub TurnOwes : ℕ → ℕ → Bool → M.Promise → Turn Task Rest Ending → Type 0
  TurnOwes K y due e (Goes next) = M.owes due next e
  TurnOwes K y due e (Beats diverted) = IsDue due false × M.owes true diverted e
  TurnOwes K y due e (Ends other) = IsDue due false × M.meets other e
  TurnOwes K y due e (Asks answered) =
      IsDue due true
      × M.owes false (answered None) e
      × ((k : ℕ) → IsOther K y k → M.owes false (answered (Some k)) e)
  TurnOwes K y due e (Forks k on child rest) = IsDue due false × ForkOwes e on child rest
  TurnOwes K y due e Stuck = M.Sticks

  -- ---- what a step keeps

  -- one step after a task, at the same end and with the same record at hand
  abbrev pub SameTask : Task → Task → Type 0
  SameTask task next =
      (M.home next ≡ M.home task)
      × (M.pending next ≡ M.pending task)
      × (M.credit next ≤ suc (M.credit task))

  abbrev pub KeepsTurn : ℕ → Bool → Task → Turn Task Rest Ending → Type 0
  KeepsTurn H allowed task (Goes next) = SameTask task next
  KeepsTurn H allowed task (Beats diverted) = (allowed ≡ true) × SameTask task diverted
  KeepsTurn H allowed task (Ends e) = (M.end_of e ≡ M.home task) × (M.pending task ≡ None)
  KeepsTurn H allowed task (Asks answered) =
      (M.pending task ≡ None)
      × ((o : Option ℕ)
      → (M.home (answered o) ≡ M.home task)
      × (M.pending (answered o) ≡ o)
      × (M.credit (answered o) ≤ suc (M.credit task)))
  KeepsTurn H allowed task (Forks k on child rest) =
      (M.pending task ≡ Some k)
      × (M.kept rest ≡ M.home task)
      × (M.home on ≡ left k)
      × (M.home child ≡ right k)
      × (M.pending on ≡ None)
      × (M.pending child ≡ None)
      × (H + M.credit on ≤ suc (M.credit task))
      × (M.credit child ≡ 0)
  KeepsTurn H allowed task Stuck = Unit {0}

  abbrev pub KeepsMerge : Rest → Merged Task Ending → Type 0
  KeepsMerge rest (Runs task) =
      (M.home task ≡ M.kept rest) × (M.pending task ≡ None) × (M.credit task ≡ 0)
  KeepsMerge rest (Over e) = M.end_of e ≡ M.kept rest

-- The laws of a machine with heartbeat H, for K records: what a task owes shows at its step; what a
-- step of a task that keeps a promise keeps, and a merge.
pub record Lawful {Task Rest Ending : Type 0} (M : CoreMachine Task Rest Ending) (H K : ℕ) : Type 0
  where
    pub invert : (allowed due : Bool) (task : Task) (e : M.Promise)
        → M.owes due task e
        → TurnOwes M K (M.home task) due e (M.turn allowed task)
    pub keeps : (allowed due : Bool) (task : Task) (e : M.Promise)
        → M.owes due task e
        → KeepsTurn M H allowed task (M.turn allowed task)
    pub merged : (rest : Rest) (p q : Ending) (both : Merged Task Ending) → M.merges rest p q both
        → KeepsMerge M rest both
