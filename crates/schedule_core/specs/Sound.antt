-- Sound configurations: who holds each end, what is promised at each, whose each record is, in
-- which order the records were opened, and what the counts have paid for.
use Rattle.std.specs.Prelude.{ℕ, zero, suc, ◌+◌, ◌*◌, ◌≡◌, ◌≢◌, ◌⊎◌, ◌<◌, ◌≤◌, List, [], ◌∷◌}
use Rattle.std.specs.Prelude.{Option, Some, None, Bool, true, false, nat_eq, if◌then◌else◌}
use Rattle.schedule_core.specs.Machine.{root, left, right, CoreMachine, MergeOwes}
use Rattle.schedule_core.specs.Core.{Seat, resting, running, forked, ended, holding, Cell, free}
use Rattle.schedule_core.specs.Core.{taken, opened, met, Config, top}

-- ---- ends

-- Who holds an end. Where a worker has just forked under a record, that record names the worker,
-- and its two ends are in that worker's hand as well; they are told by the record, and have no
-- holder here.
pub data Holder : Type 0 where
  nobody : Holder
  by_seat : (w : ℕ) → Holder
  by_record : (k : ℕ) → Holder

abbrev pub IsThere : {A : Type 0} → Option A → Type 0
IsThere None = ⊥
IsThere (Some a) = Unit {0}

module _ {Task Rest Ending : Type 0} (M : CoreMachine Task Rest Ending) where
  -- the end that a worker holds: its running task's, its ended task's, or the one that the rest of
  -- a fork keeps
  abbrev pub SeatHas : Seat Task Rest Ending → ℕ → Type 0
  SeatHas resting y = ⊥
  SeatHas (running task due) y = y ≡ M.home task
  SeatHas (forked k on child rest) y = y ≡ M.kept rest
  SeatHas (ended e) y = y ≡ M.end_of e
  SeatHas (holding k) y = ⊥

  -- the ends that a record holds: the one that its rest keeps, its unclaimed child's, and those of
  -- its kept sides
  abbrev pub CellHas : ℕ → Cell Task Rest Ending → ℕ → Type 0
  CellHas k free y = ⊥
  CellHas k (taken w) y = ⊥
  CellHas k (opened rest child p q) y =
      (y ≡ M.kept rest)
      ⊎ (((y ≡ left k) × IsThere p) ⊎ ((y ≡ right k) × (IsThere child ⊎ IsThere q)))
  CellHas k (met w rest p q) y = (y ≡ M.kept rest) ⊎ ((y ≡ left k) ⊎ (y ≡ right k))

module _ {Task Rest Ending : Type 0} (M : CoreMachine Task Rest Ending) (holder : ℕ → Holder) where
  -- what a worker has at an end is that end's holder; a fork's two tasks have the ends of its
  -- record
  abbrev pub SeatEnds : ℕ → Seat Task Rest Ending → Type 0
  SeatEnds w resting = Unit {0}
  SeatEnds w (running task due) = holder (M.home task) ≡ by_seat w
  SeatEnds w (forked k on child rest) =
      (holder (M.kept rest) ≡ by_seat w) × (M.home on ≡ left k) × (M.home child ≡ right k)
  SeatEnds w (ended e) = holder (M.end_of e) ≡ by_seat w
  SeatEnds w (holding k) = Unit {0}

  -- an unclaimed child has the right end, and its side has not arrived
  abbrev pub ChildEnd : ℕ → Option Task → Option Ending → Type 0
  ChildEnd k None q = Unit {0}
  ChildEnd k (Some child) q =
      (q ≡ None) × (holder (right k) ≡ by_record k) × (M.home child ≡ right k)

  -- an end of an open record is held by someone, and by the record where its side has arrived
  abbrev pub SideEnd : ℕ → ℕ → Option Ending → Type 0
  SideEnd k y None = holder y ≢ nobody
  SideEnd k y (Some e) = holder y ≡ by_record k

  -- what a record has at an end is that end's holder; the ends of a record that isn't open are
  -- nobody's
  abbrev pub CellEnds : ℕ → Cell Task Rest Ending → Type 0
  CellEnds k free = (holder (left k) ≡ nobody) × (holder (right k) ≡ nobody)
  CellEnds k (taken w) = (holder (left k) ≡ nobody) × (holder (right k) ≡ nobody)
  CellEnds k (opened rest child p q) =
      (holder (M.kept rest) ≡ by_record k)
      × ChildEnd k child q
      × SideEnd k (left k) p
      × SideEnd k (right k) q
  CellEnds k (met w rest p q) =
      (holder (M.kept rest) ≡ by_record k)
      × (holder (left k) ≡ by_record k)
      × (holder (right k) ≡ by_record k)

  -- the end of the run is live until the finish
  abbrev pub RootEnd : Option Ending → Type 0
  RootEnd None = holder root ≢ nobody
  RootEnd (Some e) = holder root ≡ nobody

-- each live end has exactly one holder, and no other end has one
pub record Ends {Task Rest Ending : Type 0} (M : CoreMachine Task Rest Ending) (holder : ℕ → Holder)
    (c : Config Task Rest Ending) : Type 0 where
  pub seats : (w : ℕ) → SeatEnds M holder w (c.seats w)
  pub records : (k : ℕ) → CellEnds M holder k (c.cells k)
  pub of_seat : (y w : ℕ) → holder y ≡ by_seat w → SeatHas M (c.seats w) y
  pub of_record : (y k : ℕ) → holder y ≡ by_record k → CellHas M k (c.cells k) y
  pub run : RootEnd M holder c.outcome

-- ---- what is owed

module _ {Task Rest Ending : Type 0} (M : CoreMachine Task Rest Ending) (promise : ℕ → M.Promise)
  where
    -- a rest, merged with endings that meet the promises of its record's two ends, keeps that of
    -- the end that it keeps
    abbrev pub RestOwes : ℕ → Rest → Type 0
    RestOwes k rest =
        MergeOwes M (promise (M.kept rest)) rest (promise (left k)) (promise (right k))

    abbrev pub SeatOwes : Seat Task Rest Ending → Type 0
    SeatOwes resting = Unit {0}
    SeatOwes (running task due) = M.owes due task (promise (M.home task))
    SeatOwes (forked k on child rest) =
        M.owes false on (promise (left k)) × M.owes false child (promise (right k))
        × RestOwes k rest
    SeatOwes (ended e) = M.meets e (promise (M.end_of e))
    SeatOwes (holding k) = Unit {0}

    abbrev pub ChildOwes : ℕ → Option Task → Type 0
    ChildOwes k None = Unit {0}
    ChildOwes k (Some child) = M.owes false child (promise (right k))

    abbrev pub SideIs : ℕ → Option Ending → Type 0
    SideIs y None = Unit {0}
    SideIs y (Some e) = M.meets e (promise y)

    abbrev pub CellOwes : ℕ → Cell Task Rest Ending → Type 0
    CellOwes k free = Unit {0}
    CellOwes k (taken w) = Unit {0}
    CellOwes k (opened rest child p q) =
        RestOwes k rest × ChildOwes k child × SideIs (left k) p × SideIs (right k) q
    CellOwes k (met w rest p q) =
        RestOwes k rest × M.meets p (promise (left k)) × M.meets q (promise (right k))

-- each live end has one promise; who holds it keeps that promise or meets it, and that of the run
-- is `out`
pub record Owed {Task Rest Ending : Type 0} (M : CoreMachine Task Rest Ending)
    (promise : ℕ → M.Promise) (out : M.Promise) (c : Config Task Rest Ending) : Type 0 where
  pub seats : (w : ℕ) → SeatOwes M promise (c.seats w)
  pub records : (k : ℕ) → CellOwes M promise k (c.cells k)
  pub run : promise root ≡ out
  pub outcome : (e : Ending) → c.outcome ≡ Some e → M.meets e out

-- ---- records

module _ {Task Rest Ending : Type 0} (M : CoreMachine Task Rest Ending) where
  -- a pending record is taken by the task's worker
  abbrev pub IsPending : (ℕ → Cell Task Rest Ending) → ℕ → Option ℕ → Type 0
  IsPending cells w None = Unit {0}
  IsPending cells w (Some k) = cells k ≡ taken w

  -- a record that a worker holds as met
  pub record IsMet (cells : ℕ → Cell Task Rest Ending) (w k : ℕ) : Type 0 where
    pub rest : Rest
    pub p : Ending
    pub q : Ending
    pub is : cells k ≡ met w rest p q

  -- the records in a worker's hand: the one that is pending, the one forked under, the one that it
  -- has met
  abbrev pub SeatRecord : (ℕ → Cell Task Rest Ending) → ℕ → Seat Task Rest Ending → Type 0
  SeatRecord cells w resting = Unit {0}
  SeatRecord cells w (running task due) = IsPending cells w (M.pending task)
  SeatRecord cells w (forked k on child rest) =
      (cells k ≡ taken w) × (M.pending on ≡ None) × (M.pending child ≡ None)
  SeatRecord cells w (ended e) = Unit {0}
  SeatRecord cells w (holding k) = IsMet cells w k

  -- a record that is pending with a worker's task, or that it just forked under
  abbrev pub SeatTakes : Seat Task Rest Ending → ℕ → Type 0
  SeatTakes resting k = ⊥
  SeatTakes (running task due) k = M.pending task ≡ Some k
  SeatTakes (forked j on child rest) k = j ≡ k
  SeatTakes (ended e) k = ⊥
  SeatTakes (holding j) k = ⊥

  abbrev pub ChildRecord : Option Task → Type 0
  ChildRecord None = Unit {0}
  ChildRecord (Some child) = M.pending child ≡ None

  -- a record that is taken or met is in the hand of the worker that it names
  abbrev pub CellRecord : (ℕ → Seat Task Rest Ending) → ℕ → Cell Task Rest Ending → Type 0
  CellRecord seats k free = Unit {0}
  CellRecord seats k (taken w) = SeatTakes (seats w) k
  CellRecord seats k (opened rest child p q) = ChildRecord child
  CellRecord seats k (met w rest p q) = seats w ≡ holding k

-- a free record is in no hand; a taken or met one is in exactly one; and there are K records
pub record Records {Task Rest Ending : Type 0} (M : CoreMachine Task Rest Ending) (K : ℕ)
    (c : Config Task Rest Ending) : Type 0 where
  pub seats : (w : ℕ) → SeatRecord M c.cells w (c.seats w)
  pub records : (k : ℕ) → CellRecord M c.seats k (c.cells k)
  pub beyond : (k : ℕ) → K ≤ k → c.cells k ≡ free

-- ---- order

-- the place of a record in a list, counted from 1; 0 where it isn't there
abbrev pub later : ℕ → ℕ
later zero = zero
later (suc n) = suc (suc n)

abbrev pub place : List ℕ → ℕ → ℕ
place [] k = 0
place (j ∷ js) k = if nat_eq j k then 1 else later (place js k)

-- each record of a list is there once
abbrev pub IsOnce : List ℕ → Type 0
IsOnce [] = Unit {0}
IsOnce (k ∷ ks) = (place ks k ≡ 0) × IsOnce ks

module _ {Task Rest Ending : Type 0} where
  abbrev pub IsOpen : Cell Task Rest Ending → Type 0
  IsOpen free = ⊥
  IsOpen (taken w) = ⊥
  IsOpen (opened rest child p q) = Unit {0}
  IsOpen (met w rest p q) = Unit {0}

  -- the end that an open record's rest keeps
  abbrev pub kept_of : CoreMachine Task Rest Ending → Cell Task Rest Ending → ℕ
  kept_of M free = root
  kept_of M (taken w) = root
  kept_of M (opened rest child p q) = M.kept rest
  kept_of M (met w rest p q) = M.kept rest

  -- the rest of a record keeps an end of record j
  abbrev pub KeepsEndOf : CoreMachine Task Rest Ending → Cell Task Rest Ending → ℕ → Type 0
  KeepsEndOf M x j = (kept_of M x ≡ left j) ⊎ (kept_of M x ≡ right j)

-- the list of a configuration has the open records, each once; and where a record's rest keeps an
-- end of another, the other was opened before
pub record Order {Task Rest Ending : Type 0} (M : CoreMachine Task Rest Ending)
    (cells : ℕ → Cell Task Rest Ending) (order : List ℕ) : Type 0 where
  pub listed : (k : ℕ) → IsOpen (cells k) → 0 < place order k
  pub is_open : (k : ℕ) → 0 < place order k → IsOpen (cells k)
  pub once : IsOnce order
  pub below : (k j : ℕ) → KeepsEndOf M (cells k) j → place order j < place order k

-- ---- counts

abbrev pub total : ℕ → (ℕ → ℕ) → ℕ
total zero f = 0
total (suc n) f = total n f + f n

abbrev pub one_if : Bool → ℕ
one_if true = 1
one_if false = 0

abbrev pub one_there : Option ℕ → ℕ
one_there None = 0
one_there (Some k) = 1

module _ {Task Rest Ending : Type 0} (M : CoreMachine Task Rest Ending) (H : ℕ) where
  -- the beats of a worker whose record is still to be asked for, or isn't open yet
  abbrev pub owing : Seat Task Rest Ending → ℕ
  owing resting = 0
  owing (running task due) = one_if due + one_there (M.pending task)
  owing (forked k on child rest) = 1
  owing (ended e) = 0
  owing (holding k) = 0

  -- the instructions of a worker that no opened task has been paid with
  abbrev pub saved : Seat Task Rest Ending → ℕ
  saved resting = 0
  saved (running task due) = M.credit task
  saved (forked k on child rest) = H + M.credit on
  saved (ended e) = 0
  saved (holding k) = 0

module _ {Task Rest Ending : Type 0} (M : CoreMachine Task Rest Ending) where
  -- a child that isn't running has counted nothing
  abbrev pub SeatFresh : Seat Task Rest Ending → Type 0
  SeatFresh resting = Unit {0}
  SeatFresh (running task due) = Unit {0}
  SeatFresh (forked k on child rest) = M.credit child ≡ 0
  SeatFresh (ended e) = Unit {0}
  SeatFresh (holding k) = Unit {0}

  abbrev pub CellFresh : Cell Task Rest Ending → Type 0
  CellFresh free = Unit {0}
  CellFresh (taken w) = Unit {0}
  CellFresh (opened rest None p q) = Unit {0}
  CellFresh (opened rest (Some child) p q) = M.credit child ≡ 0
  CellFresh (met w rest p q) = Unit {0}

-- so many instructions were counted, or the count stands at its end
abbrev pub Paid : ℕ → ℕ → Type 0
Paid x n = (x ≤ n) ⊎ (n ≡ top)

-- where a record is asked once a beat, each beat is a task, skipped or still at work; H
-- instructions pay for each task and what isn't used is saved; and no worker has more beats than it
-- is allowed
pub record Counts {Task Rest Ending : Type 0} (M : CoreMachine Task Rest Ending) (H N W : ℕ)
    (c : Config Task Rest Ending) : Type 0 where
  pub beats : M.Strict
      → total W c.beats ≡ c.tasks + c.skipped + total W (λ w. owing M H (c.seats w))
  pub paid : Paid (c.tasks * H + total W (λ w. saved M H (c.seats w))) c.instructions
  pub allowed : (w : ℕ) → c.beats w ≤ N
  pub seats : (w : ℕ) → SeatFresh M (c.seats w)
  pub records : (k : ℕ) → CellFresh M (c.cells k)

-- ---- soundness

-- a configuration of W workers and K records, with heartbeat H and N beats allowed to each worker,
-- is sound for what is promised of the run's end
pub record Sound {Task Rest Ending : Type 0} (M : CoreMachine Task Rest Ending) (H N K W : ℕ)
    (out : M.Promise) (c : Config Task Rest Ending) : Type 0 where
  pub holder : ℕ → Holder
  pub promise : ℕ → M.Promise
  pub ends : Ends M holder c
  pub owed : Owed M promise out c
  pub records : Records M K c
  pub order : Order M c.cells c.order
  pub counts : Counts M H N W c
