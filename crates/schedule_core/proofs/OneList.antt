-- One worker that is given the least free record, and that claims the record that was opened last,
-- has one list of events to an outcome.
use Rattle.std.proofs.Common.{◌≡◌, ℕ, zero, suc, ◌*◌, ◌<◌, ◌≤◌, ◌⊎◌, inl, inr, ⊎_elim, List}
use Rattle.std.proofs.Common.{Option, Some, None, false, [], ◌∷◌, refl, sym, ap, ◌∙◌, subst, arith}
use Rattle.std.proofs.lemmas.Bool.{cases_eq}
use Rattle.std.specs.Prelude.{Bool}
use Rattle.slices.specs.Holding.{Holding}
use Rattle.tp_value.specs.declared.values.Outcome.{Outcome}
use Rattle.tpal_syntax.specs.Conditions.{IsCode}
use Rattle.tpal_syntax.specs.Listing.{Listing}
use Rattle.tpal_machine.specs.declared.ends.Ending.{Ending}
use Rattle.tpal_machine.specs.declared.ends.Ending.TheVariants as ending
use Rattle.tpal_machine.specs.Owes.{Owes}
use Rattle.tpal_machine.specs.RestState.{RestState}
use Rattle.tpal_machine.specs.State.{State, first_state}
use Rattle.schedule_core.specs.declared.lanes.Tally.{Tally}
use Rattle.schedule_core.specs.Core.{top, is_allowed, Seat, resting, running, forked, ended, holding}
use Rattle.schedule_core.specs.Core.{Cell, free, taken, opened, met, Config, Event, Step, Open, Claim}
use Rattle.schedule_core.specs.Core.{Arrive, Free, Finish, LeastFree, CoreStep, goes, beats}
use Rattle.schedule_core.specs.Core.{ends, asks, forks, opens, claims, arrives_left, arrives_right}
use Rattle.schedule_core.specs.Core.{frees, finishes, stepped, diverted, given, opens_record, moved}
use Rattle.schedule_core.specs.Core.{freed, over, merged_seat, left_arrives, right_arrives, first}
use Rattle.schedule_core.specs.Enabled.{IsUnclaimed}
use Rattle.schedule_core.specs.Machine as machine
use Rattle.schedule_core.specs.Machine.{left, right, root, Merged, Turn}
use Rattle.schedule_core.specs.Run.{CoreRun, EachEvent, Finished}
use Rattle.schedule_core.specs.Run as running_on
use Rattle.schedule_core.specs.Sharing.{ClaimsLast, SharedRun}
use Rattle.schedule_core.specs.Solo.{records}
use Rattle.schedule_core.specs.Sound.{Sound, IsOpen, place}
use Rattle.schedule_core.specs.Tasks.{tasks}
use Rattle.schedule_core.proofs.Asked.{any_of}
use Rattle.schedule_core.proofs.Instance.{one_merge}
use Rattle.schedule_core.proofs.Places.{place_one}
use Rattle.schedule_core.proofs.Ruling.{begins_sound, event_sound, ends_owed}

abbrev Core : Type 0
Core = Config State RestState Ending

module _ (code : Listing) (H N : ℕ) where
  -- what a turn of the worker's task comes to
  abbrev AfterTurn : Core → Bool → Turn State RestState Ending → Core → Type 0
  AfterTurn c due (machine.Goes next) d = d ≡ stepped c 0 (running next due)
  AfterTurn c due (machine.Beats next) d = d ≡ diverted c 0 next
  AfterTurn c due (machine.Ends e) d = d ≡ stepped c 0 (ended e)
  AfterTurn c due (machine.Asks answered) d =
      (o : Option ℕ) × LeastFree records c.cells o × (d ≡ given c 0 (answered o) o)
  AfterTurn c due (machine.Forks k on child rest) d = d ≡ stepped c 0 (forked k on child rest)
  AfterTurn c due machine.Stuck d = ⊥

  -- a side's arrival
  abbrev left_side : Core → Ending → ℕ → Core
  left_side c e k =
      moved c 0 ((left_arrives 0 k e (c.cells k)).1) k ((left_arrives 0 k e (c.cells k)).0)

  abbrev right_side : Core → Ending → ℕ → Core
  right_side c e k =
      moved c 0 ((right_arrives 0 k e (c.cells k)).1) k ((right_arrives 0 k e (c.cells k)).0)

  -- what an ended task comes to, by its end's number
  data AfterEnd (c : Core) (e : Ending) (end : ℕ) (v : Event) (d : Core) : Type 0 where
    lefts : (k : ℕ) → end ≡ left k → v ≡ Arrive 0 → d ≡ left_side c e k → AfterEnd c e end v d
    rights : (k : ℕ) → end ≡ right k → v ≡ Arrive 0 → d ≡ right_side c e k → AfterEnd c e end v d
    roots : end ≡ root → v ≡ Finish 0 → d ≡ over c 0 e → AfterEnd c e end v d

  -- the claim of a record
  abbrev claimed : Core → ℕ → Cell State RestState Ending → Core
  claimed c k (opened rest (Some child) p q) =
      moved c 0 (running child false) k (opened rest None p q)
  claimed c k (opened rest None p q) = c
  claimed c k free = c
  claimed c k (taken w) = c
  claimed c k (met w rest p q) = c

  record Claims (c : Core) (v : Event) (d : Core) : Type 0 where
    k : ℕ
    unclaimed : IsUnclaimed (c.cells k)
    last : (j : ℕ) → IsUnclaimed (c.cells j) → place c.order j ≤ place c.order k
    event : v ≡ Claim 0 k
    next : d ≡ claimed c k (c.cells k)

  -- the freeing of a record
  abbrev FreedFrom : Core → ℕ → Cell State RestState Ending → Core → Type 0
  FreedFrom c k (met i rest p q) d =
      (both : Merged State Ending) × (tasks code H).merges rest p q both
      × (d ≡ freed c 0 (merged_seat both) k)
  FreedFrom c k (opened rest child p q) d = ⊥
  FreedFrom c k free d = ⊥
  FreedFrom c k (taken w) d = ⊥

  -- the one event that can come next, by what the worker has
  abbrev Comes : Core → Seat State RestState Ending → Event → Core → Type 0
  Comes c resting v d = Claims c v d
  Comes c (running task due) v d =
      (v ≡ Step 0) × AfterTurn c due ((tasks code H).turn (is_allowed N (c.beats 0)) task) d
  Comes c (forked k on child rest) v d = (v ≡ Open 0) × (d ≡ opens_record c 0 k on child rest)
  Comes c (ended e) v d = AfterEnd c e ((tasks code H).end_of e) v d
  Comes c (holding k) v d = (v ≡ Free 0) × FreedFrom c k (c.cells k) d

  abbrev One : Core → Event → Core → Type 0
  One c v d = CoreStep (tasks code H) LeastFree N records 1 c v d

  at : (c d : Core) (v : Event) (s : Seat State RestState Ending) → c.seats 0 ≡ s → Comes c s v d → Comes c (c.seats 0) v d
  at c d v s is told = subst (λ x. Comes c x v d) (sym is) told

  turned : (c d : Core) (due : Bool) (task : State) (turn : Turn State RestState Ending) → (tasks code H).turn (is_allowed N (c.beats 0)) task ≡ turn → AfterTurn c due turn d → AfterTurn c due ((tasks code H).turn (is_allowed N (c.beats 0)) task) d
  turned c d due task turn is after = subst (λ x. AfterTurn c due x d) (sym is) after

  unclaimed_by : (cell : Cell State RestState Ending) (rest : RestState) (child : State) (p q : Option Ending) → cell ≡ opened rest (Some child) p q → IsUnclaimed cell
  unclaimed_by cell rest child p q is = subst IsUnclaimed (sym is) tt

  comes : (c d : Core) (v : Event) → One c v d → ClaimsLast c v → Comes c (c.seats 0) v d
  comes c _ _ (goes zero task due next lt is turn) last = at c _ _ (running task due) is (refl, turned c _ due task (machine.Goes next) turn refl)
  comes c _ _ (beats zero task due next lt is turn) last = at c _ _ (running task due) is (refl, turned c _ due task (machine.Beats next) turn refl)
  comes c _ _ (ends zero task due e lt is turn) last = at c _ _ (running task due) is (refl, turned c _ due task (machine.Ends e) turn refl)
  comes c _ _ (asks zero task due answered o lt is turn least) last = at c _ _ (running task due) is (refl, turned c _ due task (machine.Asks answered) turn (o, least, refl))
  comes c _ _ (forks zero task due k on child rest lt is turn) last = at c _ _ (running task due) is (refl, turned c _ due task (machine.Forks k on child rest) turn refl)
  comes c _ _ (opens zero k on child rest lt few is) last = at c _ _ (forked k on child rest) is (refl, refl)
  comes c _ _ (claims zero k rest child p q lt is cell) last = at c _ _ resting is (record {
    k = k;
    unclaimed = unclaimed_by (c.cells k) rest child p q cell;
    last = last;
    event = refl;
    next = ap (claimed c k) (sym cell);
  })
  comes c _ _ (arrives_left zero k e lt is side) last = at c _ _ (ended e) is (lefts k side refl refl)
  comes c _ _ (arrives_right zero k e lt is side) last = at c _ _ (ended e) is (rights k side refl refl)
  comes c _ _ (frees zero k i rest p q both lt is cell merges) last = at c _ _ (holding k) is (refl, subst (λ x. FreedFrom c k x (freed c 0 (merged_seat both) k)) (sym cell) (both, merges, refl))
  comes c _ _ (finishes zero e lt is side) last = at c _ _ (ended e) is (roots side refl refl)
  comes c _ _ (goes (suc w) task due next lt is turn) last = absurd (omega (arith, lt))
  comes c _ _ (beats (suc w) task due next lt is turn) last = absurd (omega (arith, lt))
  comes c _ _ (ends (suc w) task due e lt is turn) last = absurd (omega (arith, lt))
  comes c _ _ (asks (suc w) task due answered o lt is turn least) last = absurd (omega (arith, lt))
  comes c _ _ (forks (suc w) task due k on child rest lt is turn) last = absurd (omega (arith, lt))
  comes c _ _ (opens (suc w) k on child rest lt few is) last = absurd (omega (arith, lt))
  comes c _ _ (claims (suc w) k rest child p q lt is cell) last = absurd (omega (arith, lt))
  comes c _ _ (arrives_left (suc w) k e lt is side) last = absurd (omega (arith, lt))
  comes c _ _ (arrives_right (suc w) k e lt is side) last = absurd (omega (arith, lt))
  comes c _ _ (frees (suc w) k i rest p q both lt is cell merges) last = absurd (omega (arith, lt))
  comes c _ _ (finishes (suc w) e lt is side) last = absurd (omega (arith, lt))

  -- ---- one next event

  one_least : (cells : ℕ → Cell State RestState Ending) (o p : Option ℕ) → LeastFree records cells o → LeastFree records cells p → o ≡ p
  one_least cells None None a b = refl
  one_least cells None (Some k) a b = absurd (a k b.0 b.1)
  one_least cells (Some k) None a b = absurd (b k a.0 a.1)
  one_least cells (Some k) (Some j) a b = ⊎_elim
      (λ (same : k ≡ j). ap Some same)
      (λ (other : k ≡ j → ⊥). ⊎_elim
      (λ (below : k < j). absurd (b.2 k below a.1))
      (λ (above : j < k). absurd (a.2 j above b.1))
      (sides k j other))
      (cases_eq k j)
    where
      sides : (k j : ℕ) → (k ≡ j → ⊥) → (k < j) ⊎ (j < k)
      sides zero zero other = absurd (other refl)
      sides zero (suc j) other = inl (omega arith)
      sides (suc k) zero other = inr (omega arith)
      sides (suc k) (suc j) other = ⊎_elim (λ (a : k < j). inl (omega (arith, a))) (λ (a : j < k). inr (omega (arith, a))) (sides k j (λ same. other (ap suc same)))

  one_turn : (c d e : Core) (due : Bool) (turn : Turn State RestState Ending) → AfterTurn c due turn d → AfterTurn c due turn e → d ≡ e
  one_turn c d e due (machine.Goes next) a b = a ∙ sym b
  one_turn c d e due (machine.Beats next) a b = a ∙ sym b
  one_turn c d e due (machine.Ends x) a b = a ∙ sym b
  one_turn c d e due (machine.Asks answered) a b = a.2 ∙ (ap (λ o. given c 0 (answered o) o) (one_least c.cells a.0 b.0 a.1 b.1) ∙ sym b.2)
  one_turn c d e due (machine.Forks k on child rest) a b = a ∙ sym b
  one_turn c d e due machine.Stuck a b = absurd a

  one_arrival : (c d d' : Core) (e : Ending) (n : ℕ) (v v' : Event) → AfterEnd c e n v d → AfterEnd c e n v' d' → (v ≡ v') × (d ≡ d')
  one_arrival c d d' e n v v' (lefts k is event next) (lefts j was event' next') =
      let same : k ≡ j = omega (arith, is, was) in
      (event ∙ sym event', next ∙ (ap (left_side c e) same ∙ sym next'))
  one_arrival c d d' e n v v' (rights k is event next) (rights j was event' next') =
      let same : k ≡ j = omega (arith, is, was) in
      (event ∙ sym event', next ∙ (ap (right_side c e) same ∙ sym next'))
  one_arrival c d d' e n v v' (roots is event next) (roots was event' next') = (event ∙ sym event', next ∙ sym next')
  one_arrival c d d' e n v v' (lefts k is event next) (rights j was event' next') = absurd (omega (arith, is, was))
  one_arrival c d d' e n v v' (rights k is event next) (lefts j was event' next') = absurd (omega (arith, is, was))
  one_arrival c d d' e n v v' (lefts k is event next) (roots was event' next') = absurd (omega (arith, is, was))
  one_arrival c d d' e n v v' (rights k is event next) (roots was event' next') = absurd (omega (arith, is, was))
  one_arrival c d d' e n v v' (roots is event next) (lefts j was event' next') = absurd (omega (arith, is, was))
  one_arrival c d d' e n v v' (roots is event next) (rights j was event' next') = absurd (omega (arith, is, was))

  one_freed : (c d e : Core) (k : ℕ) (cell : Cell State RestState Ending) → FreedFrom c k cell d → FreedFrom c k cell e → d ≡ e
  one_freed c d e k (met i rest p q) a b = a.2 ∙ (ap (λ both. freed c 0 (merged_seat both) k) (one_merge code rest p q a.0 b.0 a.1 b.1) ∙ sym b.2)
  one_freed c d e k (opened rest child p q) a b = absurd a
  one_freed c d e k free a b = absurd a
  one_freed c d e k (taken w) a b = absurd a

  is_open : (cell : Cell State RestState Ending) → IsUnclaimed cell → IsOpen cell
  is_open (opened rest child p q) is = tt
  is_open (met i rest p q) is = absurd is
  is_open free is = absurd is
  is_open (taken w) is = absurd is

  one_claim : (c d e : Core) (v v' : Event) → ((k : ℕ) → IsOpen (c.cells k) → 0 < place c.order k) → Claims c v d → Claims c v' e → (v ≡ v') × (d ≡ e)
  one_claim c d e v v' listed a b =
      let above = a.last b.k b.unclaimed in
      let below = b.last a.k a.unclaimed in
      let there = listed a.k (is_open (c.cells a.k) a.unclaimed) in
      let same : a.k ≡ b.k = place_one c.order a.k b.k there (omega (arith, above, below)) in
      (a.event ∙ (ap (Claim 0) same ∙ sym b.event), a.next ∙ (ap (λ k. claimed c k (c.cells k)) same ∙ sym b.next))

  one_next : (c d e : Core) (v v' : Event) (s : Seat State RestState Ending) → ((k : ℕ) → IsOpen (c.cells k) → 0 < place c.order k) → Comes c s v d → Comes c s v' e → (v ≡ v') × (d ≡ e)
  one_next c d e v v' resting listed a b = one_claim c d e v v' listed a b
  one_next c d e v v' (running task due) listed a b = (a.0 ∙ sym b.0, one_turn c d e due ((tasks code H).turn (is_allowed N (c.beats 0)) task) a.1 b.1)
  one_next c d e v v' (forked k on child rest) listed a b = (a.0 ∙ sym b.0, a.1 ∙ sym b.1)
  one_next c d e v v' (ended x) listed a b = one_arrival c d e x ((tasks code H).end_of x) v v' a b
  one_next c d e v v' (holding k) listed a b = (a.0 ∙ sym b.0, one_freed c d e k (c.cells k) a.1 b.1)

  -- ---- one list

  module _ (is_code : IsCode code.tables code.blocks) (room : N ≤ top) (paid : N * H ≤ top) (out : Ending) where
    abbrev Many : Core → List Event → Core → Type 0
    Many c vs d = CoreRun (tasks code H) LeastFree N records 1 c vs d

    -- a list of events to an outcome, by which each claim is of the record that was opened last
    record Listed (c : Core) (vs : List Event) (d : Core) : Type 0 where
      run : Many c vs d
      claims : EachEvent (tasks code H) LeastFree N records 1 ClaimsLast run
      outcome : Ending
      is : d.outcome ≡ Some outcome

    abbrev SoundHere : Core → Type 0
    SoundHere c = Sound (tasks code H) H N records 1 out c

    goes_on : (c d : Core) (v : Event) → SoundHere c → One c v d → SoundHere d
    goes_on c d v so step = event_sound code is_code H N records 1 out c d v (omega arith) (omega (arith, room)) so (any_of (tasks code H) N records 1 c d v step)

    -- behind an outcome comes no event
    no_more : (c d : Core) (v : Event) (e : Ending) → SoundHere c → c.outcome ≡ Some e → One c v d → ClaimsLast c v → ⊥
    no_more c d v e so is step last =
        let done = ends_owed code H N records 1 out e c (omega (arith, paid)) so is in
        let told = subst (λ s. Comes c s v d) (done.rest 0) (comes c d v step last) in
        done.closed told.k (is_open (c.cells told.k) told.unclaimed)

    none_behind : (c z : Core) (vs : List Event) (b : Many c vs z) → EachEvent (tasks code H) LeastFree N records 1 ClaimsLast b → (x : Ending) → c.outcome ≡ Some x → SoundHere c → ([] ≡ vs) × (c ≡ z)
    none_behind c z _ (running_on.here _) claim x is so = (refl, refl)
    none_behind c z _ (running_on.on _ next _ v vs step run) claim x is so = absurd (no_more c next v x so is step claim.0)

    -- the first event of another list, where what follows on it is one
    first_event : (c next d : Core) (v : Event) (more : List Event) → SoundHere c → One c v next → ClaimsLast c v
        → ((more' : List Event) (z : Core) → SoundHere next → Listed next more' z → (more ≡ more') × (d ≡ z))
        → (z : Core) (vs : List Event) (b : Many c vs z) → EachEvent (tasks code H) LeastFree N records 1 ClaimsLast b → (y : Ending) → z.outcome ≡ Some y → (v ∷ more ≡ vs) × (d ≡ z)
    first_event c next d v more so step last again z _ (running_on.here _) claim y is = absurd (no_more c next v y so is step last)
    first_event c next d v more so step last again z _ (running_on.on _ other _ w more' step' run) claim y is =
        let same = one_next c next other v w (c.seats 0) so.order.listed (comes c next v step last) (comes c other w step' claim.0) in
        let rest : Listed other more' z = record { run = run; claims = claim.1; outcome = y; is = is } in
        let tail = again more' z (goes_on c next v so step) (subst (λ n. Listed n more' z) (sym same.1) rest) in
        (ap (λ u. u ∷ more) same.0 ∙ ap (λ us. w ∷ us) tail.0, tail.1)

    one_list : (c d e : Core) (vs vs' : List Event) (a : Many c vs d) → EachEvent (tasks code H) LeastFree N records 1 ClaimsLast a → (x : Ending) → d.outcome ≡ Some x → SoundHere c → Listed c vs' e → (vs ≡ vs') × (d ≡ e)
    one_list c d e _ vs' (running_on.here _) claim x is so other = none_behind c e vs' other.run other.claims x is so
    one_list c d e _ vs' (running_on.on _ next _ v more step run) claim x is so other =
        first_event c next d v more so step claim.0 (λ more' z so' listed. one_list next d z more more' run claim.1 x is so' listed)
        e vs' other.run other.claims other.outcome other.is

module _ (code : Listing) (is_code : IsCode code.tables code.blocks) where
  pub one_shared : (H N fuel : ℕ) (held : List Holding) (out outcome other : Outcome) (tally later : Tally) → N * H ≤ top → N ≤ top → Owes code H false 0 (first_state held fuel) (ending.Root out) → (one : SharedRun code H N (first_state held fuel) outcome tally) (two : SharedRun code H N (first_state held fuel) other later) → (one.events ≡ two.events) × (one.last ≡ two.last)
  one_shared H N fuel held out outcome other tally later paid room owes one two =
      one_list code H N is_code room paid (ending.Root out) (first (first_state held fuel)) one.last two.last one.events two.events one.run one.claims (ending.Root outcome) one.outcome_is
      (begins_sound code H N records 1 held fuel (ending.Root out) (omega arith) owes)
      (record { run = two.run; claims = two.claims; outcome = ending.Root other; is = two.outcome_is })
