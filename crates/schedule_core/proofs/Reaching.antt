-- What one instruction of a solo run, and all that it leads to, is for the core.
use Rattle.std.proofs.Common.{◌≡◌, ℕ, suc, ◌+◌, ◌-◌, ◌<◌, ◌≤◌, inl, ⊎_elim, Bool, true, false}
use Rattle.std.proofs.Common.{Option, Some, None, List, [], ◌∷◌, ◌++◌, length, refl, ap, sym, subst}
use Rattle.std.proofs.Common.{◌∙◌, arith}
use Rattle.std.proofs.Math.Nat.{mul-le-mul_left, mul-le-mul_right}
use Rattle.std.proofs.lemmas.Bool.{cases_eq}
use Rattle.std.proofs.lemmas.Bool.Decides.{nat_tests}
use Rattle.std.specs.Prelude.{◌^◌, cond, nat_lt}
use Rattle.tp_value.specs.declared.values.Outcome.{Outcome}
use Rattle.tpal_syntax.specs.Listing.{Listing}
use Rattle.tpal_machine.specs.declared.ends.End.TheVariants as «end»
use Rattle.tpal_machine.specs.declared.ends.Ending.{Ending}
use Rattle.tpal_machine.specs.declared.ends.Ending.TheVariants as ending
use Rattle.tpal_machine.specs.declared.ends.Side.{Side}
use Rattle.tpal_machine.specs.declared.ends.Goal.TheVariants as goal
use Rattle.tpal_machine.specs.declared.ends.SideName.{SideName}
use Rattle.tpal_machine.specs.declared.ends.SideName.TheVariants.{Left, Right}
use Rattle.tpal_machine.specs.declared.ends.Tie.{Tie}
use Rattle.tpal_machine.specs.Cut.{Forked}
use Rattle.tpal_machine.specs.Effect.{answered}
use Rattle.tpal_machine.specs.Keeping.{number_of, place_of, GoesFrom, WaitsFrom, ForksFrom}
use Rattle.tpal_machine.specs.Keeping.{EndsFrom, JoinedKeeps}
use Rattle.tpal_machine.specs.Merge as merging
use Rattle.tpal_machine.specs.Merge.{Joined, MergeOf}
use Rattle.tpal_machine.specs.RestState.{RestState, end_of}
use Rattle.tpal_machine.specs.State.{State}
use Rattle.tpal_machine.specs.Step.{Step, Goes, Beats, Ends, Asks, Forks, step}
use Rattle.tpal_machine.proofs.Keeping.{answer_keeps, merge_keeps}
use Rattle.schedule_core.specs.declared.lanes.Opened.{Opened}
use Rattle.schedule_core.specs.declared.lanes.Opened.TheVariants.{Waiting, Half}
use Rattle.schedule_core.specs.declared.lanes.Tally.{Tally}
use Rattle.schedule_core.specs.Core as core
use Rattle.schedule_core.specs.Core.{top, Config, Event, LeastFree, AnyFree, CoreStep, first, put}
use Rattle.schedule_core.specs.Lanes.{Placed, end_at, AreNested, EndArrives, JoinedArrives}
use Rattle.schedule_core.specs.Lanes.{SidesMerge, CanArrive}
use Rattle.schedule_core.specs.Run as running
use Rattle.schedule_core.specs.Run.{CoreRun, EachEvent}
use Rattle.schedule_core.specs.Sharing.{cell_of, CellsAre, GivenAt, CountsAre, ClaimsLast}
use Rattle.schedule_core.specs.Solo.{Lane, SoloState, Runs, Over, Lost, records, runs}
use Rattle.schedule_core.specs.Solo.{asked, forked, arrived, arrived_with}
use Rattle.schedule_core.specs.Solo.{arrived_at, on_joined, turned, one_skipped, first_lane}
use Rattle.schedule_core.specs.Tasks.{tasks, MergesSides, merged_of}
use Rattle.schedule_core.specs.Tasks as shared
use Rattle.schedule_core.specs.Sound.{place}
use Rattle.schedule_core.proofs.Asked.{any_of}
use Rattle.schedule_core.proofs.Places.{nested, nested_first, nested_last, nested_more}
use Rattle.schedule_core.proofs.Places.{nested_without}
use Rattle.schedule_core.proofs.Puts.{put_here, put_else}
use Rattle.schedule_core.proofs.Finishing.{placed_goes, placed_none, placed_some, placed_left}
use Rattle.schedule_core.proofs.Finishing.{forks_at}
use Rattle.schedule_core.proofs.Turning.{more_none}

-- ---- cells

abbrev Cells : Type 0
Cells = ℕ → core.Cell State RestState Ending

cells_put : (opened : List Opened) (cells : Cells) (k : ℕ) (x : core.Cell State RestState Ending) → length opened ≤ k → CellsAre opened cells → CellsAre opened (put cells k x)
cells_put [] cells k x far are = tt
cells_put (one ∷ opened) cells k x far are = (put_else cells k x (length opened) (λ same. omega (arith, far, same)) ∙ are.0, cells_put opened cells k x (omega (arith, far)) are.1)

cell_taken : (k : ℕ) (one : Opened) → cell_of k one ≡ core.free → ⊥
cell_taken k (Waiting rest child) is = cc
cell_taken k (Half rest left) is = cc

stack_taken : (opened : List Opened) (cells : Cells) (j : ℕ) → CellsAre opened cells → j < length opened → cells j ≡ core.free → ⊥
stack_taken [] cells j are below is = omega (arith, below)
stack_taken (one ∷ opened) cells j are below is = ⊎_elim
    (λ (same : j ≡ length opened). cell_taken (length opened) one (sym are.0 ∙ ap cells (sym same) ∙ is))
    (λ (other : j ≡ length opened → ⊥). stack_taken opened cells j are.1 (omega (arith, below, other)) is)
    (cases_eq j (length opened))

-- ---- a running task

-- the core stands as the solo run does
pub record Stands (lane : Lane) (c : Config State RestState Ending) : Type 0 where
  pub due : Bool
  pub seat : c.seats 0 ≡ core.running lane.task due
  pub placed : Placed lane.task lane.opened
  pub below : AreNested lane.opened
  pub cells : CellsAre lane.opened c.cells
  pub above : (k : ℕ) → length lane.opened < k → c.cells k ≡ core.free
  pub given : GivenAt lane.task.pending (length lane.opened) c.cells
  pub order : c.order ≡ nested (length lane.opened)
  pub unfinished : c.outcome ≡ None
  pub counts : CountsAre lane.tally c
  pub small : lane.tally.beats ≤ 2 ^ 64 - 1

-- the first configuration does
pub stands_first : (task : State) → task.goal ≡ goal.Root → task.pending ≡ None → Stands (first_lane task) (first task)
stands_first task root none = record {
  due = false;
  seat = put_here (λ w. core.resting) 0 (core.running task false);
  placed = record { place = ap end_of root; given = inl (ap number_of none) };
  below = tt;
  cells = tt;
  above = λ k far. refl;
  given = subst (λ p. GivenAt p 0 (λ k. core.free)) (sym none) refl;
  order = nested_first;
  unfinished = refl;
  counts = record { tasks = refl; beats = refl; skipped = refl; instructions = refl };
  small = omega arith;
}

module _ (code : Listing) (heartbeat forks : ℕ) where
  abbrev pub One : Config State RestState Ending → Event → Config State RestState Ending → Type 0
  One c e d = CoreStep (tasks code heartbeat) LeastFree forks records 1 c e d

  abbrev pub Many : Config State RestState Ending → List Event → Config State RestState Ending → Type 0
  Many c es d = CoreRun (tasks code heartbeat) LeastFree forks records 1 c es d

  -- each claim of a list is of the record that was opened last
  abbrev pub Claims : {c d : Config State RestState Ending} {es : List Event} → Many c es d → Type 0
  Claims run = EachEvent (tasks code heartbeat) LeastFree forks records 1 ClaimsLast run

  -- the core comes to a stage of the solo run
  abbrev pub At_stage : SoloState → Config State RestState Ending → Type 0
  At_stage (Runs lane) c = Stands lane c
  At_stage (Over outcome tally) c = (c.outcome ≡ Some (ending.Root outcome)) × CountsAre tally c
  At_stage Lost c = ⊥

  -- by events of the core
  pub record Reaches (c : Config State RestState Ending) (stage : SoloState) : Type 0 where
    pub events : List Event
    pub last : Config State RestState Ending
    pub run : Many c events last
    pub claims : Claims run
    pub at : At_stage stage last

  here : (c : Config State RestState Ending) (stage : SoloState) → At_stage stage c → Reaches c stage
  here c stage at = record { events = []; last = c; run = running.here c; claims = tt; at = at }

  first_then : (c d : Config State RestState Ending) (e : Event) (stage : SoloState) → One c e d → ClaimsLast c e → Reaches d stage → Reaches c stage
  first_then c d e stage one claims rest = record { events = e ∷ rest.events; last = rest.last; run = running.on c d rest.last e rest.events one rest.run; claims = (claims, rest.claims); at = rest.at }

  some : 0 < 1
  some = omega arith

  -- one list of events after another
  pub appended : (c d e : Config State RestState Ending) (es fs : List Event) → Many c es d → Many d fs e → Many c (es ++ fs) e
  appended c d e es fs (running.here _) second = second
  appended c d e es fs (running.on _ b _ v vs one rest) second = running.on c b e v (vs ++ fs) one (appended b d e vs fs rest second)

  pub claims_appended : (c d e : Config State RestState Ending) (es fs : List Event) (run : Many c es d) (second : Many d fs e) → Claims run → Claims second → Claims (appended c d e es fs run second)
  unfolding appended
  claims_appended c d e es fs (running.here _) second claims others = others
  claims_appended c d e es fs (running.on _ b _ v vs one rest) second claims others = (claims.0, claims_appended b d e vs fs rest second claims.1 others)

  -- ---- an ended task

  -- the core stands so where the solo run's task has ended
  pub record Ended_at (opened : List Opened) (tally : Tally) (e : Ending) (c : Config State RestState Ending) : Type 0 where
    pub seat : c.seats 0 ≡ core.ended e
    pub place : place_of e ≡ end_at opened
    pub below : AreNested opened
    pub cells : CellsAre opened c.cells
    pub above : (k : ℕ) → length opened ≤ k → c.cells k ≡ core.free
    pub order : c.order ≡ nested (length opened)
    pub unfinished : c.outcome ≡ None
    pub counts : CountsAre tally c
    pub small : tally.beats ≤ 2 ^ 64 - 1

  -- an ending can arrive at these open records
  abbrev pub Arriving : List Opened → Ending → Type 0
  Arriving opened e = EndArrives e (λ side. CanArrive code opened side)

  abbrev Arrives : List Opened → Type 0
  Arrives opened = (tally : Tally) (e : Ending) (c : Config State RestState Ending) → Ended_at opened tally e c → Arriving opened e → Reaches c (arrived code opened tally e)

  finishing : (opened : List Opened) (tally : Tally) (outcome : Outcome) (c : Config State RestState Ending) → Ended_at opened tally (ending.Root outcome) c → Reaches c (Over outcome tally)
  finishing opened tally outcome c at =
      let d = core.over c 0 (ending.Root outcome) in
      first_then c d (core.Finish 0) (Over outcome tally) (core.finishes 0 (ending.Root outcome) some at.seat refl) tt
      (here d (Over outcome tally) (refl, record { tasks = at.counts.tasks; beats = at.counts.beats; skipped = at.counts.skipped; instructions = at.counts.instructions }))

  pub same_end : (k n : ℕ) (name other : SideName) (side : Side) → «end».At k name ≡ «end».At n other → ending.At k name side ≡ ending.At n other side
  same_end k n name other side is = cc

  -- the left side arrives, and the child is claimed
  arrives_first : (rest : RestState) (child : State) (opened : List Opened) (tally : Tally) (side : Side) (c : Config State RestState Ending) → Ended_at (Waiting rest child ∷ opened) tally (ending.At (length opened) Left side) c → Reaches c (runs child (Half rest side ∷ opened) tally)
  arrives_first rest child opened tally side c at =
      let n = length opened in
      let none = at.below.1 in
      let e = ending.At n Left side in
      let d = core.moved c 0 ((core.left_arrives 0 n e (c.cells n)).1) n ((core.left_arrives 0 n e (c.cells n)).0) in
      let cell : d.cells n ≡ core.opened rest (Some child) (Some e) None = put_here c.cells n ((core.left_arrives 0 n e (c.cells n)).0) ∙ ap (λ x. (core.left_arrives 0 n e x).0) at.cells.0 in
      let seat : d.seats 0 ≡ core.resting = put_here c.seats 0 ((core.left_arrives 0 n e (c.cells n)).1) ∙ ap (λ x. (core.left_arrives 0 n e x).1) at.cells.0 in
      let x : core.Cell State RestState Ending = core.opened rest None (Some e) None in
      let f = core.moved d 0 (core.running child false) n x in
      first_then c d (core.Arrive 0) _ (core.arrives_left 0 n e some at.seat refl) tt
      (first_then d f (core.Claim 0 n) _ (core.claims 0 n rest child (Some e) None some seat cell) (λ j unclaimed. subst (λ o. place o j ≤ place o n) (sym at.order) (nested_last n j))
      (here f _ (record {
        due = false;
        seat = put_here d.seats 0 (core.running child false);
        placed = record { place = at.below.2; given = inl (ap number_of none) };
        below = (at.below.0, at.below.3);
        cells = (put_here d.cells n x, cells_put opened d.cells n x (omega arith) (cells_put opened c.cells n ((core.left_arrives 0 n e (c.cells n)).0) (omega arith) at.cells.1));
        above = λ k far. put_else d.cells n x k (λ same. omega (arith, far, same)) ∙ put_else c.cells n ((core.left_arrives 0 n e (c.cells n)).0) k (λ same. omega (arith, far, same)) ∙ at.above k (omega (arith, far));
        given = subst (λ p. GivenAt p (suc n) f.cells) (sym none) (put_else d.cells n x (suc n) (λ same. omega (arith, same)) ∙ put_else c.cells n ((core.left_arrives 0 n e (c.cells n)).0) (suc n) (λ same. omega (arith, same)) ∙ at.above (suc n) (omega arith));
        order = at.order;
        unfinished = at.unfinished;
        counts = record { tasks = at.counts.tasks; beats = at.counts.beats; skipped = at.counts.skipped; instructions = at.counts.instructions };
        small = at.small;
      })))

  -- the right side arrives: its record is met by both
  pub record Meets (rest : RestState) (left side : Side) (n : ℕ) (c d : Config State RestState Ending) : Type 0 where
    pub one : One c (core.Arrive 0) d
    pub seat : d.seats 0 ≡ core.holding n
    pub cell : d.cells n ≡ core.met 0 rest (ending.At n Left left) (ending.At n Right side)

  abbrev pub second : (n : ℕ) → Side → Config State RestState Ending → Config State RestState Ending
  second n side c = core.moved c 0 ((core.right_arrives 0 n (ending.At n Right side) (c.cells n)).1) n ((core.right_arrives 0 n (ending.At n Right side) (c.cells n)).0)

  pub meets : (rest : RestState) (left : Side) (opened : List Opened) (tally : Tally) (side : Side) (c : Config State RestState Ending) → Ended_at (Half rest left ∷ opened) tally (ending.At (length opened) Right side) c → Meets rest left side (length opened) c (second (length opened) side c)
  meets rest left opened tally side c at =
      let n = length opened in
      let e = ending.At n Right side in
      record {
        one = core.arrives_right 0 n e some at.seat refl;
        seat = put_here c.seats 0 ((core.right_arrives 0 n e (c.cells n)).1) ∙ ap (λ x. (core.right_arrives 0 n e x).1) at.cells.0;
        cell = put_here c.cells n ((core.right_arrives 0 n e (c.cells n)).0) ∙ ap (λ x. (core.right_arrives 0 n e x).0) at.cells.0;
      }

  -- and is freed, with what the two merge to
  abbrev pub Merged_at : List Opened → Tally → Joined → Config State RestState Ending → Type 0
  Merged_at opened tally (merging.Goes task) f = Stands (record { task = task; opened = opened; tally = tally }) f
  Merged_at opened tally (merging.Ends e) f = Ended_at opened tally e f

  abbrev pub parted : (n : ℕ) → Side → Joined → Config State RestState Ending → Config State RestState Ending
  parted n side both c = core.freed (second n side c) 0 (core.merged_seat (merged_of both)) n

  pub record Frees (opened : List Opened) (tally : Tally) (both : Joined) (d f : Config State RestState Ending) : Type 0 where
    pub one : One d (core.Free 0) f
    pub at : Merged_at opened tally both f

  merged_at : (rest : RestState) (left side : Side) (opened : List Opened) (tally : Tally) (f : Config State RestState Ending) (both : Joined) → merging.joined code rest left side ≡ both → end_of rest.goal ≡ end_at opened → AreNested opened → (f.seats 0 ≡ core.merged_seat (merged_of both)) → CellsAre opened f.cells → ((k : ℕ) → length opened ≤ k → f.cells k ≡ core.free) → f.order ≡ nested (length opened) → f.outcome ≡ None → CountsAre tally f → tally.beats ≤ 2 ^ 64 - 1 → Merged_at opened tally both f
  merged_at rest left side opened tally f (merging.Goes task) gives place below seat cells above order unfinished counts small =
      let kept = subst (JoinedKeeps rest) gives (merge_keeps code rest left side) in
      record {
        due = false;
        seat = seat;
        placed = record { place = ap end_of kept.goal ∙ place; given = inl (ap number_of kept.pending) };
        below = below;
        cells = cells;
        above = λ k far. above k (omega (arith, far));
        given = subst (λ p. GivenAt p (length opened) f.cells) (sym kept.pending) (above (length opened) (omega arith));
        order = order;
        unfinished = unfinished;
        counts = counts;
        small = small;
      }
  merged_at rest left side opened tally f (merging.Ends e) gives place below seat cells above order unfinished counts small =
      let kept : place_of e ≡ end_of rest.goal = subst (JoinedKeeps rest) gives (merge_keeps code rest left side) in
      record { seat = seat; place = kept ∙ place; below = below; cells = cells; above = above; order = order; unfinished = unfinished; counts = counts; small = small }

  pub frees : (rest : RestState) (left : Side) (opened : List Opened) (tally : Tally) (side : Side) (both : Joined) (c : Config State RestState Ending) → Ended_at (Half rest left ∷ opened) tally (ending.At (length opened) Right side) c → MergeOf code rest left side both → Frees opened tally both (second (length opened) side c) (parted (length opened) side both c)
  frees rest left opened tally side both c at merge =
      let n = length opened in
      let e = ending.At n Right side in
      let d = second n side c in
      let s = core.merged_seat (merged_of both) in
      let x : core.Cell State RestState Ending = core.free in
      let f = core.freed d 0 s n in
      let met = meets rest left opened tally side c at in
      record {
        one = core.frees 0 n 0 rest (ending.At n Left left) e (merged_of both) some met.seat met.cell (record { joined = both; merge = merge; is = refl });
        at = merged_at rest left side opened tally f both merge.gives at.below.0 at.below.1
            (put_here d.seats 0 s)
            (cells_put opened d.cells n x (omega arith) (cells_put opened c.cells n ((core.right_arrives 0 n e (c.cells n)).0) (omega arith) at.cells.1))
            (λ k far. ⊎_elim
            (λ (same : k ≡ n). ap f.cells same ∙ put_here d.cells n x)
            (λ (other : k ≡ n → ⊥). put_else d.cells n x k other ∙ put_else c.cells n ((core.right_arrives 0 n e (c.cells n)).0) k other ∙ at.above k (omega (arith, far, other)))
            (cases_eq k n))
            (ap (core.without n) at.order ∙ nested_without n)
            at.unfinished (record { tasks = at.counts.tasks; beats = at.counts.beats; skipped = at.counts.skipped; instructions = at.counts.instructions }) at.small;
      }

  merged_on : (opened : List Opened) (tally : Tally) (f : Config State RestState Ending) (both : Joined) → Arrives opened → Merged_at opened tally both f → JoinedArrives both (λ side. CanArrive code opened side) → Reaches f (on_joined both opened tally (λ e. arrived_with e tally (λ other. arrived_at opened code tally other)))
  merged_on opened tally f (merging.Goes task) each at later = here f _ at
  merged_on opened tally f (merging.Ends e) each at later = each tally e f at later

  arrives_second : (rest : RestState) (left : Side) (opened : List Opened) (tally : Tally) (side : Side) (c : Config State RestState Ending) → Arrives opened → Ended_at (Half rest left ∷ opened) tally (ending.At (length opened) Right side) c → SidesMerge code rest left side (λ other. CanArrive code opened other) → Reaches c (on_joined (merging.joined code rest left side) opened tally (λ e. arrived_with e tally (λ other. arrived_at opened code tally other)))
  arrives_second rest left opened tally side c each at merges =
      let n = length opened in
      let d = second n side c in
      let f = parted n side merges.both c in
      let freed = frees rest left opened tally side merges.both c at merges.merge in
      subst (λ both. Reaches c (on_joined both opened tally (λ g. arrived_with g tally (λ other. arrived_at opened code tally other)))) (sym merges.merge.gives)
      (first_then c d (core.Arrive 0) _ (meets rest left opened tally side c at).one tt
      (first_then d f (core.Free 0) _ freed.one tt
      (merged_on opened tally f merges.both each freed.at merges.later)))

  pub moved_end : (opened : List Opened) (tally : Tally) (e f : Ending) (c : Config State RestState Ending) → e ≡ f → Ended_at opened tally e c → Ended_at opened tally f c
  moved_end opened tally e f c same at = subst (λ g. Ended_at opened tally g c) same at

  arrives : (opened : List Opened) → Arrives opened
  arrives opened tally (ending.Root outcome) c at can = finishing opened tally outcome c at
  arrives [] tally (ending.At k name side) c at can = absurd can
  arrives (Waiting rest child ∷ opened) tally (ending.At k name side) c at can =
      arrives_first rest child opened tally side c (moved_end (Waiting rest child ∷ opened) tally _ _ c (same_end k (length opened) name Left side at.place) at)
  arrives (Half rest left ∷ opened) tally (ending.At k name side) c at can =
      arrives_second rest left opened tally side c (arrives opened) (moved_end (Half rest left ∷ opened) tally _ _ c (same_end k (length opened) name Right side at.place) at) can

  -- ---- one instruction

  counts_on : (tally : Tally) (c d : Config State RestState Ending) → tally.beats ≤ 2 ^ 64 - 1 → CountsAre tally c → d.tasks ≡ c.tasks → d.beats 0 ≡ c.beats 0 → d.skipped ≡ c.skipped → d.instructions ≡ core.one_more c.instructions → CountsAre (turned 1 0 tally) d
  counts_on tally c d small are t b s i = record {
    tasks = t ∙ are.tasks;
    beats = b ∙ are.beats ∙ sym (more_none tally.beats small);
    skipped = s ∙ are.skipped;
    instructions = i ∙ ap core.one_more are.instructions;
  }

  small_on : (tally : Tally) → tally.beats ≤ 2 ^ 64 - 1 → (turned 1 0 tally).beats ≤ 2 ^ 64 - 1
  small_on tally small = let same = more_none tally.beats small in omega (arith, same, small)

  given_at : (o other : Option Tie) (k : ℕ) (cells : Cells) → other ≡ o → GivenAt o k cells → GivenAt other k cells
  given_at o other k cells same given = subst (λ p. GivenAt p k cells) (sym same) given

  given_none : (o : Option Tie) (k : ℕ) (cells : Cells) → o ≡ None → GivenAt o k cells → cells k ≡ core.free
  given_none o k cells none given = subst (λ p. GivenAt p k cells) none given

  given_some : (o : Option Tie) (tie : Tie) (k : ℕ) (cells : Cells) → o ≡ Some tie → GivenAt o k cells → (cells k ≡ core.taken 0) × (k < records)
  given_some o tie k cells some_tie given = subst (λ p. GivenAt p k cells) some_tie given

  number_some : (p : Option Tie) (k : ℕ) (cells : Cells) → number_of p ≡ Some k → cells k ≡ core.taken 0 → k < records → GivenAt p k cells
  number_some None k cells is taken few = cc
  number_some (Some tie) k cells is taken few = (taken, few)

  number_none : (p : Option Tie) (k : ℕ) (cells : Cells) → number_of p ≡ None → cells k ≡ core.free → GivenAt p k cells
  number_none None k cells is free = free
  number_none (Some tie) k cells is free = cc

  room_of : (a b : ℕ) → nat_lt a b ≡ true → a < b
  room_of a b is = grind (arith, nat_tests)

  full_of : (a b : ℕ) → nat_lt a b ≡ false → b ≤ a
  full_of a b is = grind (arith, nat_tests)

  module _ (lane : Lane) (c : Config State RestState Ending) (at : Stands lane c) where
    pub allowed_is : nat_lt (c.beats 0) forks ≡ nat_lt lane.tally.beats forks
    allowed_is = ap (λ (n : ℕ). nat_lt n forks) at.counts.beats

    -- the core's turn is the step
    pub turn_is : (one : Step) → step code heartbeat (nat_lt lane.tally.beats forks) lane.task ≡ one → (tasks code heartbeat).turn (core.is_allowed forks (c.beats 0)) lane.task ≡ shared.turn_of one
    turn_is one is = ap (λ b. shared.turn_of (step code heartbeat b lane.task)) allowed_is ∙ ap shared.turn_of is

    pub steps_goes : (after : State) → step code heartbeat (nat_lt lane.tally.beats forks) lane.task ≡ Goes after → GoesFrom heartbeat 1 lane.task after → Reaches c (runs after lane.opened (turned 1 0 lane.tally))
    steps_goes after is kept =
        let d = core.stepped c 0 (core.running after at.due) in
        first_then c d (core.Step 0) _ (core.goes 0 lane.task at.due after some at.seat (turn_is (Goes after) is)) tt
        (here d _ (record {
          due = at.due;
          seat = put_here c.seats 0 (core.running after at.due);
          placed = placed_goes heartbeat 1 lane.task after lane.opened at.placed kept;
          below = at.below;
          cells = at.cells;
          above = at.above;
          given = given_at lane.task.pending after.pending (length lane.opened) c.cells kept.pending at.given;
          order = at.order;
          unfinished = at.unfinished;
          counts = counts_on lane.tally c d at.small at.counts refl refl refl refl;
          small = small_on lane.tally at.small;
        }))

    pub steps_beats : (after : State) → step code heartbeat (nat_lt lane.tally.beats forks) lane.task ≡ Beats after → GoesFrom heartbeat 1 lane.task after → Reaches c (runs after lane.opened (turned 1 1 lane.tally))
    steps_beats after is kept =
        let d = core.diverted c 0 after in
        first_then c d (core.Step 0) _ (core.beats 0 lane.task at.due after some at.seat (turn_is (Beats after) is)) tt
        (here d _ (record {
          due = true;
          seat = put_here c.seats 0 (core.running after true);
          placed = placed_goes heartbeat 1 lane.task after lane.opened at.placed kept;
          below = at.below;
          cells = at.cells;
          above = at.above;
          given = given_at lane.task.pending after.pending (length lane.opened) c.cells kept.pending at.given;
          order = at.order;
          unfinished = at.unfinished;
          counts = record { tasks = at.counts.tasks; beats = put_here c.beats 0 (core.one_more (c.beats 0)) ∙ ap core.one_more at.counts.beats; skipped = at.counts.skipped; instructions = ap core.one_more at.counts.instructions };
          small = Rattle.std.proofs.Math.Nat.min-le_right (lane.tally.beats + 1) (2 ^ 64 - 1);
        }))

    -- the core stands so where the task ends
    abbrev pub ended_config : Ending → Config State RestState Ending
    ended_config e = core.stepped c 0 (core.ended e)

    pub steps_to_end : (e : Ending) → step code heartbeat (nat_lt lane.tally.beats forks) lane.task ≡ Ends e → One c (core.Step 0) (ended_config e)
    steps_to_end e is = core.ends 0 lane.task at.due e some at.seat (turn_is (Ends e) is)

    pub ended_at : (e : Ending) → EndsFrom lane.task e → Ended_at lane.opened (turned 1 0 lane.tally) e (ended_config e)
    ended_at e kept = record {
      seat = put_here c.seats 0 (core.ended e);
      place = kept.place ∙ at.placed.place;
      below = at.below;
      cells = at.cells;
      above = λ k far. ⊎_elim
          (λ (same : k ≡ length lane.opened). ap c.cells same ∙ given_none lane.task.pending (length lane.opened) c.cells kept.pending at.given)
          (λ (other : k ≡ length lane.opened → ⊥). at.above k (omega (arith, far, other)))
          (cases_eq k (length lane.opened));
      order = at.order;
      unfinished = at.unfinished;
      counts = counts_on lane.tally c (ended_config e) at.small at.counts refl refl refl refl;
      small = small_on lane.tally at.small;
    }

    pub steps_ends : (e : Ending) → step code heartbeat (nat_lt lane.tally.beats forks) lane.task ≡ Ends e → EndsFrom lane.task e → Arriving lane.opened e → Reaches c (arrived code lane.opened (turned 1 0 lane.tally) e)
    steps_ends e is kept can =
        first_then c (ended_config e) (core.Step 0) _ (steps_to_end e is) tt
        (arrives lane.opened (turned 1 0 lane.tally) e (ended_config e) (ended_at e kept) can)

    pub steps_asks : (waits : State) → step code heartbeat (nat_lt lane.tally.beats forks) lane.task ≡ Asks waits → WaitsFrom heartbeat 1 lane.task waits → Reaches c (asked waits lane.opened (turned 1 0 lane.tally))
    steps_asks waits is kept = by_room (nat_lt (length lane.opened) records) refl
      where
        n : ℕ
        n = length lane.opened

        free_here : c.cells (length lane.opened) ≡ core.free
        free_here = given_none lane.task.pending (length lane.opened) c.cells kept.none at.given

        some_kept : Rattle.tpal_machine.specs.Keeping.AnsweredFrom (Some (length lane.opened)) waits (answered (Some (length lane.opened)) waits)
        some_kept = answer_keeps (Some (length lane.opened)) waits kept.waiting kept.pending

        none_kept : Rattle.tpal_machine.specs.Keeping.AnsweredFrom None waits (answered None waits)
        none_kept = answer_keeps None waits kept.waiting kept.pending

        by_room : (b : Bool) → nat_lt (length lane.opened) records ≡ b → Reaches c (cond b (runs (answered (Some (length lane.opened)) waits) lane.opened (turned 1 0 lane.tally)) (runs (answered None waits) lane.opened (one_skipped (turned 1 0 lane.tally))))
        by_room true room =
            let few : length lane.opened < records = room_of (length lane.opened) records room in
            let d = core.given c 0 (answered (Some (length lane.opened)) waits) (Some (length lane.opened)) in
            first_then c d (core.Step 0) _ (core.asks 0 lane.task at.due (λ rec. answered rec waits) (Some (length lane.opened)) some at.seat (turn_is (Asks waits) is) (few, free_here, λ j below free. stack_taken lane.opened c.cells j at.cells below free)) tt
            (here d _ (record {
              due = false;
              seat = put_here c.seats 0 (core.running (answered (Some (length lane.opened)) waits) false);
              placed = placed_some heartbeat 1 lane.task waits lane.opened at.placed kept;
              below = at.below;
              cells = cells_put lane.opened c.cells (length lane.opened) (core.taken 0) (omega arith) at.cells;
              above = λ k far. put_else c.cells (length lane.opened) (core.taken 0) k (λ same. omega (arith, far, same)) ∙ at.above k far;
              given = number_some (answered (Some (length lane.opened)) waits).pending (length lane.opened) d.cells some_kept.pending (put_here c.cells (length lane.opened) (core.taken 0)) few;
              order = at.order;
              unfinished = at.unfinished;
              counts = counts_on lane.tally c d at.small at.counts refl refl refl refl;
              small = small_on lane.tally at.small;
            }))
        by_room false room =
            let full : records ≤ length lane.opened = full_of (length lane.opened) records room in
            let d = core.given c 0 (answered None waits) None in
            let counts = counts_on lane.tally c (core.stepped c 0 (core.running (answered None waits) false)) at.small at.counts refl refl refl refl in
            first_then c d (core.Step 0) _ (core.asks 0 lane.task at.due (λ rec. answered rec waits) None some at.seat (turn_is (Asks waits) is) (λ j below free. stack_taken lane.opened c.cells j at.cells (omega (arith, below, full)) free)) tt
            (here d _ (record {
              due = false;
              seat = put_here c.seats 0 (core.running (answered None waits) false);
              placed = placed_none heartbeat 1 lane.task waits lane.opened at.placed kept;
              below = at.below;
              cells = at.cells;
              above = at.above;
              given = number_none (answered None waits).pending (length lane.opened) c.cells none_kept.pending free_here;
              order = at.order;
              unfinished = at.unfinished;
              counts = record { tasks = counts.tasks; beats = counts.beats; skipped = ap core.one_more at.counts.skipped; instructions = counts.instructions };
              small = small_on lane.tally at.small;
            }))

    pub steps_forks : (parts : Forked) → step code heartbeat (nat_lt lane.tally.beats forks) lane.task ≡ Forks parts → ForksFrom heartbeat 1 lane.task parts → Reaches c (forked parts lane.opened (turned 1 0 lane.tally))
    steps_forks parts is kept =
        let n = length lane.opened in
        let number = forks_at heartbeat 1 lane.task parts lane.opened at.placed kept in
        let given = given_some lane.task.pending kept.tie n c.cells kept.pending at.given in
        let d = core.stepped c 0 (core.forked parts.rec parts.left parts.child parts.rest) in
        let f = core.opens_record d 0 n parts.left parts.child parts.rest in
        let x : core.Cell State RestState Ending = core.opened parts.rest (Some parts.child) None None in
        let counts = counts_on lane.tally c d at.small at.counts refl refl refl refl in
        first_then c d (core.Step 0) _ (core.forks 0 lane.task at.due parts.rec parts.left parts.child parts.rest some at.seat (turn_is (Forks parts) is)) tt
        (first_then d f (core.Open 0) _ (core.opens 0 n parts.left parts.child parts.rest some given.1 (put_here c.seats 0 (core.forked parts.rec parts.left parts.child parts.rest) ∙ ap (λ (k : ℕ). core.forked k parts.left parts.child parts.rest) number)) tt
        (here f _ (record {
          due = false;
          seat = put_here d.seats 0 (core.running parts.left false);
          placed = placed_left heartbeat 1 lane.task parts lane.opened at.placed kept;
          below = (ap end_of kept.rest_goal ∙ at.placed.place, kept.child_pending, kept.child_end ∙ ap (λ k. «end».At k Right) number, at.below);
          cells = (put_here c.cells n x, cells_put lane.opened c.cells n x (omega arith) at.cells);
          above = λ k far. put_else c.cells n x k (λ same. omega (arith, far, same)) ∙ at.above k (omega (arith, far));
          given = given_at None parts.left.pending (suc n) f.cells kept.left_pending (put_else c.cells n x (suc n) (λ same. omega (arith, same)) ∙ at.above (suc n) (omega arith));
          order = ap (λ o. o ++ n ∷ []) at.order ∙ nested_more n;
          unfinished = at.unfinished;
          counts = record { tasks = ap core.one_more at.counts.tasks; beats = counts.beats; skipped = counts.skipped; instructions = counts.instructions };
          small = small_on lane.tally at.small;
        })))

-- the least free record is a free one
pub any_run : (code : Listing) (heartbeat forks : ℕ) (c d : Config State RestState Ending) (events : List Event) → CoreRun (tasks code heartbeat) LeastFree forks records 1 c events d → CoreRun (tasks code heartbeat) AnyFree forks records 1 c events d
any_run code heartbeat forks c d events (running.here _) = running.here c
any_run code heartbeat forks c d events (running.on _ b _ v vs one rest) = running.on c b d v vs (any_of (tasks code heartbeat) forks records 1 c b v one) (any_run code heartbeat forks b d vs rest)
