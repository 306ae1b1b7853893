-- A turn of a solo run: what it leaves to be owed, and by how much it brings the run nearer to its end.
use Rattle.std.proofs.Common.{◌≡◌, ℕ, zero, suc, ◌+◌, ◌-◌, ◌<◌, ◌≤◌, ◌⊎◌, inl, inr, ⊎_elim, Bool}
use Rattle.std.proofs.Common.{true, false, Some, None, List, [], ◌∷◌, length, refl, ap, sym, subst}
use Rattle.std.proofs.Common.{◌∙◌, arith}
use Rattle.std.proofs.Math.Nat.{min-eq_left, min-eq_right, min-le_right}
use Rattle.std.proofs.lemmas.Bool.{cases_lt}
use Rattle.std.specs.Prelude.{◌^◌, min, cond, nat_lt}
use Rattle.tp_value.specs.declared.values.Outcome.{Outcome}
use Rattle.tpal_syntax.specs.Conditions.{IsCode}
use Rattle.tpal_syntax.specs.Listing.{Listing}
use Rattle.tpal_machine.specs.declared.ends.Ending.{Ending}
use Rattle.tpal_machine.specs.declared.ends.Ending.TheVariants as ending
use Rattle.tpal_machine.specs.declared.ends.Side.{Side}
use Rattle.tpal_machine.specs.declared.ends.SideName.TheVariants.{Left, Right}
use Rattle.tpal_machine.specs.declared.turn.Turn.{Turn}
use Rattle.tpal_machine.specs.declared.turn.Turn.TheVariants as turn
use Rattle.tpal_machine.specs.Answer.{IsTurn}
use Rattle.tpal_machine.specs.Cut.{Forked}
use Rattle.tpal_machine.specs.Effect.{answered}
use Rattle.tpal_machine.specs.Keeping.{WaitsFrom, ForksFrom, StoppedKeeps, IsUndiverted}
use Rattle.tpal_machine.specs.Merge as merging
use Rattle.tpal_machine.specs.Merge.{Joined}
use Rattle.tpal_machine.specs.Owed.{owing, StoppedOwes, TurnOwes, due_after}
use Rattle.tpal_machine.specs.Owes.{Owes}
use Rattle.tpal_machine.specs.RestState.{RestState, end_of}
use Rattle.tpal_machine.specs.State.{State}
use Rattle.tpal_machine.specs.Step.{Step, Goes, Beats, Ends, Asks, Forks, Stuck, Strays, step}
use Rattle.tpal_machine.specs.Turn.{Stopped, Turned, Pauses, Waits, Parts, Sticks, turn_from}
use Rattle.tpal_machine.specs.Turn.{turn_of, turned_once, turned_on, went_on}
use Rattle.tpal_machine.specs.Turn as turns
use Rattle.tpal_machine.specs.Within.{JoinedOwes}
use Rattle.tpal_machine.proofs.Owed as machine
use Rattle.tpal_machine.proofs.Turns.{turn_later, turn_once}
use Rattle.tpal_machine.proofs.Undiverted.{agrees}
use Rattle.schedule_core.specs.declared.lanes.Opened.{Opened}
use Rattle.schedule_core.specs.declared.lanes.Opened.TheVariants.{Waiting, Half}
use Rattle.schedule_core.specs.declared.lanes.Tally.{Tally}
use Rattle.schedule_core.specs.Lanes.{Placed, TaskOwed, JoinedOwed, SideOwed, EndingOwed}
use Rattle.schedule_core.specs.Lanes.{ArrivalOwed, SoloStateOwed, after_stopped, after_turn, TurnFits}
use Rattle.schedule_core.specs.Lanes.{IsTally, EndArrives, JoinedArrives, SidesMerge, SideArrives}
use Rattle.schedule_core.specs.Lanes.{CanArrive}
use Rattle.schedule_core.specs.Solo.{Lane, SoloState, Runs, Lost, Comes, on, more, records, runs, next}
use Rattle.schedule_core.specs.Solo.{after_step, arrived_with, arrived_at, on_joined, met, turned}
use Rattle.schedule_core.specs.Solo.{one_skipped}
use Rattle.schedule_core.proofs.Finishing.{placed_goes, placed_none, placed_some, placed_left}
use Rattle.schedule_core.proofs.Finishing.{placed_child, placed_joined, fits_at}

-- ---- counts

more_twice : (a n m : ℕ) → more (more a n) m ≡ more a (n + m)
more_twice a n m = ⊎_elim
    (λ (below : a + n < 2 ^ 64 - 1).
    let same : min (a + n) (2 ^ 64 - 1) ≡ a + n = min-eq_left (omega (arith, below)) in
    let sum : a + n + m ≡ a + (n + m) = omega arith in
    ap (λ (k : ℕ). min (k + m) (2 ^ 64 - 1)) same ∙ ap (λ (k : ℕ). min k (2 ^ 64 - 1)) sum)
    (λ (above : 2 ^ 64 - 1 ≤ a + n).
    let same : min (a + n) (2 ^ 64 - 1) ≡ 2 ^ 64 - 1 = min-eq_right above in
    let one : min (2 ^ 64 - 1 + m) (2 ^ 64 - 1) ≡ 2 ^ 64 - 1 = min-eq_right (omega arith) in
    let all : min (a + (n + m)) (2 ^ 64 - 1) ≡ 2 ^ 64 - 1 = min-eq_right (omega (arith, above)) in
    ap (λ (k : ℕ). min (k + m) (2 ^ 64 - 1)) same ∙ one ∙ sym all)
    (cases_lt (a + n) (2 ^ 64 - 1))

pub turned_twice : (s b n m : ℕ) (tally : Tally) → turned n m (turned s b tally) ≡ turned (s + n) (b + m) tally
turned_twice s b n m tally = λ i. record { tasks = tally.tasks; beats = more_twice tally.beats b m i; skipped = tally.skipped; instructions = more_twice tally.instructions s n i }

pub more_none : (a : ℕ) → a ≤ 2 ^ 64 - 1 → more a 0 ≡ a
more_none a few = let same : a + 0 ≡ a = omega arith in ap (λ (k : ℕ). min k (2 ^ 64 - 1)) same ∙ min-eq_left few

pub turned_none : (tally : Tally) → IsTally tally → turned 0 0 tally ≡ tally
turned_none tally is = λ i. record { tasks = tally.tasks; beats = more_none tally.beats is.beats i; skipped = tally.skipped; instructions = more_none tally.instructions is.instructions i }

pub turned_tally : (s b : ℕ) (tally : Tally) → IsTally (turned s b tally)
turned_tally s b tally = record { beats = min-le_right (tally.beats + b) (2 ^ 64 - 1); instructions = min-le_right (tally.instructions + s) (2 ^ 64 - 1) }

-- ---- what is owed

-- what a side that arrives second merges with
pub half_arrives : (code : Listing) (all opened : List Opened) (rest : RestState) (left side : Side) → all ≡ Half rest left ∷ opened → CanArrive code all side → SidesMerge code rest left side (λ other. CanArrive code opened other)
half_arrives code all opened rest left side is arrives = subst (λ o. CanArrive code o side) is arrives

-- how a turn has to end: it isn't stuck, and what it ends with can arrive
abbrev pub StoppedFits : Listing → Stopped → List Opened → Type 0
StoppedFits code (Pauses after) opened = Unit {0}
StoppedFits code (Waits waits) opened = Unit {0}
StoppedFits code (Parts parts) opened = Unit {0}
StoppedFits code (turns.Comes e) opened = EndArrives e (λ side. CanArrive code opened side)
StoppedFits code (Sticks fault block at) opened = ⊥

module _ (code : Listing) (heartbeat : ℕ) where
  abbrev pub More : List Opened → Outcome → Ending → Type 0
  More opened out e = EndingOwed code heartbeat e out (λ side. ArrivalOwed code heartbeat opened out side)

  -- what an ending comes to owes the outcome
  ending_owed : (opened : List Opened) (out : Outcome) (tally : Tally) (e : Ending) → ((side : Side) → ArrivalOwed code heartbeat opened out side → SoloStateOwed code heartbeat out (arrived_at opened code tally side)) → More opened out e → SoloStateOwed code heartbeat out (arrived_with e tally (λ side. arrived_at opened code tally side))
  ending_owed opened out tally (ending.Root outcome) each is = is
  ending_owed opened out tally (ending.At k name side) each is = each side is

  joined_owed : (both : Joined) (opened : List Opened) (out : Outcome) (tally : Tally) → ((e : Ending) → More opened out e → SoloStateOwed code heartbeat out (arrived_with e tally (λ side. arrived_at opened code tally side))) → JoinedOwed code heartbeat both opened (More opened out) → SoloStateOwed code heartbeat out (on_joined both opened tally (λ e. arrived_with e tally (λ side. arrived_at opened code tally side)))
  joined_owed (merging.Goes task) opened out tally each is = record { due = false; ending = is.0; task = is.1; more = is.2 }
  joined_owed (merging.Ends e) opened out tally each is = each e is

  met_owed : (one : Opened) (opened : List Opened) (out : Outcome) (tally : Tally) (side : Side) → ((e : Ending) → More opened out e → SoloStateOwed code heartbeat out (arrived_with e tally (λ other. arrived_at opened code tally other))) → SideOwed code heartbeat one side opened (More opened out) → SoloStateOwed code heartbeat out (met one code side opened tally (λ e. arrived_with e tally (λ other. arrived_at opened code tally other)))
  met_owed (Waiting rest child) opened out tally side each is = record { due = false; ending = ending.At is.number Right is.q; task = is.owes; more = is.merged }
  met_owed (Half rest left) opened out tally side each is =
      subst (λ both. SoloStateOwed code heartbeat out (on_joined both opened tally (λ e. arrived_with e tally (λ other. arrived_at opened code tally other)))) (sym is.merge.gives) (joined_owed is.both opened out tally each is.owed)

  pub arrival_owed : (opened : List Opened) (out : Outcome) (tally : Tally) (side : Side) → ArrivalOwed code heartbeat opened out side → SoloStateOwed code heartbeat out (arrived_at opened code tally side)
  arrival_owed [] out tally side is = absurd is
  arrival_owed (one ∷ opened) out tally side is =
      met_owed one opened out tally side (λ e more. ending_owed opened out tally e (λ other arrives. arrival_owed opened out tally other arrives) more) is

  -- where an ending owes the outcome, it can arrive
  end_arrives : (opened : List Opened) (out : Outcome) (e : Ending) → ((side : Side) → ArrivalOwed code heartbeat opened out side → CanArrive code opened side) → More opened out e → EndArrives e (λ side. CanArrive code opened side)
  end_arrives opened out (ending.Root outcome) each is = tt
  end_arrives opened out (ending.At k name side) each is = each side is

  joined_arrives : (both : Joined) (opened : List Opened) (out : Outcome) → ((e : Ending) → More opened out e → EndArrives e (λ side. CanArrive code opened side)) → JoinedOwed code heartbeat both opened (More opened out) → JoinedArrives both (λ side. CanArrive code opened side)
  joined_arrives (merging.Goes task) opened out each is = tt
  joined_arrives (merging.Ends e) opened out each is = each e is

  met_arrives : (one : Opened) (opened : List Opened) (out : Outcome) (side : Side) → ((e : Ending) → More opened out e → EndArrives e (λ other. CanArrive code opened other)) → SideOwed code heartbeat one side opened (More opened out) → SideArrives code one side (λ other. CanArrive code opened other)
  met_arrives (Waiting rest child) opened out side each is = tt
  met_arrives (Half rest left) opened out side each is = record { both = is.both; merge = is.merge; later = joined_arrives is.both opened out each is.owed }

  can_arrive : (opened : List Opened) (out : Outcome) (side : Side) → ArrivalOwed code heartbeat opened out side → CanArrive code opened side
  can_arrive [] out side is = absurd is
  can_arrive (one ∷ opened) out side is =
      met_arrives one opened out side (λ e more. end_arrives opened out e (λ other arrives. can_arrive opened out other arrives) more) is

  pub ending_arrives : (opened : List Opened) (out : Outcome) (e : Ending) → More opened out e → EndArrives e (λ side. CanArrive code opened side)
  ending_arrives opened out e is = end_arrives opened out e (λ side arrives. can_arrive opened out side arrives) is

  -- what the end of a turn comes to owes the outcome
  room_owed : (b : Bool) (waits : State) (opened : List Opened) (out : Outcome) (tally : Tally) (e : Ending) → nat_lt (length opened) records ≡ b → (nat_lt (length opened) records ≡ true → TaskOwed code heartbeat false (answered (Some (length opened)) waits) opened e) → TaskOwed code heartbeat false (answered None waits) opened e → More opened out e → SoloStateOwed code heartbeat out (cond b (runs (answered (Some (length opened)) waits) opened tally) (runs (answered None waits) opened (one_skipped tally)))
  room_owed true waits opened out tally e is some none rest = record { due = false; ending = e; task = some is; more = rest }
  room_owed false waits opened out tally e is some none rest = record { due = false; ending = e; task = none; more = rest }

  fork_joined : (steps : ℕ) (task : State) (parts : Forked) (opened : List Opened) (out : Outcome) (p q : Side) (e : Ending) (both : Joined) → Placed task opened → ForksFrom heartbeat steps task parts → merging.joined code parts.rest p q ≡ both → JoinedOwes (owing code heartbeat) e both → More opened out e → JoinedOwed code heartbeat both opened (More opened out)
  fork_joined steps task parts opened out p q e (merging.Goes after) at kept gives owes rest = (e, record { owes = owes; placed = placed_joined code heartbeat steps task parts opened p q after at kept gives }, rest)
  fork_joined steps task parts opened out p q e (merging.Ends other) at kept gives same rest = subst (More opened out) (sym same) rest

  pub stopped_owed : (due : Bool) (steps : ℕ) (task : State) (opened : List Opened) (out : Outcome) (tally : Tally) (e : Ending) (stopped : Stopped) → Placed task opened → More opened out e → StoppedKeeps heartbeat steps task stopped → StoppedOwes code (owing code heartbeat) due e stopped → SoloStateOwed code heartbeat out (after_stopped code stopped opened tally)
  stopped_owed due steps task opened out tally e (Pauses after) at rest kept owes = record { due = due; ending = e; task = record { owes = owes; placed = placed_goes heartbeat steps task after opened at kept }; more = rest }
  stopped_owed due steps task opened out tally e (Waits waits) at rest kept owes =
      room_owed (nat_lt (length opened) records) waits opened out tally e refl
      (λ room. record { owes = owes.1 (Some (length opened)) (fits_at waits.goal opened (ap end_of kept.goal ∙ at.place) room); placed = placed_some heartbeat steps task waits opened at kept })
      (record { owes = owes.1 None tt; placed = placed_none heartbeat steps task waits opened at kept }) rest
  stopped_owed due steps task opened out tally e (Parts parts) at rest kept owes =
      let fork = owes.1 in
      record {
        due = false;
        ending = ending.At parts.rec Left fork.left;
        task = record { owes = fork.left_owes; placed = placed_left heartbeat steps task parts opened at kept };
        more = record {
          number = parts.rec;
          q = fork.right;
          none = kept.child_pending;
          owes = record { owes = fork.child_owes; placed = placed_child heartbeat steps task parts opened fork.left at kept };
          merged = record { both = fork.both; place = ap end_of kept.rest_goal ∙ at.place; merge = fork.merged; owed = fork_joined steps task parts opened out fork.left fork.right e fork.both at kept fork.merged.gives fork.joined_owes rest };
        };
      }
  stopped_owed due steps task opened out tally e (turns.Comes other) at rest kept owes =
      ending_owed opened out tally other (λ side arrives. arrival_owed opened out tally side arrives) (subst (More opened out) (sym owes.1) rest)
  stopped_owed due steps task opened out tally e (Sticks fault block place) at rest kept owes = absurd owes

  -- the turn that is answered
  pub turn_stage : (stopped : Stopped) (t : Turn) (opened : List Opened) (tally : Tally) → IsTurn stopped t → (t ≡ turn.NoMemory → ⊥) → after_stopped code stopped opened tally ≡ after_turn code t opened tally
  turn_stage stopped (turn.Pause task) opened tally is had = ap (λ s. after_stopped code s opened tally) is
  turn_stage stopped (turn.NeedRecord task) opened tally is had = ap (λ s. after_stopped code s opened tally) is
  turn_stage stopped (turn.Forked left rest child rec) opened tally is had = ap (λ s. after_stopped code s opened tally) is
  turn_stage stopped (turn.Arrived rec side out) opened tally is had = ap (λ s. after_stopped code s opened tally) is
  turn_stage stopped (turn.Halted outcome) opened tally is had = ap (λ s. after_stopped code s opened tally) is
  turn_stage stopped (turn.Stuck fault block at) opened tally is had = ap (λ s. after_stopped code s opened tally) is
  turn_stage stopped turn.NoMemory opened tally is had = absurd (had refl)

  -- what it has to be
  pub turn_fits : (steps : ℕ) (task : State) (opened : List Opened) (stopped : Stopped) (t : Turn) → IsTurn stopped t → StoppedKeeps heartbeat steps task stopped → StoppedFits code stopped opened → TurnFits code t opened
  turn_fits steps task opened stopped (turn.Pause after) is kept fits = tt
  turn_fits steps task opened stopped (turn.NeedRecord waits) is kept fits = let waiting : WaitsFrom heartbeat steps task waits = subst (StoppedKeeps heartbeat steps task) is kept in waiting.waiting
  turn_fits steps task opened stopped (turn.Forked left below child rec) is kept fits = tt
  turn_fits steps task opened stopped (turn.Arrived rec side p) is kept fits = subst (λ s. StoppedFits code s opened) is fits
  turn_fits steps task opened stopped (turn.Halted outcome) is kept fits = tt
  turn_fits steps task opened stopped (turn.Stuck fault block at) is kept fits = subst (λ s. StoppedFits code s opened) is fits
  turn_fits steps task opened stopped turn.NoMemory is kept fits = tt

  -- which holds where the outcome is owed
  pub owed_fits : (due : Bool) (opened : List Opened) (out : Outcome) (e : Ending) (stopped : Stopped) → More opened out e → StoppedOwes code (owing code heartbeat) due e stopped → StoppedFits code stopped opened
  owed_fits due opened out e (Pauses after) rest owes = tt
  owed_fits due opened out e (Waits waits) rest owes = tt
  owed_fits due opened out e (Parts parts) rest owes = tt
  owed_fits due opened out e (turns.Comes other) rest owes = ending_arrives opened out other (subst (More opened out) (sym owes.1) rest)
  owed_fits due opened out e (Sticks fault block at) rest owes = absurd owes

-- ---- nearer to the end

module _ (code : Listing) (heartbeat forks : ℕ) (right : IsCode code.tables code.blocks) where
  -- how many instructions are left where there are so many before
  record Nearer (least count : ℕ) (stage : SoloState) (outcome : Outcome) (last : Tally) : Type 0 where
    less : ℕ
    few : less + least ≤ count
    comes : Comes code heartbeat forks less stage outcome last

  record Before (count : ℕ) (stage : SoloState) (outcome : Outcome) (last : Tally) : Type 0 where
    less : ℕ
    is : count ≡ suc less
    comes : Comes code heartbeat forks less stage outcome last

  before : (count : ℕ) (lane : Lane) (outcome : Outcome) (last : Tally) → Comes code heartbeat forks count (Runs lane) outcome last → Before count (next code heartbeat forks lane) outcome last
  before count lane outcome last (on n _ _ _ comes) = record { less = n; is = refl; comes = comes }

  pub never_lost : (count : ℕ) (outcome : Outcome) (last : Tally) → Comes code heartbeat forks count Lost outcome last → ⊥
  never_lost count outcome last comes = elim comes [ ]

  pub one_step : (allowed due : Bool) (task : State) (e : Ending) → Owes code heartbeat due 0 task e → TurnOwes code (owing code heartbeat) due e (turned_once (step code heartbeat allowed task) task)
  one_step allowed due task e owes = subst (TurnOwes code (owing code heartbeat) due e) (turn_once heartbeat allowed code task) (machine.after_turn code heartbeat right 1 0 allowed due task e owes)

  -- where a beat is due no other comes, so it doesn't matter whether one is allowed
  calm_same : (task : State) (e : Ending) (one : Step) → step code heartbeat true task ≡ one → TurnOwes code (owing code heartbeat) true e (turned_once one task) → step code heartbeat false task ≡ one
  calm_same task e (Goes after) is owes = subst (λ s. IsUndiverted s (step code heartbeat false task)) is (agrees code heartbeat task)
  calm_same task e (Beats diverted) is owes = let none = owes.calm refl in absurd (omega (arith, none))
  calm_same task e (Ends other) is owes = subst (λ s. IsUndiverted s (step code heartbeat false task)) is (agrees code heartbeat task)
  calm_same task e (Asks waits) is owes = subst (λ s. IsUndiverted s (step code heartbeat false task)) is (agrees code heartbeat task)
  calm_same task e (Forks parts) is owes = subst (λ s. IsUndiverted s (step code heartbeat false task)) is (agrees code heartbeat task)
  calm_same task e (Stuck fault) is owes = subst (λ s. IsUndiverted s (step code heartbeat false task)) is (agrees code heartbeat task)
  calm_same task e Strays is owes = subst (λ s. IsUndiverted s (step code heartbeat false task)) is (agrees code heartbeat task)

  any_allowed : (allowed other : Bool) (task : State) (e : Ending) → Owes code heartbeat true 0 task e → step code heartbeat allowed task ≡ step code heartbeat other task
  any_allowed allowed other task e owes = by allowed other
    where
      calm : step code heartbeat false task ≡ step code heartbeat true task
      calm = calm_same task e (step code heartbeat true task) refl (one_step true true task e owes)

      by : (a b : Bool) → step code heartbeat a task ≡ step code heartbeat b task
      by true true = refl
      by true false = sym calm
      by false true = calm
      by false false = refl

  same_step : (allowed due : Bool) (task : State) (tally : Tally) (e : Ending) → Owes code heartbeat due 0 task e → (allowed ≡ nat_lt tally.beats forks) ⊎ (due ≡ true) → step code heartbeat (nat_lt tally.beats forks) task ≡ step code heartbeat allowed task
  same_step allowed due task tally e owes (inl same) = ap (λ b. step code heartbeat b task) (sym same)
  same_step allowed due task tally e owes (inr is) = any_allowed (nat_lt tally.beats forks) allowed task e (subst (λ d. Owes code heartbeat d 0 task e) is owes)

  still_due : (due : Bool) → due ≡ true → due_after due 0 ≡ true
  still_due true is = refl
  still_due false is = absurd (let wrong = is in cc)

  now_due : (due : Bool) → due_after due 1 ≡ true
  now_due true = refl
  now_due false = refl

  one_of : ℕ → ℕ
  one_of zero = 0
  one_of (suc n) = 1

  abbrev Turn_nearer : ℕ → Type 0
  Turn_nearer n =
      (allowed due : Bool) (task : State) (opened : List Opened) (tally : Tally) (e : Ending) (count : ℕ) (outcome : Outcome) (last : Tally) → IsTally tally → Owes code heartbeat due 0 task e → (allowed ≡ nat_lt tally.beats forks) ⊎ (due ≡ true) → Comes code heartbeat forks count (runs task opened tally) outcome last →
      Nearer (one_of n) count (after_stopped code (turn_of n code heartbeat allowed task).stopped opened (turned (turn_of n code heartbeat allowed task).steps (turn_of n code heartbeat allowed task).beats tally)) outcome last

  -- a turn that goes on after one step
  further : (n s b : ℕ) (allowed later : Bool) (task : State) (opened : List Opened) (tally : Tally) (count less : ℕ) (outcome : Outcome) (last : Tally) → count ≡ suc less →
      Nearer (one_of n) less (after_stopped code (turn_of n code heartbeat later task).stopped opened (turned (turn_of n code heartbeat later task).steps (turn_of n code heartbeat later task).beats (turned s b tally))) outcome last →
      Nearer 1 count (after_stopped code (turn_from n code heartbeat later s b task).stopped opened (turned (turn_from n code heartbeat later s b task).steps (turn_from n code heartbeat later s b task).beats tally)) outcome last
  further n s b allowed later task opened tally count less outcome last is nearer =
      let u = turn_of n code heartbeat later task in
      let bound = nearer.few in
      record {
        less = nearer.less;
        few = omega (arith, bound, is);
        comes = subst (λ (t : Turned). Comes code heartbeat forks nearer.less (after_stopped code t.stopped opened (turned t.steps t.beats tally)) outcome last) (sym (turn_later n heartbeat later code s b task))
            (subst (λ (y : Tally). Comes code heartbeat forks nearer.less (after_stopped code u.stopped opened y) outcome last) (turned_twice s b u.steps u.beats tally) nearer.comes);
      }

  step_nearer : (n : ℕ) → Turn_nearer n → (allowed due : Bool) (task : State) (opened : List Opened) (tally : Tally) (e : Ending) (count : ℕ) (outcome : Outcome) (last : Tally) → IsTally tally → (allowed ≡ nat_lt tally.beats forks) ⊎ (due ≡ true) → (one : Step) → TurnOwes code (owing code heartbeat) due e (turned_once one task) → Before count (after_step code one opened tally) outcome last →
      Nearer 1 count (after_stopped code (went_on one 0 0 task (λ t. turn_from n code heartbeat allowed (0 + 1) 0 t) (λ t. turn_from n code heartbeat false (0 + 1) (0 + 1) t)).stopped opened (turned (went_on one 0 0 task (λ t. turn_from n code heartbeat allowed (0 + 1) 0 t) (λ t. turn_from n code heartbeat false (0 + 1) (0 + 1) t)).steps (went_on one 0 0 task (λ t. turn_from n code heartbeat allowed (0 + 1) 0 t) (λ t. turn_from n code heartbeat false (0 + 1) (0 + 1) t)).beats tally)) outcome last
  step_nearer n each allowed due task opened tally e count outcome last is_tally free (Goes after) owes was =
      further n 1 0 allowed allowed after opened tally count was.less outcome last was.is
      (each allowed (due_after due 0) after opened (turned 1 0 tally) e was.less outcome last (turned_tally 1 0 tally) owes.stopped
      (⊎_elim (λ (same : allowed ≡ nat_lt tally.beats forks). inl (same ∙ ap (λ (k : ℕ). nat_lt k forks) (sym (more_none tally.beats is_tally.beats)))) (λ (yet : due ≡ true). inr (still_due due yet)) free) was.comes)
  step_nearer n each allowed due task opened tally e count outcome last is_tally free (Beats after) owes was =
      further n 1 1 allowed false after opened tally count was.less outcome last was.is
      (each false (due_after due 1) after opened (turned 1 1 tally) e was.less outcome last (turned_tally 1 1 tally) owes.stopped (inr (now_due due)) was.comes)
  step_nearer n each allowed due task opened tally e count outcome last is_tally free (Ends other) owes was = let same = was.is in record { less = was.less; few = omega (arith, same); comes = was.comes }
  step_nearer n each allowed due task opened tally e count outcome last is_tally free (Asks waits) owes was = let same = was.is in record { less = was.less; few = omega (arith, same); comes = was.comes }
  step_nearer n each allowed due task opened tally e count outcome last is_tally free (Forks parts) owes was = let same = was.is in record { less = was.less; few = omega (arith, same); comes = was.comes }
  step_nearer n each allowed due task opened tally e count outcome last is_tally free (Stuck fault) owes was = absurd (never_lost was.less outcome last was.comes)
  step_nearer n each allowed due task opened tally e count outcome last is_tally free Strays owes was = absurd (never_lost was.less outcome last was.comes)

  nearer : (n : ℕ) → Turn_nearer n
  unfolding turn_from one_of
  nearer zero allowed due task opened tally e count outcome last is_tally owes free comes =
      record { less = count; few = omega arith; comes = subst (λ (y : Tally). Comes code heartbeat forks count (runs task opened y) outcome last) (sym (turned_none tally is_tally)) comes }
  nearer (suc n) allowed due task opened tally e count outcome last is_tally owes free comes =
      let lane : Lane = record { task = task; opened = opened; tally = tally } in
      step_nearer n (nearer n) allowed due task opened tally e count outcome last is_tally free (step code heartbeat allowed task) (one_step allowed due task e owes)
      (subst (λ s. Before count (after_step code s opened tally) outcome last) (same_step allowed due task tally e owes free) (before count lane outcome last comes))

  -- a turn of a task that owes an ending brings the run nearer to its end
  pub record TurnNearer (count : ℕ) (stage : SoloState) (outcome : Outcome) (last : Tally) : Type 0 where
    pub less : ℕ
    pub few : less < count
    pub comes : Comes code heartbeat forks less stage outcome last

  pub turn_nearer : (budget : ℕ) (due : Bool) (task : State) (opened : List Opened) (tally : Tally) (e : Ending) (count : ℕ) (outcome : Outcome) (last : Tally) → 1 ≤ budget → IsTally tally → Owes code heartbeat due 0 task e → Comes code heartbeat forks count (runs task opened tally) outcome last →
      TurnNearer count (after_stopped code (turn_of budget code heartbeat (nat_lt tally.beats forks) task).stopped opened (turned (turn_of budget code heartbeat (nat_lt tally.beats forks) task).steps (turn_of budget code heartbeat (nat_lt tally.beats forks) task).beats tally)) outcome last
  unfolding one_of
  turn_nearer zero due task opened tally e count outcome last some is_tally owes comes = absurd (omega (arith, some))
  turn_nearer (suc n) due task opened tally e count outcome last some is_tally owes comes =
      let a = nearer (suc n) (nat_lt tally.beats forks) due task opened tally e count outcome last is_tally owes (inl refl) comes in
      let few = a.few in
      record { less = a.less; few = omega (arith, few); comes = a.comes }
