-- A solo run whose first task owes an outcome comes to its end.
use Rattle.std.proofs.Common.{◌≡◌, ℕ, suc, ◌<◌, ◌⊎◌, inl, inr, Bool, true, false, Option, Some}
use Rattle.std.proofs.Common.{None, List, [], ◌∷◌, length, refl, ap, sym, subst, ◌∙◌, arith}
use Rattle.std.proofs.lemmas.Bool.Decides.{nat_tests}
use Rattle.std.specs.Prelude.{◌^◌, nat_lt}
use Rattle.tp_value.specs.declared.values.Outcome.{Outcome}
use Rattle.tpal_syntax.specs.Listing.{Listing}
use Rattle.tpal_machine.specs.declared.ends.End.TheVariants as «end»
use Rattle.tpal_machine.specs.declared.ends.Ending.{Ending}
use Rattle.tpal_machine.specs.declared.ends.Ending.TheVariants as ending
use Rattle.tpal_machine.specs.declared.ends.Goal.{Goal}
use Rattle.tpal_machine.specs.declared.ends.Goal.TheVariants as goal
use Rattle.tpal_machine.specs.declared.ends.Side.{Side}
use Rattle.tpal_machine.specs.declared.ends.SideName.TheVariants.{Left, Right}
use Rattle.tpal_machine.specs.Cut.{Forked}
use Rattle.tpal_machine.specs.Effect.{answered}
use Rattle.tpal_machine.specs.Keeping.{number_of, GoesFrom, WaitsFrom, ForksFrom, StepKeeps}
use Rattle.tpal_machine.specs.Keeping.{IsUndiverted}
use Rattle.tpal_machine.specs.Merge as merging
use Rattle.tpal_machine.specs.Merge.{Joined}
use Rattle.tpal_machine.specs.Owes as owes
use Rattle.tpal_machine.specs.Owes.{Bound, IsAnswer}
use Rattle.tpal_machine.specs.RestState.{end_of}
use Rattle.tpal_machine.specs.State.{State}
use Rattle.tpal_machine.specs.Step.{Step, Goes, Beats, Ends, Asks, Forks, step}
use Rattle.tpal_machine.proofs.Keeping.{step_keeps, answer_keeps, merge_keeps}
use Rattle.tpal_machine.proofs.Undiverted.{agrees}
use Rattle.schedule_core.specs.declared.lanes.Opened.{Opened}
use Rattle.schedule_core.specs.declared.lanes.Opened.TheVariants.{Waiting, Half}
use Rattle.schedule_core.specs.declared.lanes.Tally.{Tally}
use Rattle.schedule_core.specs.Lanes.{Placed, end_at}
use Rattle.schedule_core.specs.Solo.{Lane, SoloState, Runs, Comes, on, records, runs, next, after_step}
use Rattle.schedule_core.specs.Solo.{asked, arrived, arrived_with, arrived_at, on_joined, turned}
use Rattle.schedule_core.specs.Solo.{one_task, one_skipped}

-- ---- places

pub placed_goes : (heartbeat steps : ℕ) (task after : State) (opened : List Opened) → Placed task opened → GoesFrom heartbeat steps task after → Placed after opened
placed_goes heartbeat steps task after opened at is = record {
  place = ap end_of is.goal ∙ at.place;
  given = subst (λ p. (number_of p ≡ None) ⊎ (number_of p ≡ Some (length opened))) (sym is.pending) at.given;
}

pub placed_none : (heartbeat steps : ℕ) (task waits : State) (opened : List Opened) → Placed task opened → WaitsFrom heartbeat steps task waits → Placed (answered None waits) opened
placed_none heartbeat steps task waits opened at is =
    let kept = answer_keeps None waits is.waiting is.pending in
    record { place = ap end_of kept.goal ∙ ap end_of is.goal ∙ at.place; given = inl kept.pending }

pub placed_some : (heartbeat steps : ℕ) (task waits : State) (opened : List Opened) → Placed task opened → WaitsFrom heartbeat steps task waits → Placed (answered (Some (length opened)) waits) opened
placed_some heartbeat steps task waits opened at is =
    let kept = answer_keeps (Some (length opened)) waits is.waiting is.pending in
    record { place = ap end_of kept.goal ∙ ap end_of is.goal ∙ at.place; given = inr kept.pending }

-- the record that a task forks under is the least free one
number_in : ℕ → Option ℕ → ℕ
number_in other None = other
number_in other (Some k) = k

pub forks_at : (heartbeat steps : ℕ) (task : State) (parts : Forked) (opened : List Opened) → Placed task opened → ForksFrom heartbeat steps task parts → parts.rec ≡ length opened
forks_at heartbeat steps task parts opened at is = is.rec ∙ by_given at.given
  where
    number : number_of task.pending ≡ Some is.tie.rec
    number = ap number_of is.pending

    by_given : (number_of task.pending ≡ None) ⊎ (number_of task.pending ≡ Some (length opened)) → is.tie.rec ≡ length opened
    by_given (inl none) = let never : Some is.tie.rec ≡ None = sym number ∙ none in cc
    by_given (inr some) = let same : Some is.tie.rec ≡ Some (length opened) = sym number ∙ some in cc

pub placed_left : (heartbeat steps : ℕ) (task : State) (parts : Forked) (opened : List Opened) → Placed task opened → ForksFrom heartbeat steps task parts → Placed parts.left (Waiting parts.rest parts.child ∷ opened)
placed_left heartbeat steps task parts opened at is = record { place = is.left_end ∙ ap (λ k. «end».At k Left) (forks_at heartbeat steps task parts opened at is); given = inl (ap number_of is.left_pending) }

pub placed_child : (heartbeat steps : ℕ) (task : State) (parts : Forked) (opened : List Opened) (p : Side) → Placed task opened → ForksFrom heartbeat steps task parts → Placed parts.child (Half parts.rest p ∷ opened)
placed_child heartbeat steps task parts opened p at is = record { place = is.child_end ∙ ap (λ k. «end».At k Right) (forks_at heartbeat steps task parts opened at is); given = inl (ap number_of is.child_pending) }

pub placed_joined : (code : Listing) (heartbeat steps : ℕ) (task : State) (parts : Forked) (opened : List Opened) (p q : Side) (after : State) → Placed task opened → ForksFrom heartbeat steps task parts → merging.joined code parts.rest p q ≡ merging.Goes after → Placed after opened
placed_joined code heartbeat steps task parts opened p q after at is gives =
    let kept = subst (Rattle.tpal_machine.specs.Keeping.JoinedKeeps parts.rest) gives (merge_keeps code parts.rest p q) in
    record { place = ap end_of kept.goal ∙ ap end_of is.rest_goal ∙ at.place; given = inl (ap number_of kept.pending) }

lt_of : (a b : ℕ) → nat_lt a b ≡ true → a < b
lt_of a b is = grind (arith, nat_tests)

-- the least free record is an answer
pub fits_at : (g : Goal) (opened : List Opened) → end_of g ≡ end_at opened → nat_lt (length opened) records ≡ true → IsAnswer g (Some (length opened))
fits_at goal.Root opened same few = let below = lt_of (length opened) records few in omega (arith, below)
fits_at (goal.At rec side target) [] same few = cc
fits_at (goal.At rec side target) (Waiting rest child ∷ opened) same few = let below = lt_of (suc (length opened)) records few in (omega (arith, below), λ also. let rec_is : rec ≡ length opened = record_same same in omega (arith, also, rec_is))
  where
    record_same : «end».At rec side ≡ «end».At (length opened) Left → rec ≡ length opened
    record_same is = cc
fits_at (goal.At rec side target) (Half rest left ∷ opened) same few = let below = lt_of (suc (length opened)) records few in (omega (arith, below), λ also. let rec_is : rec ≡ length opened = record_same same in omega (arith, also, rec_is))
  where
    record_same : «end».At rec side ≡ «end».At (length opened) Right → rec ≡ length opened
    record_same is = cc

-- ---- to the end

pub steady : (code : Listing) (heartbeat : ℕ) (allowed : Bool) (task : State) (one : Step) → (IsUndiverted one (step code heartbeat false task) → step code heartbeat false task ≡ one) → step code heartbeat true task ≡ one → step code heartbeat allowed task ≡ one
steady code heartbeat true task one calm is = is
steady code heartbeat false task one calm is = calm (subst (λ s. IsUndiverted s (step code heartbeat false task)) is (agrees code heartbeat task))

module _ (code : Listing) (heartbeat forks : ℕ) (outcome : Outcome) where
  pub record Finishes (stage : SoloState) : Type 0 where
    pub instructions : ℕ
    pub tally : Tally
    pub comes : Comes code heartbeat forks instructions stage outcome tally

  step_to : (lane : Lane) (one : Step) → step code heartbeat (nat_lt lane.tally.beats forks) lane.task ≡ one → Finishes (after_step code one lane.opened lane.tally) → Finishes (Runs lane)
  step_to lane one is rest =
      let same : Finishes (next code heartbeat forks lane) = subst (λ s. Finishes (after_step code s lane.opened lane.tally)) (sym is) rest in
      record { instructions = suc same.instructions; tally = same.tally; comes = on same.instructions lane outcome same.tally same.comes }

  given_some : (waits : State) (opened : List Opened) (tally : Tally) → (nat_lt (length opened) records ≡ true → Finishes (runs (answered (Some (length opened)) waits) opened tally)) → Finishes (runs (answered None waits) opened (one_skipped tally)) → Finishes (asked waits opened tally)
  given_some waits opened tally some none = by_room (nat_lt (length opened) records) some
    where
      by_room : (b : Bool) → (b ≡ true → Finishes (runs (answered (Some (length opened)) waits) opened tally)) → Finishes (Rattle.std.specs.Prelude.cond b (runs (answered (Some (length opened)) waits) opened tally) (runs (answered None waits) opened (one_skipped tally)))
      by_room true with_record = with_record refl
      by_room false with_record = none

  -- a task that is bound to an ending comes to its end, where what that ending comes to does
  pub finishes : (due : Bool) (n : ℕ) (task : State) (e : Ending) → Bound code heartbeat due n task e → (opened : List Opened) (tally : Tally) → Placed task opened → ((later : Tally) → Finishes (arrived code opened later e)) → Finishes (runs task opened tally)
  finishes false n task e (owes.ends _ _ is) opened tally at rest =
      step_to (record { task = task; opened = opened; tally = tally }) (Ends e) (steady code heartbeat (nat_lt tally.beats forks) task (Ends e) (λ s. s) is) (rest (turned 1 0 tally))
  finishes due n task e (owes.goes _ _ m _ after _ few is bound) opened tally at rest =
      step_to (record { task = task; opened = opened; tally = tally }) (Goes after) (steady code heartbeat (nat_lt tally.beats forks) task (Goes after) (λ s. s) is)
      (finishes due m after e bound opened (turned 1 0 tally) (placed_goes heartbeat 1 task after opened at (subst (StepKeeps heartbeat task) is (step_keeps heartbeat code true task))) rest)
  finishes false n task e (owes.beats _ m _ after diverted _ few calmly is bound other) opened tally at rest = by_allowed (nat_lt tally.beats forks) refl
      (finishes false m after e bound opened (turned 1 0 tally) (placed_goes heartbeat 1 task after opened at (subst (StepKeeps heartbeat task) calmly (step_keeps heartbeat code false task))) rest)
      (finishes true 0 diverted e other opened (turned 1 1 tally) (placed_goes heartbeat 1 task diverted opened at (subst (StepKeeps heartbeat task) is (step_keeps heartbeat code true task))) rest)
    where
      by_allowed : (b : Bool) → nat_lt tally.beats forks ≡ b → Finishes (runs after opened (turned 1 0 tally)) → Finishes (runs diverted opened (turned 1 1 tally)) → Finishes (runs task opened tally)
      by_allowed true same calm beat = step_to (record { task = task; opened = opened; tally = tally }) (Beats diverted) (ap (λ b. step code heartbeat b task) same ∙ is) beat
      by_allowed false same calm beat = step_to (record { task = task; opened = opened; tally = tally }) (Goes after) (ap (λ b. step code heartbeat b task) same ∙ calmly) calm
  finishes true n task e (owes.asks _ waits _ is bound) opened tally at rest =
      let kept : WaitsFrom heartbeat 1 task waits = subst (StepKeeps heartbeat task) is (step_keeps heartbeat code true task) in
      step_to (record { task = task; opened = opened; tally = tally }) (Asks waits) (steady code heartbeat (nat_lt tally.beats forks) task (Asks waits) (λ s. s) is)
      (given_some waits opened (turned 1 0 tally)
      (λ room. finishes false 0 (answered (Some (length opened)) waits) e (bound (Some (length opened)) (fits_at waits.goal opened (ap end_of kept.goal ∙ at.place) room)) opened (turned 1 0 tally) (placed_some heartbeat 1 task waits opened at kept) rest)
      (finishes false 0 (answered None waits) e (bound None tt) opened (one_skipped (turned 1 0 tally)) (placed_none heartbeat 1 task waits opened at kept) rest))
  finishes false n task e (owes.forks _ parts p q _ is left right merged) opened tally at rest =
      let kept : ForksFrom heartbeat 1 task parts = subst (StepKeeps heartbeat task) is (step_keeps heartbeat code true task) in
      step_to (record { task = task; opened = opened; tally = tally }) (Forks parts) (steady code heartbeat (nat_lt tally.beats forks) task (Forks parts) (λ s. s) is)
      (finishes false 0 parts.left (ending.At parts.rec Left p) left (Waiting parts.rest parts.child ∷ opened) (one_task (turned 1 0 tally)) (placed_left heartbeat 1 task parts opened at kept)
      (λ later. finishes false 0 parts.child (ending.At parts.rec Right q) right (Half parts.rest p ∷ opened) later (placed_child heartbeat 1 task parts opened p at kept)
      (λ last. subst (λ both. Finishes (on_joined both opened last (λ f. arrived_with f last (λ other. arrived_at opened code last other)))) (sym merged.gives) (rest last))))
  finishes false n task e (owes.forks_on _ parts p q joined _ is left right merged bound) opened tally at rest =
      let kept : ForksFrom heartbeat 1 task parts = subst (StepKeeps heartbeat task) is (step_keeps heartbeat code true task) in
      step_to (record { task = task; opened = opened; tally = tally }) (Forks parts) (steady code heartbeat (nat_lt tally.beats forks) task (Forks parts) (λ s. s) is)
      (finishes false 0 parts.left (ending.At parts.rec Left p) left (Waiting parts.rest parts.child ∷ opened) (one_task (turned 1 0 tally)) (placed_left heartbeat 1 task parts opened at kept)
      (λ later. finishes false 0 parts.child (ending.At parts.rec Right q) right (Half parts.rest p ∷ opened) later (placed_child heartbeat 1 task parts opened p at kept)
      (λ last. subst (λ both. Finishes (on_joined both opened last (λ f. arrived_with f last (λ other. arrived_at opened code last other)))) (sym merged.gives)
      (finishes false 0 joined e bound opened last (placed_joined code heartbeat 1 task parts opened p q joined at kept merged.gives) rest))))
