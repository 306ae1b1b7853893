-- A turn of one instruction is a step.
use Rattle.std.proofs.Common.{◌≡◌, ℕ, refl, sym, ap, ◌∙◌, subst}
use Rattle.std.proofs.lemmas.Bool.{eq-eqb, ne_eqb, cond-true, cond-false}
use Rattle.std.specs.Prelude.{Bool, ◌≢◌, ◌==◌, if◌then◌else◌, Option, Result, Ok, Err}
use Rattle.tpal_syntax.specs.Listing.{Listing}
use Rattle.tpal_syntax.specs.Conditions.{IsCode}
use Rattle.tpal_machine.specs.declared.ends.Ending.{Ending}
use Rattle.tpal_machine.specs.declared.ends.Ending.TheVariants as ending
use Rattle.tpal_machine.specs.declared.faults.Fault.{Fault}
use Rattle.tpal_machine.specs.declared.turn.Ran.{Ran}
use Rattle.tpal_machine.specs.declared.turn.Turn.{Turn}
use Rattle.tpal_machine.specs.declared.turn.Turn.TheVariants as turn
use Rattle.tpal_machine.specs.Answer.{IsRan, IsTurn, HadMemory}
use Rattle.tpal_machine.specs.Belonging.{RunsOn, IsStepOf}
use Rattle.tpal_machine.specs.Cut.{Forked}
use Rattle.tpal_machine.specs.State.{State}
use Rattle.tpal_machine.specs.RestState.{RestState}
use Rattle.tpal_machine.specs.declared.ends.Side.{Side}
use Rattle.tpal_machine.specs.declared.ends.SideName.{SideName}
use Rattle.tp_value.specs.declared.values.Outcome.{Outcome}
use Rattle.tpal_machine.specs.Step as machine
use Rattle.tpal_machine.specs.Step.{Step, step}
use Rattle.tpal_machine.specs.Turn.{Stopped, Pauses, Waits, Parts, Comes, Sticks, Turned, turn_from}
use Rattle.tpal_machine.specs.Turn.{turn_of, went_on, ends_here}
use Rattle.tpal_machine.proofs.Belonging.{step_of}
use Rattle.schedule_core.specs.declared.event.ApplyFault.{ApplyFault}
use Rattle.schedule_core.specs.declared.event.ApplyFault.TheVariants as fault
use Rattle.schedule_core.specs.declared.stepping.Once.{Once}
use Rattle.schedule_core.specs.declared.stepping.Once.TheVariants as once
use Rattle.schedule_core.specs.declared.seats.Seat.TheVariants as seat
use Rattle.schedule_core.specs.Core.{one_more, is_allowed}
use Rattle.schedule_core.specs.Effects.{Stepped, SeatStepped, CanRun, IsStepOnce, OnceGives, IsWant}
use Rattle.schedule_core.specs.Effects.{emptied, counted, least_free}
use Rattle.schedule_core.specs.Standing.{Standing, worker_at}

-- the step of a turn of one instruction, by how that ended and by its beats
abbrev step_told : Stopped → ℕ → Step
step_told (Pauses after) b = if b == 0 then machine.Goes after else machine.Beats after
step_told (Waits waits) b = machine.Asks waits
step_told (Parts parts) b = machine.Forks parts
step_told (Comes e) b = machine.Ends e
step_told (Sticks fault block at) b = machine.Stuck fault

-- what a turn tells of its step, with so many beats
abbrev pub Told : Step → Turn → ℕ → Type 0
Told x (turn.Pause t) b = (b ≡ 0 → x ≡ machine.Goes t) × ((b ≡ 0 → ⊥) → x ≡ machine.Beats t)
Told x (turn.NeedRecord t) b = x ≡ machine.Asks t
Told x (turn.Forked l r c k) b = x ≡ machine.Forks (record { rec = k; left = l; rest = r; child = c })
Told x (turn.Arrived k d o) b = x ≡ machine.Ends (ending.At k d o)
Told x (turn.Halted o) b = x ≡ machine.Ends (ending.Root o)
Told x (turn.Stuck f at_block a) b = x ≡ machine.Stuck f
Told x turn.NoMemory b = Unit {0}

module _ (code : Listing) (s : State) where
  abbrev whole : Step → Turned
  whole x = went_on x 0 0 s (λ after. ends_here 1 0 (Pauses after)) (λ after. ends_here 1 1 (Pauses after))

  is_told : (x : Step) → IsStepOf code x → x ≡ step_told (whole x).stopped (whole x).beats
  is_told (machine.Goes after) of = refl
  is_told (machine.Beats diverted) of = refl
  is_told (machine.Ends e) of = refl
  is_told (machine.Asks waits) of = refl
  is_told (machine.Forks parts) of = refl
  is_told (machine.Stuck fault) of = refl
  is_told machine.Strays of = absurd of

  told_by : (x : Step) (stopped : Stopped) → IsStepOf code x → (whole x).stopped ≡ stopped
      → x ≡ step_told stopped (whole x).beats
  told_by x stopped of is = is_told x of ∙ ap (λ s. step_told s (whole x).beats) is

  told : (x : Step) (t : Turn) (b : ℕ) → IsTurn (whole x).stopped t
      → HadMemory t (b ≡ (whole x).beats) → IsStepOf code x → Told x t b
  told x (turn.Pause t) b is few of =
      let all = told_by x (Pauses t) of is ∙ ap (step_told (Pauses t)) (sym few) in (
        (λ none. all ∙ cond-true (b == 0) (machine.Goes t) (machine.Beats t) (eq-eqb b 0 none)),
        (λ some. all ∙ cond-false (b == 0) (machine.Goes t) (machine.Beats t) (ne_eqb b 0 some)),
      )
  told x (turn.NeedRecord t) b is few of = told_by x _ of is
  told x (turn.Forked l r c k) b is few of = told_by x _ of is
  told x (turn.Arrived k d o) b is few of = told_by x _ of is
  told x (turn.Halted o) b is few of = told_by x _ of is
  told x (turn.Stuck f bl a) b is few of = told_by x _ of is
  told x turn.NoMemory b is few of = tt

one_turn : (code : Listing) (heartbeat : ℕ) (allowed : Bool) (s : State) → turn_of 1 code heartbeat allowed s ≡ whole code s (step code heartbeat allowed s)
unfolding turn_from
one_turn code heartbeat allowed s = refl

-- a turn of one instruction tells its step
told_once : (code : Listing) (heartbeat : ℕ) (allowed : Bool) (s : State) (ran : Ran) → IsRan (turn_of 1 code heartbeat allowed s) ran → IsCode code.tables code.blocks → RunsOn code s → Told (step code heartbeat allowed s) ran.turn ran.beats
told_once code heartbeat allowed s ran is right runs =
    let is' = subst (λ z. IsRan z ran) (one_turn code heartbeat allowed s) is in
    told code s (step code heartbeat allowed s) ran.turn ran.beats is'.turn is'.beats (step_of code heartbeat allowed s right runs)

module _ (code : Listing) (heartbeat : ℕ) (allowed : Bool) (s : State) (ran : Ran) (is : IsRan (turn_of 1 code heartbeat allowed s) ran) (right : IsCode code.tables code.blocks) (runs : RunsOn code s) where
  abbrev TellsOf : Turn → Type 0
  TellsOf t = Told (step code heartbeat allowed s) t ran.beats

  tells : (t : Turn) → ran.turn ≡ t → TellsOf t
  tells t q = subst TellsOf q (told_once code heartbeat allowed s ran is right runs)

  pub told_pause : (t : State) → ran.turn ≡ turn.Pause t → ran.beats ≡ 0 → step code heartbeat allowed s ≡ machine.Goes t
  told_pause t q = (tells (turn.Pause t) q).0

  pub told_beat : (t : State) → ran.turn ≡ turn.Pause t → ran.beats ≢ 0 → step code heartbeat allowed s ≡ machine.Beats t
  told_beat t q = (tells (turn.Pause t) q).1

  pub told_asks : (t : State) → ran.turn ≡ turn.NeedRecord t → step code heartbeat allowed s ≡ machine.Asks t
  told_asks t q = tells (turn.NeedRecord t) q

  pub told_forks : (l : State) (r : RestState) (c : State) (k : ℕ) → ran.turn ≡ turn.Forked l r c k → step code heartbeat allowed s ≡ machine.Forks (record { rec = k; left = l; rest = r; child = c })
  told_forks l r c k q = tells (turn.Forked l r c k) q

  pub told_arrived : (k : ℕ) (d : SideName) (o : Side) → ran.turn ≡ turn.Arrived k d o → step code heartbeat allowed s ≡ machine.Ends (ending.At k d o)
  told_arrived k d o q = tells (turn.Arrived k d o) q

  pub told_halted : (o : Outcome) → ran.turn ≡ turn.Halted o → step code heartbeat allowed s ≡ machine.Ends (ending.Root o)
  told_halted o q = tells (turn.Halted o) q

  pub told_stuck : (f : Fault) (bl a : ℕ) → ran.turn ≡ turn.Stuck f bl a → step code heartbeat allowed s ≡ machine.Stuck f
  told_stuck f bl a q = tells (turn.Stuck f bl a) q

-- want of memory is an answer to every step
wants : (s : Standing) (w : ℕ) (free : Option ℕ) (due : Bool) (x : Step) (result : Result Standing ApplyFault) → (x ≡ machine.Strays → ⊥) → IsWant result → Stepped s w free due x result
wants s w free due x (Ok new) n is = absurd is
wants s w free due x (Err (fault.NotEnabled c)) n is = absurd is
wants s w free due x (Err (fault.Stuck f)) n is = absurd is
wants s w free due (machine.Goes a) (Err fault.NoMemory) n is = tt
wants s w free due (machine.Beats a) (Err fault.NoMemory) n is = tt
wants s w free due (machine.Ends a) (Err fault.NoMemory) n is = tt
wants s w free due (machine.Asks a) (Err fault.NoMemory) n is = tt
wants s w free due (machine.Forks a) (Err fault.NoMemory) n is = tt
wants s w free due (machine.Stuck a) (Err fault.NoMemory) n is = tt
wants s w free due machine.Strays (Err fault.NoMemory) n is = absurd (n refl)

-- what the answer to one instruction is, is what its step gives
pub stepped_of : (s : Standing) (w : ℕ) (due : Bool) (x : Step) (o : Once) (result : Result Standing ApplyFault) → (x ≡ machine.Strays → ⊥) → IsStepOnce x o → OnceGives (counted s w) w due o result → Stepped s w (least_free s.cells) due x result
stepped_of s w due x (once.Goes t) result n is gives = subst (λ z. Stepped s w (least_free s.cells) due z result) (sym is) gives
stepped_of s w due x (once.Beats t) result n is gives = subst (λ z. Stepped s w (least_free s.cells) due z result) (sym is) gives
stepped_of s w due x (once.Ends e) result n is gives = subst (λ z. Stepped s w (least_free s.cells) due z result) (sym is) gives
stepped_of s w due x (once.Asks t) result n is gives = subst (λ z. Stepped s w (least_free s.cells) due z result) (sym is) gives
stepped_of s w due x (once.Forks k l c r) result n is gives = subst (λ z. Stepped s w (least_free s.cells) due z result) (sym is) gives
stepped_of s w due x (once.Stuck f) result n is gives = subst (λ z. Stepped s w (least_free s.cells) due z result) (sym is) gives
stepped_of s w due x once.NoMemory result n is gives = wants s w (least_free s.cells) due x result n gives

never_strays : (code : Listing) (x : Step) → IsStepOf code x → x ≡ machine.Strays → ⊥
never_strays code x of is = subst (IsStepOf code) is of

-- a task that runs on its code never strays
pub strays_never : (code : Listing) (heartbeat : ℕ) (allowed : Bool) (s : State) → IsCode code.tables code.blocks → RunsOn code s → step code heartbeat allowed s ≡ machine.Strays → ⊥
strays_never code heartbeat allowed s right runs = never_strays code (step code heartbeat allowed s) (step_of code heartbeat allowed s right runs)

-- the answer to a worker's step
pub stepped_at : (code : Listing) (s : Standing) (w : ℕ) (task : State) (due : Bool) (o : Once) (mid : Standing) (result : Result Standing ApplyFault) (h : ℕ) (a : Bool) → IsCode code.tables code.blocks
    → IsStepOnce (step code h a task) o → OnceGives (record mid { instructions = one_more mid.instructions }) w due o result
    → (worker_at s.workers w).seat ≡ seat.Running task due → mid ≡ emptied s w → h ≡ s.heartbeat → a ≡ is_allowed s.forks (worker_at s.workers w).beats
    → CanRun code (worker_at s.workers w).seat → SeatStepped code s w (worker_at s.workers w).seat result
stepped_at code s w task due o mid result h a right is gives q m hq aq runs =
    let can : RunsOn code task = subst (CanRun code) q runs in
    let is' = subst (λ x. IsStepOnce (step code x (is_allowed s.forks (worker_at s.workers w).beats) task) o) hq (subst (λ x. IsStepOnce (step code h x task) o) aq is) in
    let gives' = subst (λ (x : Standing). OnceGives (record x { instructions = one_more x.instructions }) w due o result) m gives in
    subst (λ x. SeatStepped code s w x result) (sym q)
    (stepped_of s w due (step code s.heartbeat (is_allowed s.forks (worker_at s.workers w).beats) task) o result (strays_never code s.heartbeat (is_allowed s.forks (worker_at s.workers w).beats) task right can) is' gives')
