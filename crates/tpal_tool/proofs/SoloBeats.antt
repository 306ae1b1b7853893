-- A solo run is diverted at most so often as it may be.
use Rattle.std.proofs.Common.{◌≡◌, ℕ, ◌+◌, ◌*◌, ◌-◌, ◌<◌, ◌≤◌, Bool, true, false, List, [], ◌∷◌}
use Rattle.std.proofs.Common.{refl, sym, ap, ◌∙◌, subst, arith}
use Rattle.std.proofs.Math.Nat.{min-le_left}
use Rattle.std.specs.Prelude.{◌^◌, cond, length, nat_lt, Some, None}
use Rattle.tp_value.specs.declared.values.Outcome.{Outcome}
use Rattle.tpal_syntax.specs.Listing.{Listing}
use Rattle.tpal_machine.specs.declared.ends.Ending.{Ending}
use Rattle.tpal_machine.specs.declared.ends.Ending.TheVariants as ending
use Rattle.tpal_machine.specs.declared.ends.Side.{Side}
use Rattle.tpal_machine.specs.Effect.{answered}
use Rattle.tpal_machine.specs.Keeping.{IsUndiverted}
use Rattle.tpal_machine.specs.Merge as merging
use Rattle.tpal_machine.specs.Merge.{Joined, joined}
use Rattle.tpal_machine.specs.State.{State}
use Rattle.tpal_machine.specs.Step.{Step, Goes, Beats, Ends, Asks, Forks, Stuck, Strays, step}
use Rattle.tpal_machine.proofs.Undiverted.{agrees}
use Rattle.schedule_core.specs.declared.lanes.Opened.{Opened}
use Rattle.schedule_core.specs.declared.lanes.Opened.TheVariants.{Waiting, Half}
use Rattle.schedule_core.specs.declared.lanes.Tally.{Tally}
use Rattle.schedule_core.specs.Solo.{SoloState, Runs, Over, Lost, Comes, over, on, SoloRun, runs, turned}
use Rattle.schedule_core.specs.Solo.{one_skipped, on_joined, arrived_with, arrived_at, after_step}
use Rattle.schedule_core.specs.Solo.{records}
use Rattle.schedule_core.proofs.Paid.{lt_true}

-- ---- a step that may not be diverted is no beat

abbrev is_beat : Step → Bool
is_beat (Goes after) = false
is_beat (Beats diverted) = true
is_beat (Ends e) = false
is_beat (Asks waits) = false
is_beat (Forks parts) = false
is_beat (Stuck fault) = false
is_beat Strays = false

calm_is_no_beat : (free calm : Step) → IsUndiverted free calm → is_beat calm ≡ false
calm_is_no_beat (Goes after) calm is = ap is_beat is
calm_is_no_beat (Beats diverted) calm is = ap is_beat is.1
calm_is_no_beat (Ends e) calm is = ap is_beat is
calm_is_no_beat (Asks waits) calm is = ap is_beat is
calm_is_no_beat (Forks parts) calm is = ap is_beat is
calm_is_no_beat (Stuck fault) calm is = ap is_beat is
calm_is_no_beat Strays calm is = ap is_beat is

beats_where_allowed : (code : Listing) (heartbeat : ℕ) (allowed : Bool) (task : State) → is_beat (step code heartbeat allowed task) ≡ true → allowed ≡ true
beats_where_allowed code heartbeat true task beats = refl
beats_where_allowed code heartbeat false task beats =
    sym (calm_is_no_beat (step code heartbeat true task) (step code heartbeat false task) (agrees code heartbeat task)) ∙ beats

-- ---- what a step leads to

module _ (code : Listing) (heartbeat forks : ℕ) where
  -- a stage of a run with at most so many diversions so far
  abbrev Within : SoloState → Type 0
  Within (Runs lane) = lane.tally.beats ≤ forks
  Within (Over outcome tally) = tally.beats ≤ forks
  Within Lost = Unit {0}

  either_within : (b : Bool) (one other : SoloState) → Within one → Within other → Within (cond b one other)
  either_within true one other is also = is
  either_within false one other is also = also

  joined_within : (j : Joined) (opened : List Opened) (tally : Tally) (arrive : Ending → SoloState) → tally.beats ≤ forks → ((e : Ending) → Within (arrive e)) → Within (on_joined j opened tally arrive)
  joined_within (merging.Goes task) opened tally arrive few each = few
  joined_within (merging.Ends e) opened tally arrive few each = each e

  ending_within : (e : Ending) (tally : Tally) (arrive : Side → SoloState) → tally.beats ≤ forks → ((side : Side) → Within (arrive side)) → Within (arrived_with e tally arrive)
  ending_within (ending.Root outcome) tally arrive few each = few
  ending_within (ending.At k name side) tally arrive few each = each side

  side_within : (opened : List Opened) (tally : Tally) (side : Side) → tally.beats ≤ forks → Within (arrived_at opened code tally side)
  side_within [] tally side few = tt
  side_within (Waiting rest child ∷ opened) tally side few = few
  side_within (Half rest left ∷ opened) tally side few =
      joined_within (joined code rest left side) opened tally _ few
      (λ e. ending_within e tally _ few (λ other. side_within opened tally other few))

  -- one instruction more, and a diversion or none, where there was room for it
  more_within : (tally : Tally) (beats : ℕ) → tally.beats + beats ≤ forks → (turned 1 beats tally).beats ≤ forks
  more_within tally beats few = omega (arith, few, min-le_left (tally.beats + beats) (2 ^ 64 - 1))

  step_within : (one : Step) (opened : List Opened) (tally : Tally) → tally.beats ≤ forks → (is_beat one ≡ true → tally.beats < forks) → Within (after_step code one opened tally)
  step_within (Goes after) opened tally few room = more_within tally 0 (omega (arith, few))
  step_within (Beats diverted) opened tally few room = more_within tally 1 (omega (arith, room refl))
  step_within (Ends e) opened tally few room =
      let here : (turned 1 0 tally).beats ≤ forks = more_within tally 0 (omega (arith, few)) in
      ending_within e (turned 1 0 tally) _ here (λ side. side_within opened (turned 1 0 tally) side here)
  step_within (Asks waits) opened tally few room =
      let here : (turned 1 0 tally).beats ≤ forks = more_within tally 0 (omega (arith, few)) in
      either_within (nat_lt (length opened) records)
      (runs (answered (Some (length opened)) waits) opened (turned 1 0 tally))
      (runs (answered None waits) opened (one_skipped (turned 1 0 tally))) here here
  step_within (Forks parts) opened tally few room = more_within tally 0 (omega (arith, few))
  step_within (Stuck fault) opened tally few room = tt
  step_within Strays opened tally few room = tt

  comes_within : (n : ℕ) (stage : SoloState) (outcome : Outcome) (tally : Tally) → Comes code heartbeat forks n stage outcome tally → Within stage → tally.beats ≤ forks
  comes_within n stage outcome tally (over _ _) few = few
  comes_within n stage outcome tally (on k lane _ _ comes) few =
      comes_within k _ outcome tally comes
      (step_within (step code heartbeat (nat_lt lane.tally.beats forks) lane.task) lane.opened lane.tally few
      (λ beats. lt_true lane.tally.beats forks (beats_where_allowed code heartbeat (nat_lt lane.tally.beats forks) lane.task beats)))

  -- a solo run is diverted at most so often as it may be
  pub solo_beats : (task : State) (outcome : Outcome) (tally : Tally) → SoloRun code heartbeat forks task outcome tally → tally.beats ≤ forks
  solo_beats task outcome tally run = comes_within run.instructions _ outcome tally run.comes (omega arith)

  -- which the clause on several workers says of the one
  pub solo_forks : (task : State) (outcome : Outcome) (tally : Tally) (workers : ℕ) → workers ≡ 1 → SoloRun code heartbeat forks task outcome tally → tally.beats ≤ forks * workers
  solo_forks task outcome tally workers one run =
      subst (λ (n : ℕ). tally.beats ≤ forks * n) (sym one) (omega (arith, solo_beats task outcome tally run))
