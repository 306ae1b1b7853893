-- Several steps of a task at once, and the entry of a promotion-ready block.
use Rattle.std.proofs.Common.{◌≡◌, ℕ, zero, suc, Bool, true, false, cond, refl, sym, ap}
use Rattle.std.proofs.Common.{◌∙◌, subst, ⊎_elim, arith}
use Rattle.std.proofs.lemmas.Bool.{cases_Bool, true≢false}
use Rattle.std.specs.Prelude.{nat_le, not, ◌&&◌}
use Rattle.beat_count.specs.BeatState.{BeatState}
use Rattle.beat_count.specs.Heartbeat.{is_diverted, entered}
use Rattle.tpal_syntax.specs.declared.words.Word.TheVariants as word
use Rattle.tpal_syntax.specs.Listing.{Listing}
use Rattle.tpal_machine.specs.declared.ends.Ending.{Ending}
use Rattle.tpal_machine.specs.Effect.{has_mark}
use Rattle.tpal_machine.specs.Owes.{Bound, points}
use Rattle.tpal_machine.specs.Owes as owes
use Rattle.tpal_machine.specs.Reading.{with_register}
use Rattle.tpal_machine.specs.State.{State}
use Rattle.tpal_machine.specs.Step.{Step, Goes, Beats, Ends, Asks, Forks, Stuck, Strays, at_block}
use Rattle.tpal_machine.specs.Step.{entered_ready, step}

-- ---- several steps

-- goes on with the task after a step, where there is one
abbrev pub on_goes : Step → (State → Step) → Step
on_goes (Goes state) more = more state
on_goes (Beats state) more = Strays
on_goes (Ends e) more = Strays
on_goes (Asks state) more = Strays
on_goes (Forks parts) more = Strays
on_goes (Stuck fault) more = Strays
on_goes Strays more = Strays

abbrev pub goes : Step → Bool
goes (Goes state) = true
goes (Beats state) = false
goes (Ends e) = false
goes (Asks state) = false
goes (Forks parts) = false
goes (Stuck fault) = false
goes Strays = false

-- the task that a step goes on to, or another
abbrev pub after_or : State → Step → State
after_or other (Goes state) = state
after_or other (Beats state) = other
after_or other (Ends e) = other
after_or other (Asks state) = other
after_or other (Forks parts) = other
after_or other (Stuck fault) = other
after_or other Strays = other

pub strays_not : {A : Type 0} {state : State} → Strays ≡ Goes state → A
strays_not is = absurd (true≢false (sym (ap goes is)))

-- whether a beat that isn't quiet, where it is late, a mark stands and it is allowed, diverts
abbrev test : (quiet late marked allowed : Bool) → Bool
test quiet late marked allowed = not quiet && (late && (marked && allowed))

-- a beat that was just granted
abbrev pub begun : BeatState
begun = record { count = 0; quiet = true; granted = true }

-- a task with another beat
abbrev pub with_beat : State → BeatState → State
with_beat state beat = record state { beat = beat }

-- what an entry comes to, by whether it is diverted and by the beat after it
abbrev pub picked : State → ℕ → ℕ → Bool → BeatState → Step
picked state l handler is_beat beat =
    cond is_beat (Beats (with_beat (with_register (at_block handler state) 30 (word.Label l))
    beat))
    (Goes (with_beat (at_block l state) beat))

module _ (code : Listing) (heartbeat : ℕ) where
  -- so many steps, each of which goes on
  unfoldable pub steps : ℕ → State → Step
  steps zero state = Goes state
  steps (suc n) state = on_goes (step code heartbeat true state) (λ after. steps n after)

  -- what the task after several steps owes was owed before
  pub owes_before : {least : ℕ} (n : ℕ) (due : Bool) (state last : State) (e : Ending)
      → steps n state ≡ Goes last
      → Bound code heartbeat due least last e
      → Bound code heartbeat due least state e
  unfolding steps
  owes_before {least} zero due state last e is bound =
      subst (λ s. Bound code heartbeat due least s e) (sym (ap (after_or last) is)) bound
  owes_before {least} (suc n) due state last e is bound =
      first (step code heartbeat true state) refl is
      (λ after more. owes_before n due after last e more bound)
    where
      first : (one : Step) → step code heartbeat true state ≡ one
          → on_goes one (λ after. steps n after) ≡ Goes last
          → ((after : State) → steps n after ≡ Goes last → Bound code heartbeat due least after e)
          → Bound code heartbeat due least state e
      first (Goes after) one is more =
          owes.goes due least least state after e (omega arith) one (more after is)
      first (Beats after) one is more = strays_not is
      first (Ends other) one is more = strays_not is
      first (Asks waits) one is more = strays_not is
      first (Forks parts) one is more = strays_not is
      first (Stuck fault) one is more = strays_not is
      first Strays one is more = strays_not is

  -- ---- entering a promotion-ready block

  -- A task that enters a promotion-ready block while a mark stands owes an ending, with a promotion
  -- point more, where the task at the block owes it with any beat, and the one that was diverted to
  -- the handler does.
  pub ready_owes : {least : ℕ} (before state : State) (l handler : ℕ) (e : Ending)
      → has_mark state.stack ≡ true
      → ((allowed : Bool) →
      step code heartbeat allowed before ≡ entered_ready heartbeat allowed l handler state)
      → ((beat : BeatState) → points code (with_beat (at_block l state) beat) ≡ 1)
      → ((beat : BeatState) →
      Bound code heartbeat false least (with_beat (at_block l state) beat) e)
      → Bound code heartbeat true 0
      (with_beat (with_register (at_block handler state) 30 (word.Label l)) begun) e
      → Bound code heartbeat false (suc least) before e
  ready_owes {least} before state l handler e marked enters point on diverted =
      ⊎_elim passes loud (cases_Bool state.beat.quiet)
    where
      goes_by : is_diverted heartbeat (has_mark state.stack) true state.beat ≡ false →
          Bound code heartbeat false (suc least) before e
      goes_by no_beat =
          owes.goes false (suc least) least before _ e
          (omega (arith, point (entered heartbeat (has_mark state.stack) true state.beat)))
          (enters true
          ∙ ap
          (λ d.
          picked state l handler d (entered heartbeat (has_mark state.stack) true
          state.beat))
          no_beat)
          (on _)

      passes : state.beat.quiet ≡ true → Bound code heartbeat false (suc least) before e
      passes quiet =
          goes_by (ap (λ q. test q (nat_le heartbeat state.beat.count) (has_mark state.stack) true)
          quiet)

      beats_by : state.beat.quiet ≡ false → (nat_le heartbeat state.beat.count) ≡ true →
          Bound code heartbeat false (suc least) before e
      beats_by speaks is_late =
          let tested : (allowed : Bool) →
          is_diverted heartbeat (has_mark state.stack) allowed state.beat
          ≡ test false true true allowed =
          λ allowed.
          ap (λ q. test q (nat_le heartbeat state.beat.count) (has_mark state.stack) allowed)
          speaks
          ∙ ap (λ t. test false t (has_mark state.stack) allowed) is_late
          ∙ ap (λ k. test false true k allowed) marked in
          let after : entered heartbeat (has_mark state.stack) true state.beat ≡ begun =
          ap
          (λ q.
          cond q (record state.beat { quiet = false })
          (cond (is_diverted heartbeat (has_mark state.stack) true state.beat) begun
          state.beat))
          speaks
          ∙ ap (λ d. cond d begun state.beat) (tested true) in
          owes.beats (suc least) least before _ _ e
          (omega (arith, point (entered heartbeat (has_mark state.stack) false state.beat)))
          (enters false
          ∙ ap
          (λ d.
          picked state l handler d (entered heartbeat (has_mark state.stack) false
          state.beat))
          (tested false))
          (enters true
          ∙ ap
          (λ d.
          picked state l handler d (entered heartbeat (has_mark state.stack) true
          state.beat))
          (tested true)
          ∙ ap (picked state l handler true) after)
          (on _) diverted

      loud : state.beat.quiet ≡ false → Bound code heartbeat false (suc least) before e
      loud speaks =
          ⊎_elim (beats_by speaks)
          (λ early.
          goes_by (ap
          (λ q. test q (nat_le heartbeat state.beat.count) (has_mark state.stack) true)
          speaks
          ∙ ap (λ t. test false t (has_mark state.stack) true) early))
          (cases_Bool (nat_le heartbeat state.beat.count))
