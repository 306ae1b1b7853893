-- Control enters a promotion-ready block: what a task is bound to there, by what it is bound to where it goes on
-- and where it is diverted.
use Rattle.std.proofs.Common.{◌≡◌, ℕ, ◌+◌, ◌≤◌, Bool, true, false, cond, refl, ap, sym, ◌∙◌}
use Rattle.std.proofs.lemmas.Bool.{true≢false}
use Rattle.std.specs.Prelude.{not, nat_le, ◌&&◌}
use Rattle.beat_count.specs.BeatState.{BeatState}
use Rattle.beat_count.specs.Heartbeat.{is_diverted, entered}
use Rattle.tpal_syntax.specs.declared.instructions.Term.TheVariants as term
use Rattle.tpal_syntax.specs.declared.instructions.Value.{Value}
use Rattle.tpal_syntax.specs.declared.notes.Note.TheVariants as note
use Rattle.tpal_syntax.specs.declared.words.Word.TheVariants as word
use Rattle.tpal_syntax.specs.Listing.{Listing}
use Rattle.tpal_machine.specs.declared.ends.Ending.{Ending}
use Rattle.tpal_machine.specs.Effect.{has_mark}
use Rattle.tpal_machine.specs.Owes.{Bound, points}
use Rattle.tpal_machine.specs.Owes as owes
use Rattle.tpal_machine.specs.Reading.{operand, block_at, note_of, with_register}
use Rattle.tpal_machine.specs.State.{State}
use Rattle.tpal_machine.specs.Step.{Goes, Beats, step, at_block, advanced, jump, entered_by}
use Rattle.tpal_machine.specs.Step.{entered_ready}
use Rattle.tpal_machine.proofs.Kit.{IsAtEnd}
use Rattle.handler_gen.proofs.Marks.{term_step}

-- where no diversion is allowed there is none
never : (heartbeat : ℕ) (marked : Bool) (beat : BeatState) → is_diverted heartbeat marked false beat ≡ false
never heartbeat marked beat = go (not beat.quiet) (nat_le heartbeat beat.count) marked
  where
    go : (a b c : Bool) → (a && (b && (c && false))) ≡ false
    go true true true = refl
    go true true false = refl
    go true false c = refl
    go false b c = refl

-- a beat that isn't diverted goes on as where no diversion is allowed
goes_as : (heartbeat : ℕ) (marked : Bool) (beat : BeatState) → is_diverted heartbeat marked true beat ≡ false → entered heartbeat marked true beat ≡ entered heartbeat marked false beat
goes_as heartbeat marked beat calm = rw calm (rw (never heartbeat marked beat) refl)

-- one that is diverted was not quiet, and a mark stands
not_quiet : (q r : Bool) → (not q && r) ≡ true → q ≡ false
not_quiet true r h = sym h
not_quiet false r h = refl

has_some : (q le marked : Bool) → (not q && (le && (marked && true))) ≡ true → marked ≡ true
has_some true le marked h = absurd (true≢false (sym h))
has_some false false marked h = absurd (true≢false (sym h))
has_some false true true h = refl
has_some false true false h = h

abbrev pub diverted_beat : BeatState
diverted_beat = record { count = 0; quiet = true; granted = true }

pub beat_is : (heartbeat : ℕ) (marked : Bool) (beat : BeatState) → is_diverted heartbeat marked true beat ≡ true → entered heartbeat marked true beat ≡ diverted_beat
beat_is heartbeat marked beat beats =
    ap (λ d. cond beat.quiet (record beat { quiet = false }) (cond d diverted_beat beat)) beats
    ∙ ap (λ q. cond q (record beat { quiet = false }) diverted_beat) (not_quiet beat.quiet (nat_le heartbeat beat.count && (marked && true)) beats)

pub mark_stands : (heartbeat : ℕ) (marked : Bool) (beat : BeatState) → is_diverted heartbeat marked true beat ≡ true → marked ≡ true
mark_stands heartbeat marked beat beats = has_some beat.quiet (nat_le heartbeat beat.count) marked beats

-- a task that entered a promotion-ready block, and the one that a beat diverted to the block's handler
abbrev pub goes_in : ℕ → ℕ → State → State
goes_in heartbeat l state = record (at_block l (advanced state)) { beat = entered heartbeat (has_mark state.stack) false (advanced state).beat }

abbrev pub diverted_to : ℕ → ℕ → ℕ → State → State
diverted_to heartbeat l handler state =
    record (with_register (at_block handler (advanced state)) 30 (word.Label l)) { beat = entered heartbeat (has_mark state.stack) true (advanced state).beat }

module _ (code : Listing) (heartbeat : ℕ) (state : State) (v : Value) (l handler : ℕ) (at : IsAtEnd code state (term.Jump v)) (label : operand state.registers v ≡ word.Label l) (ready : note_of (block_at code l) ≡ note.Ready handler) where
  enters_it : (allowed : Bool) → step code heartbeat allowed state ≡ entered_ready heartbeat allowed l handler (advanced state)
  enters_it allowed =
      term_step code heartbeat state (term.Jump v) at allowed
      ∙ ap (λ w. jump code heartbeat allowed w (advanced state)) label
      ∙ ap (λ n. entered_by n heartbeat allowed l (advanced state)) ready

  -- where no diversion is allowed it goes on
  pub goes_undiverted : step code heartbeat false state ≡ Goes (goes_in heartbeat l state)
  goes_undiverted =
      enters_it false
      ∙ ap (λ b. cond b (Beats (record (with_register (at_block handler (advanced state)) 30 (word.Label l)) { beat = entered heartbeat (has_mark state.stack) false (advanced state).beat })) (Goes (goes_in heartbeat l state)))
      (never heartbeat (has_mark state.stack) (advanced state).beat)

  -- where one is allowed it goes on too, or is diverted
  pub goes_allowed : is_diverted heartbeat (has_mark state.stack) true (advanced state).beat ≡ false → step code heartbeat true state ≡ Goes (goes_in heartbeat l state)
  goes_allowed calm =
      enters_it true
      ∙ ap (λ b. cond b (Beats (diverted_to heartbeat l handler state)) (Goes (record (at_block l (advanced state)) { beat = entered heartbeat (has_mark state.stack) true (advanced state).beat }))) calm
      ∙ ap (λ b. Goes (record (at_block l (advanced state)) { beat = b })) (goes_as heartbeat (has_mark state.stack) (advanced state).beat calm)

  pub is_diverted_there : is_diverted heartbeat (has_mark state.stack) true (advanced state).beat ≡ true → step code heartbeat true state ≡ Beats (diverted_to heartbeat l handler state)
  is_diverted_there beats =
      enters_it true
      ∙ ap (λ b. cond b (Beats (diverted_to heartbeat l handler state)) (Goes (record (at_block l (advanced state)) { beat = entered heartbeat (has_mark state.stack) true (advanced state).beat }))) beats

  -- what is owed at the entry, by what is owed behind it and where it is diverted
  pub on_ready : (n m : ℕ) (e : Ending) → n ≤ points code (goes_in heartbeat l state) + m → Bound code heartbeat false m (goes_in heartbeat l state) e
      → (is_diverted heartbeat (has_mark state.stack) true (advanced state).beat ≡ true → Bound code heartbeat true 0 (diverted_to heartbeat l handler state) e)
      → Bound code heartbeat false n state e
  on_ready n m e few on diverted = by_test (is_diverted heartbeat (has_mark state.stack) true (advanced state).beat) refl
    where
      by_test : (b : Bool) → is_diverted heartbeat (has_mark state.stack) true (advanced state).beat ≡ b → Bound code heartbeat false n state e
      by_test true beats = owes.beats n m state (goes_in heartbeat l state) (diverted_to heartbeat l handler state) e few goes_undiverted (is_diverted_there beats) on (diverted beats)
      by_test false calm = owes.goes false n m state (goes_in heartbeat l state) e few (goes_allowed calm) on
