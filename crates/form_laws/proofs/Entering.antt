-- A jump into a promotion-ready block, on a test or without one, and a task that goes back to one.
use Rattle.std.proofs.Common.{◌≡◌, ◌⊎◌, inl, inr, ℕ, Bool, true, false, cond, List, refl, ap, ◌∙◌}
use Rattle.std.specs.Prelude.{ℤ, not, nat_le, pos, ◌&&◌}
use Rattle.std.specs.Ordering.{int_eq}
use Rattle.beat_count.specs.BeatState.{BeatState}
use Rattle.beat_count.specs.Heartbeat.{is_diverted, entered}
use Rattle.tpal_syntax.specs.declared.instructions.Instr.TheVariants as instr
use Rattle.tpal_syntax.specs.declared.instructions.Term.TheVariants as term
use Rattle.tpal_syntax.specs.declared.instructions.Value.TheVariants as value
use Rattle.tpal_syntax.specs.declared.notes.Note.{Note}
use Rattle.tpal_syntax.specs.declared.notes.Note.TheVariants as note
use Rattle.tpal_syntax.specs.declared.words.Word.{Word}
use Rattle.tpal_syntax.specs.declared.words.Word.TheVariants as word
use Rattle.tpal_syntax.specs.Listing.{Listing}
use Rattle.tpal_machine.specs.Effect.{has_mark}
use Rattle.tpal_machine.specs.Owes.{is_at_point}
use Rattle.tpal_machine.specs.Reading.{block_at, note_of, register}
use Rattle.tpal_machine.specs.State.{State}
use Rattle.tpal_machine.specs.Step.{Beats, Goes, Step, advanced, at_block, entered_by}
use Rattle.tpal_machine.specs.Step.{entered_ready, enters, if_jump, step}
use Rattle.tpal_machine.proofs.Kit.{Back, IsAtEnd, IsNext}
use Rattle.tpal_machine.proofs.Steps.{step_of_instr}
use Rattle.handler_gen.proofs.Marks.{term_step}
use Rattle.handler_gen.proofs.Ready.{diverted_to, goes_allowed, goes_in, goes_undiverted}
use Rattle.loop_meaning.specs.State as meaning
use Rattle.scene_laws.proofs.Scenes.Promises.{Promise}
use Rattle.scene_laws.proofs.Scenes.Regions.{AtMostAChance}
use Rattle.scene_laws.proofs.Scenes.Results.{Result, noting}

-- where no diversion is allowed there is none
undiverted : (heartbeat : ℕ) (marked : Bool) (beat : BeatState)
    → is_diverted heartbeat marked false beat ≡ false
undiverted heartbeat marked beat = go (not beat.quiet) (nat_le heartbeat beat.count) marked
  where
    go : (a b c : Bool) → (a && (b && (c && false))) ≡ false
    go true true true = refl
    go true true false = refl
    go true false c = refl
    go false b c = refl

-- where no mark stands there is none either
unmarked_undiverted : (heartbeat : ℕ) (marked : Bool) (beat : BeatState) → marked ≡ false
    → is_diverted heartbeat marked true beat ≡ false
unmarked_undiverted heartbeat marked beat none =
    ap (λ (b : Bool). is_diverted heartbeat b true beat) none
    ∙ go (not beat.quiet) (nat_le heartbeat beat.count)
  where
    go : (a b : Bool) → (a && (b && (false && true))) ≡ false
    go true true = refl
    go true false = refl
    go false b = refl

module _ (code : Listing) (heartbeat : ℕ) (state : State) (l handler : ℕ)
    (enters_it : (allowed : Bool)
    → step code heartbeat allowed state ≡ entered_ready heartbeat allowed l handler
    (advanced state))
  where
    abbrev diverts : Bool → Bool
    diverts allowed = is_diverted heartbeat (has_mark state.stack) allowed (advanced state).beat

    -- the step, by whether it is diverted
    abbrev step_by : Bool → Bool → Step
    step_by allowed b =
        cond b (Beats (record (diverted_to heartbeat l handler state)
        { beat = entered heartbeat (has_mark state.stack) allowed (advanced state).beat }))
        (Goes (record (at_block l (advanced state))
        { beat = entered heartbeat (has_mark state.stack) allowed (advanced state).beat }))

    calmly : step code heartbeat false state ≡ Goes (goes_in heartbeat l state)
    calmly = enters_it false
        ∙ ap (step_by false) (undiverted heartbeat (has_mark state.stack) (advanced state).beat)

    goes_as_calmly : diverts true ≡ false
        → step code heartbeat true state ≡ Goes (goes_in heartbeat l state)
    goes_as_calmly calm =
        enters_it true ∙ ap (step_by true) calm
        ∙ ap (λ (b : BeatState). Goes (record (at_block l (advanced state)) { beat = b })) same
      where
        same : entered heartbeat (has_mark state.stack) true (advanced state).beat
            ≡ entered heartbeat (has_mark state.stack) false (advanced state).beat
        same =
            rw calm
            (rw (undiverted heartbeat (has_mark state.stack) (advanced state).beat) refl)

    -- where no mark stands it goes on in the block
    pub on_unmarked : (K : Back code heartbeat) → has_mark state.stack ≡ false
        → K.Holds (goes_in heartbeat l state) → K.Holds state
    on_unmarked K none holds = K.back state (goes_in heartbeat l state) steps holds
      where
        steps : (allowed : Bool)
            → step code heartbeat allowed state ≡ Goes (goes_in heartbeat l state)
        steps true =
            goes_as_calmly
            (unmarked_undiverted heartbeat (has_mark state.stack) (advanced state).beat none)
        steps false = calmly

    -- what is promised at the entry, by what is behind it and where it is diverted
    pub on_entry : {World : Type 0} (P : Promise code heartbeat World) (i : World)
        (ns : List meaning.Note) (r : Result) → AtMostAChance ns
        → is_at_point code (goes_in heartbeat l state) ≡ true
        → (P.owing i r).Holds (goes_in heartbeat l state)
        → (diverts true ≡ true → (P.diverted i r).Holds (diverted_to heartbeat l handler state))
        → (P.owing i (noting ns r)).Holds state
    on_entry P i ns r one at holds turned =
        P.points i ns r state (goes_in heartbeat l state) one at calmly (by_beat
        (diverts true) refl)
        holds
      where
        by_beat : (b : Bool) → diverts true ≡ b
            → (step code heartbeat true state ≡ Goes (goes_in heartbeat l state)) ⊎
            ((after : State) × (step code heartbeat true state ≡ Beats after)
            × (P.diverted i r).Holds after)
        by_beat true beats =
            inr (
              diverted_to heartbeat l handler state,
              enters_it true ∙ ap (step_by true) beats,
              turned beats,
            )
        by_beat false calm = inl (goes_as_calmly calm)

-- a jump
pub jumps_in : (code : Listing) (heartbeat : ℕ) (state : State) (l handler : ℕ)
    → IsAtEnd code state (term.Jump (value.Label l)) →
    note_of (block_at code l) ≡ note.Ready handler
    → (allowed : Bool)
    → step code heartbeat allowed state ≡ entered_ready heartbeat allowed l handler (advanced state)
jumps_in code heartbeat state l handler at ready allowed =
    term_step code heartbeat state (term.Jump (value.Label l)) at allowed
    ∙ ap (λ (m : Note). entered_by m heartbeat allowed l (advanced state)) ready

-- a jump where the number in a register isn't 0
pub branches_in : (code : Listing) (heartbeat : ℕ) (state : State) (test l handler : ℕ) (n : ℤ)
    → IsNext code state (instr.IfJump test l) → register state.registers test ≡ word.Int n
    → int_eq n (pos 0) ≡ false → note_of (block_at code l) ≡ note.Ready handler → (allowed : Bool)
    → step code heartbeat allowed state ≡ entered_ready heartbeat allowed l handler (advanced state)
branches_in code heartbeat state test l handler n at number other ready allowed =
    step_of_instr code heartbeat allowed state at.block (instr.IfJump test l) at.found at.is
    ∙ (ap (λ (w : Word). if_jump code heartbeat allowed w l (advanced state)) number
    ∙ (ap (λ b. cond b (Goes (advanced state)) (enters code heartbeat allowed l (advanced state)))
    other
    ∙ ap (λ (m : Note). entered_by m heartbeat allowed l (advanced state)) ready))

-- a task that goes back, and isn't diverted again, goes on in the block
pub goes_back_in : (code : Listing) (heartbeat : ℕ) (K : Back code heartbeat) (state : State)
    (l handler : ℕ) → IsAtEnd code state (term.Jump (value.Reg 30))
    → register state.registers 30 ≡ word.Label l → note_of (block_at code l) ≡ note.Ready handler
    → state.beat.quiet ≡ true → K.Holds (goes_in heartbeat l state) → K.Holds state
goes_back_in code heartbeat K state l handler at label ready quiet holds =
    K.back state (goes_in heartbeat l state) steps holds
  where
    steps : (allowed : Bool) → step code heartbeat allowed state ≡ Goes (goes_in heartbeat l state)
    steps true =
        goes_allowed code heartbeat state (value.Reg 30) l handler at label ready (rw quiet refl)
    steps false =
        goes_undiverted code heartbeat state (value.Reg 30) l handler at label ready
