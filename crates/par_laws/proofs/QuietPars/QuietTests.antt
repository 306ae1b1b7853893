-- The test between two iterations of a `par`: another one begins at its promotion point.
use Rattle.std.proofs.Common.{◌≡◌, ℕ, zero, suc, ◌+◌, ◌≤◌, Bool, true, false, cond, List, [], ◌∷◌}
use Rattle.std.proofs.Common.{◌++◌, length, take, Ok, refl, sym, ap, append_assoc, subst, ◌∙◌}
use Rattle.std.proofs.Common.{arith}
use Rattle.std.specs.Prelude.{ℤ, pos, ◌+ℤ◌, int_lt, is_some, slice_get, slice_set}
use Rattle.std.proofs.lemmas.List.{length-set}
use Rattle.beat_count.specs.Heartbeat.{counted, is_diverted}
use Rattle.beat_count.specs.Ticks.{is_tick_allowed, ticked}
use Rattle.stack_marks.specs.declared.mark.Mark.{Mark}
use Rattle.tp_value.specs.declared.Stop.{Stop}
use Rattle.tp_value.specs.declared.Stop.TheVariants.{Done, Left, Trap, NoFuel}
use Rattle.tp_value.specs.Number.{truth}
use Rattle.loop_meaning.specs.declared.value.Variable.{Variable}
use Rattle.loop_meaning.specs.State as meaning
use Rattle.loop_meaning.specs.State.{Chance, Note, Ran, after, declare, done, go_on, leave_block}
use Rattle.loop_meaning.specs.State.{noted, out_of_fuel}
use Rattle.loop_meaning.specs.Statements.{iterate, iteration}
use Rattle.tpal_syntax.specs.declared.instructions.Alu.TheVariants as alu
use Rattle.tpal_syntax.specs.declared.instructions.Instr.{Instr}
use Rattle.tpal_syntax.specs.declared.instructions.Instr.TheVariants as instr
use Rattle.tpal_syntax.specs.declared.instructions.Term.{Term}
use Rattle.tpal_syntax.specs.declared.instructions.Value.TheVariants as value
use Rattle.tpal_syntax.specs.declared.notes.Note.TheVariants as note
use Rattle.tpal_syntax.specs.declared.words.Word.{Word}
use Rattle.tpal_syntax.specs.declared.words.Word.TheVariants as word
use Rattle.tpal_syntax.specs.Listing.{Listing}
use Rattle.tpal_machine.specs.Calculation.{calculated}
use Rattle.tpal_machine.specs.Effect.{has_mark, oldest}
use Rattle.tpal_machine.specs.Owes.{is_at_point}
use Rattle.tpal_machine.specs.Reading.{block_at, note_of, register, with_register}
use Rattle.tpal_machine.specs.State as machine
use Rattle.tpal_machine.specs.Step.{advanced}
use Rattle.tpal_machine.proofs.Kit.{Back, on_calc, on_if_not, on_load}
use Rattle.expr_lower.specs.Leaving.{moved, moved_to}
use Rattle.expr_lower.specs.Standing.{Remains}
use Rattle.expr_lower.proofs.Keeping.{register_other, register_set}
use Rattle.expr_lower.proofs.Standing.{behind, next}
use Rattle.handler_gen.proofs.Ready.{diverted_to, goes_in}
use Rattle.scene_laws.specs.Code.{Opens, OpensAs, below_test, load, to}
use Rattle.scene_laws.specs.Layout.{Activation, bound_cell}
use Rattle.form_laws.proofs.Entering.{branches_in, on_entry}
use Rattle.scene_laws.proofs.Cuts.Gaps.{IsGap, gap_more, gap_none}
use Rattle.scene_laws.proofs.Scenes.Moves.{jumps}
use Rattle.scene_laws.proofs.Scenes.Pieces.{Apart, Host, Piece}
use Rattle.scene_laws.proofs.Scenes.Promises.{Promise}
use Rattle.scene_laws.proofs.Scenes.Regions.{AtMostAChance}
use Rattle.scene_laws.proofs.Scenes.Results.{Result, fin, noting, result}
use Rattle.scene_laws.proofs.Scenes.Scene.{Scene, ShowsIn}
use Rattle.scene_laws.proofs.Scenes.Showing.{shows_words}
use Rattle.par_laws.proofs.QuietPars.Turned.{T}
use Rattle.par_laws.proofs.QuietPars.Turning.{ParAt, marks_of, pieces}
use Rattle.scene_laws.proofs.Scenes.Variables.{var_names}

-- ---- the chance of an iteration

noted_by : (ns : List Note) (x : Stop) (r : Ran) (g : meaning.State → Ran)
    → go_on x (noted ns r) g ≡ noted ns (go_on x r g)
noted_by ns Done r g =
    let last : Ran = g r.state in
    ap (λ (ks : List Note). record { stop = last.stop; state = last.state; notes = ks })
    (append_assoc ns r.notes last.notes)
noted_by ns (Left number) r g = refl
noted_by ns (Trap kind place) r g = refl
noted_by ns NoFuel r g = refl

noted_after : (ns : List Note) (r : Ran) (g : meaning.State → Ran)
    → after (noted ns r) g ≡ noted ns (after r g)
noted_after ns r g = noted_by ns r.stop r g

module _ (fuel : ℕ) (x : List ℕ) (body : meaning.State → Ran) where
  -- it is noted where the iteration has its tick
  abbrev pub chance_by : Bool → List Note
  chance_by true = Chance ∷ []
  chance_by false = []

  pub one_chance : (b : Bool) → AtMostAChance (chance_by b)
  one_chance true = tt
  one_chance false = tt

  one_by : (b : Bool) (n : ℕ) (later : meaning.State) (f : meaning.State → Ran)
      → leave_block n (after (cond b (done later) (out_of_fuel later))
      (λ t. noted (Chance ∷ []) (f t)))
      ≡ noted (chance_by b) (leave_block n (after (cond b (done later) (out_of_fuel later))
      (λ t. noted [] (f t))))
  one_by true n later f = refl
  one_by false n later f = refl

  -- iterations whose first one notes its chance, by those whose first one doesn't
  pub chance_first : (n : ℕ) (m : ℤ) (st : meaning.State)
      → result (iterate fuel x body (Chance ∷ []) (Chance ∷ []) (suc n) m st)
      ≡ noting (chance_by (is_tick_allowed fuel st.ticks))
      (result (iterate fuel x body (Chance ∷ []) [] (suc n) m st))
  unfolding iterate
  chance_first n m st =
      ap (λ (r : Ran). result (after r (iterate fuel x body (Chance ∷ []) (Chance ∷ []) n
      (m +ℤ pos 1))))
      (one_by (is_tick_allowed fuel st.ticks) (length st.vars)
      (record st { ticks = ticked fuel st.ticks }) (λ t. body
      (record t { vars = declare t.vars x m })))
      ∙ ap result (noted_after (chance_by (is_tick_allowed fuel st.ticks))
      (iteration fuel x body [] m st)
      (iterate fuel x body (Chance ∷ []) (Chance ∷ []) n (m +ℤ pos 1)))

-- ---- a mark stands

pub some_mark : (marks : List Mark) (m : Mark) → is_some (slice_get (marks ++ m ∷ []) 0) ≡ true
some_mark [] m = refl
some_mark (o ∷ os) m = refl

module _ (code : Listing) (heartbeat z : ℕ) (act : Activation) (q : ParAt code act)
    (S : Scene code heartbeat z) (lowest : S.lowest ≤ length q.names) (k : meaning.State → Result)
    (vs : List Variable) (named : var_names vs ≡ q.names) (fuel : ℕ) (x : List ℕ)
    (body : meaning.State → Ran) (inner : List (List ℕ))
    (first : take (length q.names) inner ≡ q.names) (head over : ℕ) where
  abbrev level : ℕ
  level = length q.names

  abbrev P : Promise code heartbeat (Piece S.World)
  P = pieces code heartbeat z act q S lowest k

  abbrev Turning : ℤ → ℤ → Scene code heartbeat z
  Turning m j = T code heartbeat z act q S lowest k vs named true m j

  abbrev all_turns : ℕ → ℤ → meaning.State → Ran
  all_turns n m = iterate fuel x body (Chance ∷ []) (Chance ∷ []) n m

  abbrev first_turns : ℕ → ℤ → meaning.State → Ran
  first_turns n m = iterate fuel x body (Chance ∷ []) [] (suc n) m

  pub has_own : (i : Piece S.World)
      → is_some (slice_get (marks_of code heartbeat z act q S lowest true i) 0) ≡ true
  has_own (Host w) = some_mark (S.marks w) _
  has_own (Apart p) = refl

  module _ (m j : ℤ) (i : Piece S.World) (st : meaning.State) (state : machine.State)
      (shows : ShowsIn code heartbeat z act fuel (Turning m j) i q.names st state)
      (is_m : register state.registers 1 ≡ word.Int m)
      (stands : Remains code state.block state.at
      (load 0 (bound_cell level) ∷ below_test 1 (value.Reg 0) head) (to over)) where
    abbrev bound_in : List Word
    bound_in = slice_set state.registers 0 (word.Int j)

    abbrev words_by : Bool → List Word
    words_by b = slice_set bound_in 0 (word.Int (truth b))

    -- the task behind the comparison
    abbrev pub compared : Bool → machine.State
    compared b = moved state (words_by b) (counted (counted state.beat)) (state.at + 1 + 1)

    shows_by : (b : Bool)
        → ShowsIn code heartbeat z act fuel (Turning m j) i q.names st (compared b)
    shows_by b =
        shows_words code heartbeat z act fuel (Turning m j) i shows (words_by b)
        (length-set bound_in 0 (word.Int (truth b)) ∙ length-set state.registers 0 (word.Int j))
        (register_other bound_in 0 31 (word.Int (truth b)) (λ (e : 31 ≡ 0). absurd (omega
        (arith, e)))
        ∙ register_other state.registers 0 31 (word.Int j)
        (λ (e : 31 ≡ 0). absurd (omega (arith, e))))

    compares : (K : Back code heartbeat) (b : Bool) → int_lt m j ≡ b
        → (register (words_by b) 0 ≡ word.Int (truth b)
        → Remains code state.block (state.at + 1 + 1) (instr.IfJump 0 head ∷ []) (to over)
        → K.Holds (compared b))
        → K.Holds state
    compares K b is go =
        on_load code heartbeat K state 0 31 (bound_cell level) (pos z) (word.Int j)
        (next code state _ _ (to over) stands) shows.base shows.keeps.bound
        (on_calc code heartbeat K one 0 1 alu.Lt (value.Reg 0) (word.Int (truth b))
        (next code one _ _ (to over) second) gives
        (go (register_set bound_in 0 (word.Int (truth b))
        (omega (arith, length-set state.registers 0 (word.Int j), shows.size)))
        (behind code state.block (state.at + 1) _ _ (to over) second)))
      where
        one : machine.State
        one = with_register (advanced state) 0 (word.Int j)

        second : Remains code state.block (state.at + 1) (below_test 1 (value.Reg 0) head) (to over)
        second = behind code state.block state.at _ _ (to over) stands

        first_is : register bound_in 1 ≡ word.Int m
        first_is =
            register_other state.registers 0 1 (word.Int j) (λ (e : 1 ≡ 0). absurd (omega
            (arith, e)))
            ∙ is_m

        second_is : register bound_in 0 ≡ word.Int j
        second_is = register_set state.registers 0 (word.Int j) (omega (arith, shows.size))

        gives : calculated alu.Lt (register bound_in 1) (register bound_in 0)
            ≡ Ok (word.Int (truth b))
        gives = rw (first_is, second_is) (ap (λ c. Ok (word.Int (truth c))) is)

    -- where no iteration is left the piece ends
    pub test_over : (instrs : List Instr) (end : Term) → Opens code over instrs end → IsGap zero m j
        → ((task : machine.State)
        → ShowsIn code heartbeat z act fuel (Turning m j) i q.names st task
        → task.block ≡ over → task.at ≡ 0 → (P.owing i (fin st)).Holds task)
        → (P.owing i (result (all_turns zero m st))).Holds state
    unfolding iterate
    test_over instrs end opens gap ends =
        compares (P.owing i (fin st)) false (gap_none m j gap)
        (λ is left.
        on_if_not code heartbeat (P.owing i (fin st)) (compared false) 0 head
        (next code (compared false) _ [] (to over) left) is
        (jumps code heartbeat (P.owing i (fin st)) (advanced (compared false)) over instrs end
        (behind code state.block (state.at + 1 + 1) _ [] (to over) left) opens
        (ends (moved_to state (words_by false) (counted (counted (counted (counted state.beat))))
        over 0) (shows_by false) refl refl)))

    -- else another one begins at the promotion point, which a beat may divert
    pub test_more : (instrs : List Instr) (end : Term)
        → OpensAs code (note.Ready S.dispatch) head instrs end → (n : ℕ) → IsGap (suc n) m j
        → (ShowsIn code heartbeat z act fuel (Turning m j) i q.names st
        (goes_in heartbeat head (compared true))
        → (P.owing i (result (first_turns n m st))).Holds (goes_in heartbeat head (compared true)))
        → (ShowsIn code heartbeat z act fuel (Turning m j) i q.names st (compared true)
        → is_diverted heartbeat (has_mark state.stack) true (advanced (compared true)).beat ≡ true
        → (P.diverted i (result (first_turns n m st))).Holds
        (diverted_to heartbeat head S.dispatch (compared true)))
        → (P.owing i (result (all_turns (suc n) m st))).Holds state
    test_more instrs end opens n gap goes_on diverts =
        subst (λ (r : Result). (P.owing i r).Holds state) (sym (chance_first fuel x body n m st))
        (compares (P.owing i (noting ns r)) true (gap_more n m j gap)
        (λ is left.
        on_entry code heartbeat (compared true) head S.dispatch
        (branches_in code heartbeat (compared true) 0 head S.dispatch (pos 1)
        (next code (compared true) _ [] (to over) left) is refl ready)
        P i ns r (one_chance fuel x body (is_tick_allowed fuel st.ticks)) at_point
        (goes_on (shows_by true)) (diverts (shows_by true))))
      where
        r : Result
        r = result (first_turns n m st)

        ns : List Note
        ns = chance_by fuel x body (is_tick_allowed fuel st.ticks)

        ready : note_of (block_at code head) ≡ note.Ready S.dispatch
        ready = ap note_of opens.found ∙ opens.noted

        at_point : is_at_point code (goes_in heartbeat head (compared true)) ≡ true
        at_point =
            let marked : is_some (oldest state.stack) ≡ true =
            ap (λ (ms : List Mark). is_some (slice_get ms 0)) shows.marked ∙ has_own i in
            rw (ready, marked) refl
