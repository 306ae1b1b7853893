-- An iteration of a leaf loop, what stands behind it, and the test of whether another one begins.
use Rattle.std.proofs.Common.{◌≡◌, ◌≢◌, ℕ, zero, suc, ◌+◌, ◌<◌, ◌≤◌, Bool, true, false, All, List}
use Rattle.std.proofs.Common.{[]}
use Rattle.std.proofs.Common.{◌∷◌, ◌++◌, length, take, Some, Ok, refl, ap, sym, subst, ◌∙◌, arith}
use Rattle.std.proofs.lemmas.Bool.Decides.{nat_tests}
use Rattle.std.proofs.lemmas.Int.{int_wrap_fits}
use Rattle.std.proofs.lemmas.List.{append-nil, length-set}
use Rattle.std.specs.Int.{w64}
use Rattle.std.specs.Prelude.{ℤ, pos, ◌+ℤ◌, int_lt, is_some, slice_get, slice_set}
use Rattle.beat_count.specs.Heartbeat.{counted, is_diverted}
use Rattle.beat_count.specs.Ticks.{is_tick_allowed, ticked}
use Rattle.loop_meaning.specs.declared.value.Variable.{Variable}
use Rattle.loop_meaning.specs.InRange.{InRange}
use Rattle.loop_meaning.specs.State as meaning
use Rattle.loop_meaning.specs.State.{Chance, Note, Ran, after, declare, tick}
use Rattle.loop_meaning.specs.Statements.{iterate, iteration}
use Rattle.stack_marks.specs.declared.mark.Mark.{Mark}
use Rattle.stack_marks.specs.Stacks.{StackValue}
use Rattle.tp_value.specs.Number.{truth}
use Rattle.tpal_syntax.specs.declared.instructions.Alu.TheVariants as alu
use Rattle.tpal_syntax.specs.declared.instructions.Instr.{Instr}
use Rattle.tpal_syntax.specs.declared.instructions.Instr.TheVariants as instr
use Rattle.tpal_syntax.specs.declared.instructions.Term.{Term}
use Rattle.tpal_syntax.specs.declared.instructions.Value.TheVariants as value
use Rattle.tpal_syntax.specs.declared.notes.Note.TheVariants as note
use Rattle.tpal_syntax.specs.declared.words.Word.{Word}
use Rattle.tpal_syntax.specs.declared.words.Word.TheVariants as word
use Rattle.tpal_syntax.specs.Listing.{Listing}
use Rattle.tpal_machine.specs.Calculation.{calculated}
use Rattle.tpal_machine.specs.Effect as effect
use Rattle.tpal_machine.specs.Effect.{has_mark, oldest}
use Rattle.tpal_machine.specs.Owes.{is_at_point}
use Rattle.tpal_machine.specs.Reading.{block_at, note_of, register, with_register}
use Rattle.tpal_machine.specs.State as machine
use Rattle.tpal_machine.specs.Step.{advanced}
use Rattle.tpal_machine.proofs.Kit.{Back, on_calc, on_if_not}
use Rattle.expr_lower.specs.Leaving.{moved}
use Rattle.expr_lower.specs.Standing.{Remains}
use Rattle.expr_lower.proofs.Keeping.{register_other, register_set}
use Rattle.expr_lower.proofs.Standing.{behind, next}
use Rattle.handler_gen.specs.LeafBlocks.{stores_of}
use Rattle.handler_gen.proofs.Cells.{Has}
use Rattle.handler_gen.proofs.LeafStores.{cells_with, marks_registers, registers_in, stores_all}
use Rattle.handler_gen.proofs.Ready.{diverted_to, goes_in}
use Rattle.scene_laws.specs.Code.{Opens, OpensAs, to}
use Rattle.scene_laws.specs.Layout.{Activation, bound_cell, value_cell}
use Rattle.scene_laws.specs.Round.{register_for}
use Rattle.form_laws.proofs.Forms.Choices.{leaving}
use Rattle.scene_laws.proofs.Cuts.Gaps.{IsGap, gap_more, gap_next, gap_none, next_in}
use Rattle.form_laws.proofs.Forms.Simple.{low_there, top_there}
use Rattle.form_laws.proofs.Forms.Ticks.{ticks}
use Rattle.par_laws.proofs.LeafPars.LeafTurning.{LeafAt, bound_are, cursor_are, kept}
use Rattle.par_laws.proofs.LeafPars.LeafTurning.{leaf_turning, seen_of, stored, stored_of}
use Rattle.par_laws.proofs.LeafPars.LeafTurning.{unlike}
use Rattle.form_laws.proofs.Entering.{branches_in, on_entry}
use Rattle.par_laws.proofs.QuietPars.QuietTests.{chance_by, chance_first, has_own, one_chance}
use Rattle.par_laws.proofs.QuietPars.Turned.{T, after_result, enough_later, shows_next}
use Rattle.par_laws.proofs.QuietPars.Turning.{marks_of, pieces}
use Rattle.scene_laws.proofs.Scenes.Moves.{jumps}
use Rattle.scene_laws.proofs.Scenes.Pieces.{Piece}
use Rattle.scene_laws.proofs.Scenes.Promises.{Promise}
use Rattle.scene_laws.proofs.Scenes.Registered.{register_store}
use Rattle.scene_laws.proofs.Scenes.Results.{Result, fin, left, noting, result, then}
use Rattle.scene_laws.proofs.Scenes.Scene.{OwedSeen, Scene, SeenIn, ShowsIn}
use Rattle.scene_laws.proofs.Scenes.Showing.{as_many, shows_declared, shows_left, shows_low}
use Rattle.scene_laws.proofs.Scenes.Showing.{shows_ticked}
use Rattle.scene_laws.proofs.Scenes.Values.{number_in}
use Rattle.scene_laws.proofs.Scenes.Variables.{var_names}

module _ {code : Listing} (heartbeat z : ℕ) {act : Activation} (l : LeafAt code act)
    (S : Scene code heartbeat z) (lowest : S.lowest ≤ length l.q.names)
    (k : meaning.State → Result) (vs : List Variable) (named : var_names vs ≡ l.q.names)
    (accs_below : All (λ c. c < value_cell (suc (length l.q.names))) (cells_with (kept l)))
    (tall : S.size ≤ act.size) (fuel : ℕ) (x : List ℕ) (body : meaning.State → Ran)
    (inner : List (List ℕ)) (first : take (length l.q.names) inner ≡ l.q.names)
    (head over : ℕ) where
  abbrev level : ℕ
  level = length l.q.names

  abbrev P : Promise code heartbeat (Piece S.World)
  P = pieces code heartbeat z act l.q S lowest k

  abbrev pub L : ℤ → ℤ → Scene code heartbeat z
  L m j = leaf_turning heartbeat z l S lowest k vs named accs_below m j

  abbrev Stored : ℤ → ℤ → Scene code heartbeat z
  Stored m j = T code heartbeat z act l.q S lowest k vs named true m j

  abbrev pub all_turns : ℕ → ℤ → meaning.State → Ran
  all_turns n m = iterate fuel x body (Chance ∷ []) (Chance ∷ []) n m

  abbrev pub first_turns : ℕ → ℤ → meaning.State → Ran
  first_turns n m = iterate fuel x body (Chance ∷ []) [] (suc n) m

  -- what stands behind the next number: the test, and the stores where no iteration is left
  abbrev tested : List Instr
  tested =
      instr.Calc 0 24 alu.Lt (value.Reg 25) ∷ instr.IfJump 0 head ∷ stores_of (kept l)

  abbrev turn : List Instr
  turn = instr.Calc 24 24 alu.Add (value.Int (pos 1)) ∷ tested

  abbrev pub LeafTest : ℕ → Type 0
  LeafTest n =
      (m j : ℤ) (i : Piece S.World) (st : meaning.State) (state : machine.State)
      → SeenIn code heartbeat z act fuel (L m j) i l.q.names st state → IsGap n m j → InRange m
      → InRange j → Remains code state.block state.at tested (to over)
      → (P.owing i (result (all_turns n m st))).Holds state

  abbrev pub RunsLeaf : List Instr → Term → Type 0
  RunsLeaf instrs end =
      (m j : ℤ) (f : meaning.State → Result)
      → OwedSeen code heartbeat z act fuel (L m j) inner turn (to over) f
      → OwedSeen code heartbeat z act fuel (L m j) (l.q.names ++ x ∷ []) instrs end
      (λ st. then (result (body st)) f)

  abbrev pub LeafTurn : ℕ → Type 0
  LeafTurn n =
      (m j : ℤ) (i : Piece S.World) (st : meaning.State) (task : machine.State)
      → SeenIn code heartbeat z act fuel (L m j) i l.q.names st task → IsGap (suc n) m j
      → InRange m → InRange j → (instrs : List Instr) (end : Term) → RunsLeaf instrs end
      → Remains code task.block task.at (instr.Tick ∷ instrs) end
      → (P.owing i (result (first_turns n m st))).Holds task

  -- ---- the registers of the next number and of the end

  cursor_held : register_for (kept l) (value_cell level) ≡ Some 24
  cursor_held =
      rw (sym (cursor_are l)) (grind (arith, nat_tests))

  bound_held : register_for (kept l) (bound_cell level) ≡ Some 25
  bound_held =
      let other : l.leaf.cursor ≢ l.leaf.bound =
      λ e. absurd (omega (arith, e, cursor_are l, bound_are l)) in
      rw (sym (bound_are l)) (grind (arith, nat_tests, other))

  module _ (m j : ℤ) (i : Piece S.World) (st : meaning.State) (state : machine.State)
      (shows : SeenIn code heartbeat z act fuel (L m j) i l.q.names st state) where
    pub is_next : register state.registers 24 ≡ word.Int m
    is_next =
        (number_in code heartbeat z act fuel (L m j) i l.q.names st state shows (Some 24)
        (value_cell level) m cursor_held shows.keeps.next).2

    pub is_end : register state.registers 25 ≡ word.Int j
    is_end =
        (number_in code heartbeat z act fuel (L m j) i l.q.names st state shows (Some 25)
        (bound_cell level) j bound_held shows.keeps.bound).2

    low : state.stack.base ≤ z
    low = low_there code heartbeat z act fuel (L m j) i l.q.names st state shows

    -- ---- the next number

    abbrev raised : List Word
    raised = slice_set state.registers 24 (word.Int (m +ℤ pos 1))

    pub seen_raised : SeenIn code heartbeat z act fuel (L (m +ℤ pos 1) j) i l.q.names st
        (with_register (advanced state) 24 (word.Int (m +ℤ pos 1)))
    seen_raised =
        let kept_stack : StackValue = (stored heartbeat z l S lowest k vs named accs_below fuel m j
        i l.q.names st state).stack in
        let before : ShowsIn code heartbeat z act fuel (Stored m j) i l.q.names st
        (record state { stack = kept_stack }) =
        stored_of heartbeat z l S lowest k vs named accs_below fuel m j i l.q.names st tall state
        shows in
        let same : register raised 31 ≡ register state.registers 31 =
        register_other state.registers 24 31 (word.Int (m +ℤ pos 1))
        (λ (e : 31 ≡ 24). absurd (omega (arith, e))) in
        let held : register_for (kept l) (value_cell level) ≡ Some 24 = cursor_held in
        seen_of heartbeat z l S lowest k vs named accs_below fuel (m +ℤ pos 1) j i l.q.names st
        (with_register (advanced state) 24 (word.Int (m +ℤ pos 1)))
        (subst (λ (t : StackValue). ShowsIn code heartbeat z act fuel (Stored (m +ℤ pos 1) j) i
        l.q.names st (record (with_register (advanced state) 24 (word.Int (m +ℤ pos 1)))
        { stack = t }))
        (sym (register_store (kept l) z (value_cell level) 24 state.registers state.stack
        (word.Int (m +ℤ pos 1)) low (omega (arith, shows.size)) (unlike l) held))
        (shows_next code heartbeat z act l.q S lowest k vs named fuel true m (m +ℤ pos 1) j i st
        (record state { stack = kept_stack }) before raised (counted state.beat) (state.at + 1)
        (enough_later code heartbeat z act l.q S lowest k vs named m j i shows.keeps.enough)
        (length-set state.registers 24 (word.Int (m +ℤ pos 1))) same))

    pub raises : (K : Back code heartbeat) → InRange (m +ℤ pos 1)
        → Remains code state.block state.at turn (to over)
        → (SeenIn code heartbeat z act fuel (L (m +ℤ pos 1) j) i l.q.names st
        (with_register (advanced state) 24 (word.Int (m +ℤ pos 1)))
        → Remains code state.block (state.at + 1) tested (to over)
        → K.Holds (with_register (advanced state) 24 (word.Int (m +ℤ pos 1))))
        → K.Holds state
    raises K fits stands go =
        on_calc code heartbeat K state 24 24 alu.Add (value.Int (pos 1)) (word.Int (m +ℤ pos 1))
        (next code state _ tested (to over) stands) gives
        (go seen_raised (behind code state.block state.at _ tested (to over) stands))
      where
        gives : calculated alu.Add (register state.registers 24) (word.Int (pos 1))
            ≡ Ok (word.Int (m +ℤ pos 1))
        gives = rw is_next (ap (λ n. Ok (word.Int n)) (int_wrap_fits w64 (m +ℤ pos 1) fits))

    -- ---- the test

    abbrev words_by : Bool → List Word
    words_by b = slice_set state.registers 0 (word.Int (truth b))

    -- the task behind the comparison
    abbrev pub compared : Bool → machine.State
    compared b = moved state (words_by b) (counted state.beat) (state.at + 1)

    seen_by : (b : Bool) → SeenIn code heartbeat z act fuel (L m j) i l.q.names st (compared b)
    seen_by b =
        shows_low code heartbeat z act fuel (L m j) i state.stack shows (words_by b)
        (length-set state.registers 0 (word.Int (truth b)))
        (λ r from. register_other state.registers 0 r (word.Int (truth b))
        (λ (e : r ≡ 0). absurd (omega (arith, e, from))))

    compares : (K : Back code heartbeat) (b : Bool) → int_lt m j ≡ b
        → Remains code state.block state.at tested (to over)
        → (register (words_by b) 0 ≡ word.Int (truth b)
        → Remains code state.block (state.at + 1) (instr.IfJump 0 head ∷ stores_of (kept l))
        (to over) → K.Holds (compared b))
        → K.Holds state
    compares K b is stands go =
        on_calc code heartbeat K state 0 24 alu.Lt (value.Reg 25) (word.Int (truth b))
        (next code state _ _ (to over) stands) gives
        (go (register_set state.registers 0 (word.Int (truth b)) (omega (arith, shows.size)))
        (behind code state.block state.at _ _ (to over) stands))
      where
        gives : calculated alu.Lt (register state.registers 24) (register state.registers 25)
            ≡ Ok (word.Int (truth b))
        gives = rw (is_next, is_end) (ap (λ c. Ok (word.Int (truth c))) is)

    -- where no iteration is left the registers are stored, and the piece ends
    pub test_over : (instrs : List Instr) (end : Term) → Opens code over instrs end → IsGap zero m j
        → Remains code state.block state.at tested (to over)
        → ((task : machine.State)
        → ShowsIn code heartbeat z act fuel (Stored m j) i l.q.names st task → task.block ≡ over
        → task.at ≡ 0 → (P.owing i (fin st)).Holds task)
        → (P.owing i (result (all_turns zero m st))).Holds state
    unfolding iterate
    test_over instrs end opens gap stands ends =
        let K : Back code heartbeat = P.owing i (fin st) in
        compares K false (gap_none m j gap) stands (λ is left.
        on_if_not code heartbeat K (compared false) 0 head
        (next code (compared false) _ _ (to over) left) is
        (stores_all code heartbeat K (to over) (words_by false) z act.size (seen_by false).base []
        (kept l) (advanced (compared false)) (counted (counted state.beat)) (state.at + 1 + 1)
        (λ a d below. omega (arith, registers_in l.leaf l.right a d below)) has
        (subst (λ (instrs : List Instr). Remains code state.block (state.at + 1 + 1) instrs
        (to over)) (sym (append-nil (stores_of (kept l))))
        (behind code state.block (state.at + 1) _ _ (to over) left))
        (λ later there quiet granted behind_stores.
        jumps code heartbeat K _ over instrs end behind_stores opens
        (ends _ (stored_of heartbeat z l S lowest k vs named accs_below fuel m j i l.q.names st tall
        (compared false) (seen_by false)) refl refl))))
      where
        has : Has state.stack z act.size
        has = record {
          low = low;
          high = omega (
            arith,
            top_there code heartbeat z act fuel (L m j) i l.q.names st state shows,
          );
        }

    -- else another one begins at the promotion point, which a beat may divert
    pub test_more : (instrs : List Instr) (end : Term) (handler : ℕ)
        → OpensAs code (note.Ready handler) head instrs end → (n : ℕ) → IsGap (suc n) m j
        → Remains code state.block state.at tested (to over)
        → (SeenIn code heartbeat z act fuel (L m j) i l.q.names st
        (goes_in heartbeat head (compared true))
        → (P.owing i (result (first_turns n m st))).Holds (goes_in heartbeat head (compared true)))
        → (SeenIn code heartbeat z act fuel (L m j) i l.q.names st (compared true)
        → is_diverted heartbeat (has_mark state.stack) true (advanced (compared true)).beat ≡ true
        → (P.diverted i (result (first_turns n m st))).Holds
        (diverted_to heartbeat head handler (compared true)))
        → (P.owing i (result (all_turns (suc n) m st))).Holds state
    test_more instrs end handler opens n gap stands goes_on diverts =
        subst (λ (r : Result). (P.owing i r).Holds state) (sym (chance_first fuel x body n m st))
        (compares (P.owing i (noting ns r)) true (gap_more n m j gap) stands
        (λ is left.
        on_entry code heartbeat (compared true) head handler
        (branches_in code heartbeat (compared true) 0 head handler (pos 1)
        (next code (compared true) _ _ (to over) left) is refl ready)
        P i ns r (one_chance fuel x body (is_tick_allowed fuel st.ticks)) at_point
        (goes_on (seen_by true)) (diverts (seen_by true))))
      where
        r : Result
        r = result (first_turns n m st)

        ns : List Note
        ns = chance_by fuel x body (is_tick_allowed fuel st.ticks)

        ready : note_of (block_at code head) ≡ note.Ready handler
        ready = ap note_of opens.found ∙ opens.noted

        at_point : is_at_point code (goes_in heartbeat head (compared true)) ≡ true
        at_point =
            let same : state.stack.marks ≡ marks_of code heartbeat z act l.q S lowest true i =
            sym (marks_registers (kept l) state.registers state.stack z) ∙ shows.marked in
            let marked : is_some (oldest state.stack) ≡ true =
            ap (λ (ms : List Mark). is_some (slice_get ms 0)) same
            ∙ has_own code heartbeat z act l.q S lowest k vs named fuel x body inner first head over
            i in
            rw (ready, marked) refl

  -- ---- a turn

  pub a_leaf_turn : (n : ℕ) → LeafTest n → LeafTurn n
  unfolding iterate
  a_leaf_turn n goes m j i st task shows gap in_m in_j instrs end runs stands =
      subst (λ (r : Result). (P.owing i r).Holds task)
      (sym (after_result (iteration fuel x body [] m st) (all_turns n (m +ℤ pos 1))))
      (leaving code heartbeat z act fuel (L m j) i l.q.names st task
      (λ t. after (tick fuel t) begun) st follows (as_many st.vars l.q.names shows.named)
      (ticks code heartbeat z act fuel (L m j) i l.q.names st task shows instrs end begun
      (λ s. follows (left level s)) stands
      (λ below.
      runs m j (λ s. follows (left level s)) behind_body i
      (record later { vars = declare later.vars x m }) (effect.with_tick (advanced task))
      (shows_declared code heartbeat z act fuel (L m j) i
      (shows_ticked code heartbeat z act fuel (L m j) i shows below) x m l.q.fits shows.keeps.next
      in_m)
      (behind code task.block task.at instr.Tick instrs end stands))))
    where
      later : meaning.State
      later = record st { ticks = ticked fuel st.ticks }

      begun : meaning.State → Ran
      begun t = body (record t { vars = declare t.vars x m })

      follows : meaning.State → Result
      follows s = result (all_turns n (m +ℤ pos 1) s)

      behind_body : OwedSeen code heartbeat z act fuel (L m j) inner turn (to over)
          (λ s. follows (left level s))
      behind_body w s done shows_done stands_done =
          let shows_left_it : SeenIn code heartbeat z act fuel (L m j) w l.q.names (left level s)
          done = shows_left code heartbeat z act fuel (L m j) w shows_done level l.q.names first in
          raises m j w (left level s) done shows_left_it (P.owing w (follows (left level s)))
          (next_in n m j gap in_m in_j) stands_done
          (λ seen_up left_up.
          goes (m +ℤ pos 1) j w (left level s) _ seen_up (gap_next n m j gap)
          (next_in n m j gap in_m in_j) in_j left_up)
