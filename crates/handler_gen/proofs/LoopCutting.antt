-- The handler of a loop cuts it.
use Rattle.std.proofs.Common.{◌≡◌, ℕ, ◌+◌, ◌≤◌, Bool, true, false, List, [], ◌∷◌, ◌++◌, drop, None}
use Rattle.std.proofs.Common.{Some, Ok, refl, ap, subst, ◌∙◌, arith}
use Rattle.std.specs.Prelude.{ℤ, pos, ◌-ℤ◌, int_div, int_lt, is_some, slice_set}
use Rattle.beat_count.specs.BeatState.{BeatState}
use Rattle.beat_count.specs.Heartbeat.{counted, taken}
use Rattle.stack_marks.specs.Stacks.{StackValue, with_word, without_oldest, left_of}
use Rattle.tp_value.specs.Number.{truth}
use Rattle.tpal_syntax.specs.Conditions.{is_ready}
use Rattle.tpal_syntax.specs.declared.instructions.Alu.TheVariants as alu
use Rattle.tpal_syntax.specs.declared.instructions.Instr.{Instr}
use Rattle.tpal_syntax.specs.declared.instructions.Instr.TheVariants as instr
use Rattle.tpal_syntax.specs.declared.instructions.Term.{Term}
use Rattle.tpal_syntax.specs.declared.instructions.Value.TheVariants as value
use Rattle.tpal_syntax.specs.declared.notes.CutKind.TheVariants.{Loop}
use Rattle.tpal_syntax.specs.declared.sites.LoopSite.{LoopSite}
use Rattle.tpal_syntax.specs.declared.words.Word.{Word}
use Rattle.tpal_syntax.specs.declared.words.Word.TheVariants.{Int, Rec}
use Rattle.tpal_syntax.specs.Listing.{Listing}
use Rattle.tpal_machine.specs.Calculation.{calculated}
use Rattle.tpal_machine.specs.Cut as cut
use Rattle.tpal_machine.specs.Cut.{Forked, each_part, carried}
use Rattle.tpal_machine.specs.declared.cut.TableCut.{TableCut}
use Rattle.tpal_machine.specs.declared.ends.Tie.{Tie}
use Rattle.tpal_machine.specs.declared.ends.Goal.TheVariants as goal
use Rattle.tpal_machine.specs.declared.ends.SideName.TheVariants.{Left}
use Rattle.tpal_machine.specs.Effect.{answered, oldest, with_stack}
use Rattle.tpal_machine.specs.Reading.{register, block_at, note_of, the_target, or_plain, is_target}
use Rattle.tpal_machine.specs.State.{State}
use Rattle.tpal_machine.specs.Step.{Asks, Forks, step, advanced}
use Rattle.tpal_machine.proofs.Kit.{Back, IsCalm}
use Rattle.expr_lower.specs.Leaving.{moved}
use Rattle.expr_lower.specs.Standing.{Remains, AreAt}
use Rattle.expr_lower.proofs.Standing.{next as next_instr, behind}
use Rattle.handler_gen.specs.Blocks.{ask, middle, cut_places, left_begins, loop_cut_block}
use Rattle.handler_gen.specs.Blocks.{back_block, loop_child_block, loop_handler_blocks, loop_target}
use Rattle.handler_gen.specs.Blocks.{to}
use Rattle.handler_gen.specs.Halves.{asking, GoesBack, IsCutInTwo, KeepsPlace, LeftGoesOn}
use Rattle.handler_gen.specs.Halves.{ChildGoesOn, Halves, Work}
use Rattle.handler_gen.specs.LoopCuts.{IsAtLoop, IsRoundLoop, CutsLoop, loop_mark, loop_work}
use Rattle.handler_gen.specs.LoopCuts.{loop_halves, left_cells, table_cuts}
use Rattle.handler_gen.specs.Reaching as reaching
use Rattle.handler_gen.specs.Sites.{IsLoopSite, back_label, child_label, target_label, none_label}
use Rattle.handler_gen.proofs.Asking.{in_hand, asks_once, back_without, on_with}
use Rattle.handler_gen.proofs.Cells.{Has, some_word, has_set, has_left, oldest_kept}
use Rattle.handler_gen.proofs.Coming.{cut_in_two, left_going}
use Rattle.handler_gen.proofs.LoopChildren as begins
use Rattle.handler_gen.proofs.Marks.{forks, le_true}
use Rattle.handler_gen.proofs.Middles.{IsMiddle, middle_is}
use Rattle.handler_gen.proofs.Offsets.{rec_in, bound_in}
use Rattle.handler_gen.proofs.Places.{moves_all, are_carried, apart_high}
use Rattle.handler_gen.proofs.Scratch.{Scratch, set_25, set_26, set_27, test_is}
use Rattle.handler_gen.proofs.Straight.{calculates, loads, stores, passes_by, branches, drops}
use Rattle.handler_gen.proofs.Straight.{enters}

module _ (code : Listing) (heartbeat : ℕ) (site : LoopSite) (right : IsLoopSite site) (stands : AreAt code site.label (loop_handler_blocks site)) (round : IsRoundLoop code site) where
  back_found : block_at code (back_label site.label) ≡ Some (back_block site.label)
  back_found = stands.1.0

  child_found : block_at code (child_label site.label) ≡ Some (loop_child_block site)
  child_found =
      let same : site.label + 1 + 1 ≡ child_label site.label = omega arith in
      subst (λ (l : ℕ). block_at code l ≡ Some (loop_child_block site)) same stands.1.1.0

  calm_back : IsCalm code (back_label site.label)
  calm_back = ap (λ b. is_ready (note_of b)) back_found

  target_there : is_target code (target_label site.label) ≡ true
  target_there = ap is_some round.target

  target_is : the_target code (target_label site.label) ≡ loop_target site
  target_is = ap or_plain round.target

  -- ---- the block that cuts

  abbrev end : Term
  end = to (none_label site.label)

  abbrev behind_fork : List Instr
  behind_fork = left_begins site

  abbrev forking : List Instr
  forking = instr.Fork 24 (child_label site.label) ∷ behind_fork

  module _ (z : ℕ) (next place last : ℤ) (state : State) (at : IsAtLoop site z next place last state) where
    starts : Remains code state.block state.at (ask site.label ++ (middle site ++ (cut_places site.carries ++ forking))) end
    starts = record {
      block = loop_cut_block site;
      found = ap (block_at code) at.block ∙ stands.0;
      rest = ap (λ n. drop n (loop_cut_block site).body) at.at;
      ends = refl;
    }

    asks_for : (allowed : Bool) → step code heartbeat allowed state ≡ Asks (asking site.label state)
    asks_for = asks_once code heartbeat site.label _ end state starts at.size at.free target_there

    returns : GoesBack code heartbeat site.label state (answered None (asking site.label state))
    returns = back_without code heartbeat site.label _ end state starts at.size calm_back

    is_middle : IsMiddle next place last
    is_middle = middle_is next last place at.cut at.short at.next_in_range at.end_in_range

    module _ (k : ℕ) where
      abbrev task : State
      task = in_hand site.label k state

      abbrev old : List Word
      old = state.registers

      -- the place of the cut is computed
      on_middle : (K : Back code heartbeat)
          → ((words : List Word) (beat : BeatState) (there : ℕ) → Scratch old words (Rec k) (Int place) (Int next) → beat.quiet ≡ state.beat.quiet → beat.granted ≡ state.beat.granted → Remains code state.block there (cut_places site.carries ++ forking) end → K.Holds (moved task words beat there))
          → K.Holds (answered (Some k) (asking site.label state))
      on_middle K go =
          on_with code heartbeat site.label (middle site ++ (cut_places site.carries ++ forking)) end state starts at.size K k (λ w beat there h quiet granted left.
          let h1 : Scratch old (slice_set w 26 (Int next)) (Rec k) (register old 25) (Int next) = set_26 old w (Rec k) (register old 25) (register old 26) (Int next) h in
          let w1 : List Word = slice_set w 26 (Int next) in
          let h2 : Scratch old (slice_set w1 25 (Int last)) (Rec k) (Int last) (Int next) = set_25 old w1 (Rec k) (register old 25) (Int next) (Int last) h1 in
          let w2 : List Word = slice_set w1 25 (Int last) in
          let gap : ℤ = last -ℤ next in
          let h3 : Scratch old (slice_set w2 25 (Int gap)) (Rec k) (Int gap) (Int next) = set_25 old w2 (Rec k) (Int last) (Int next) (Int gap) h2 in
          let w3 : List Word = slice_set w2 25 (Int gap) in
          let half : ℤ = int_div gap (pos 2) in
          let h4 : Scratch old (slice_set w3 25 (Int half)) (Rec k) (Int half) (Int next) = set_25 old w3 (Rec k) (Int gap) (Int next) (Int half) h3 in
          let w4 : List Word = slice_set w3 25 (Int half) in
          let h5 : Scratch old (slice_set w4 25 (Int place)) (Rec k) (Int place) (Int next) = set_25 old w4 (Rec k) (Int half) (Int next) (Int place) h4 in
          loads code heartbeat K end task w beat there _ 26 28 site.cursor (pos z) (Int next) left (h.r28 ∙ at.base) at.cursor (λ left.
          loads code heartbeat K end task w1 (counted beat) (there + 1) _ 25 28 site.bound (pos z) (Int last) left (h1.r28 ∙ at.base) at.bound (λ left.
          calculates code heartbeat K end task w2 (counted (counted beat)) (there + 1 + 1) _ 25 25 alu.Sub (value.Reg 26) (Int gap) left
          (ap (λ u. calculated alu.Sub u (register w2 26)) h2.r25 ∙ ap (λ u. calculated alu.Sub (Int last) u) h2.r26 ∙ ap (λ n. Ok (Int n)) is_middle.length) (λ left.
          calculates code heartbeat K end task w3 (counted (counted (counted beat))) (there + 1 + 1 + 1) _ 25 25 alu.Div (value.Int (pos 2)) (Int half) left
          (ap (λ u. calculated alu.Div u (Int (pos 2))) h3.r25 ∙ ap (λ n. Ok (Int n)) is_middle.half) (λ left.
          calculates code heartbeat K end task w4 (counted (counted (counted (counted beat)))) (there + 1 + 1 + 1 + 1) _ 25 25 alu.Add (value.Reg 26) (Int place) left
          (ap (λ u. calculated alu.Add u (register w4 26)) h4.r25 ∙ ap (λ u. calculated alu.Add (Int half) u) h4.r26 ∙ ap (λ n. Ok (Int n)) is_middle.place) (λ left.
          go (slice_set w4 25 (Int place)) (counted (counted (counted (counted (counted beat))))) (there + 1 + 1 + 1 + 1 + 1) h5 quiet granted left))))))

      -- ---- the fork

      abbrev cuts : List (ℕ × TableCut)
      cuts = table_cuts old place site.carries

      abbrev work : Work
      work = loop_work site z place k state

      abbrev halves : Bool → Halves
      halves some = loop_halves site z place k state.stack some

      module _ (words : List Word) (beat : BeatState) (there : ℕ) (h : Scratch words words (Rec k) (Int place) (Int next)) (base : register words 28 ≡ Int (pos z)) (high : (r : ℕ) → 30 ≤ r → register words r ≡ register old r)
          (quiet : beat.quiet ≡ state.beat.quiet) (granted : beat.granted ≡ true) (carries : carried words site.carries ≡ Ok cuts) (left : Remains code state.block there forking end) where
        abbrev at_fork : State
        at_fork = moved task words beat there

        abbrev tie : Tie
        tie = record { rec = k; target = target_label site.label }

        abbrev parts : Forked
        parts = cut.parts (loop_target site) (child_label site.label) tie (loop_mark site z) cuts (advanced at_fork)

        forks_here : (allowed : Bool) → step code heartbeat allowed at_fork ≡ Forks parts
        forks_here allowed =
            forks code heartbeat at_fork 24 (child_label site.label) k (target_label site.label) (loop_mark site z) cuts (next_instr code at_fork (instr.Fork 24 (child_label site.label)) behind_fork end left) h.r24 refl granted at.marked at.held
            (ap (λ t. carried words t.carries) target_is ∙ carries) allowed
            ∙ ap (λ t. Forks (cut.parts t (child_label site.label) tie (loop_mark site z) cuts (advanced at_fork))) target_is

        -- ---- the left

        abbrev left_before : State
        left_before = record task {
          stack = left_of state.stack z site.cells Loop;
          tables = each_part cut.left_of cuts 0 state.tables;
          output = [];
          goal = goal.At k Left (target_label site.label);
          pending = None;
          met = None;
        }

        has_0 : Has (left_of state.stack z site.cells Loop) z site.cells
        has_0 = has_left state.stack z site.cells at.held

        abbrev stack_1 : StackValue
        stack_1 = with_word (left_of state.stack z site.cells Loop) (pos (z + site.rec)) (Rec k)

        has_1 : Has stack_1 z site.cells
        has_1 = has_set (left_of state.stack z site.cells Loop) z site.cells (z + site.rec) (Rec k) has_0

        abbrev left_stored : State
        left_stored = with_stack left_before (left_cells site z place k state.stack)

        abbrev left_beat : BeatState
        left_beat = counted (counted (taken (counted beat)))

        abbrev left_test : List Instr
        left_test = instr.Calc 27 26 alu.Lt (value.Reg 25) ∷ instr.IfJump 27 (back_label site.label) ∷ instr.PrmDrop ∷ []

        -- the left has its record and its end
        on_left : (K : Back code heartbeat) → (Remains code state.block (there + 1 + 1 + 1) left_test end → K.Holds (moved left_stored words left_beat (there + 1 + 1 + 1))) → K.Holds parts.left
        on_left K go =
            stores code heartbeat K end left_before words (taken (counted beat)) (there + 1) (instr.Store 28 site.bound (value.Reg 25) ∷ left_test) 28 site.rec (value.Reg 24) (pos z) _ (Rec k) (behind code state.block there (instr.Fork 24 (child_label site.label)) behind_fork end left) base
            (some_word (left_of state.stack z site.cells Loop) z site.cells site.rec has_0 (rec_in site right)) h.r24 (λ left.
            stores code heartbeat K end (with_stack left_before stack_1) words (counted (taken (counted beat))) (there + 1 + 1) left_test 28 site.bound (value.Reg 25) (pos z) _ (Int place) left base
            (some_word stack_1 z site.cells site.bound has_1 (bound_in site right)) h.r25 go)

        tests : (b : Bool) → int_lt next place ≡ b → calculated alu.Lt (register words 26) (register words 25) ≡ Ok (Int (truth b))
        tests b e = ap (λ u. calculated alu.Lt u (register words 25)) h.r26 ∙ ap (λ u. calculated alu.Lt (Int next) u) h.r25 ∙ ap (λ t. Ok (Int (truth t))) e

        has_test : (w : Word) → Scratch words (slice_set words 27 w) (Rec k) (Int place) (Int next)
        has_test w = set_27 words words (Rec k) (Int place) (Int next) w h

        keeps_place : (w : Word) (later : BeatState) → later.quiet ≡ beat.quiet → KeepsPlace state (slice_set words 27 w) later
        keeps_place w later same = record { size = (has_test w).size; high = λ r from. (has_test w).high r from ∙ high r from; quiet = same ∙ quiet }

        left_marked : oldest (left_cells site z place k state.stack) ≡ Some (loop_mark site z)
        left_marked = oldest_kept state.stack.marks (loop_mark site z) z at.marked (le_true z (z + site.mark) (omega arith))

        left_goes : (b : Bool) → int_lt next place ≡ b → LeftGoesOn code heartbeat work (halves b) state parts.left
        left_goes true e =
            on_left (left_going code heartbeat work (halves true) state) (λ left.
            calculates code heartbeat (left_going code heartbeat work (halves true) state) end left_stored words left_beat (there + 1 + 1 + 1) _ 27 26 alu.Lt (value.Reg 25) (Int (pos 1)) left (tests true e) (λ left.
            branches code heartbeat (left_going code heartbeat work (halves true) state) end left_stored (slice_set words 27 (Int (pos 1))) (counted left_beat) (there + 1 + 1 + 1 + 1) _ 27 (back_label site.label) (pos 1) left
            (test_is words words (Rec k) (Int place) (Int next) (Int (pos 1)) h) refl calm_back
            (record { words = slice_set words 27 (Int (pos 1)); beat = counted (counted left_beat); keeps = keeps_place (Int (pos 1)) (counted (counted left_beat)) refl; granted = refl; comes = reaching.here _ })))
        left_goes false e =
            let K : Back code heartbeat = left_going code heartbeat work (halves false) state in
            let last : List Word = slice_set words 27 (Int (pos 0)) in
            let dropped : State = with_stack left_stored (without_oldest left_stored.stack) in
            on_left K (λ left.
            calculates code heartbeat K end left_stored words left_beat (there + 1 + 1 + 1) _ 27 26 alu.Lt (value.Reg 25) (Int (pos 0)) left (tests false e) (λ left.
            passes_by code heartbeat K end left_stored last (counted left_beat) (there + 1 + 1 + 1 + 1) (instr.PrmDrop ∷ []) 27 (back_label site.label) left
            (test_is words words (Rec k) (Int place) (Int next) (Int (pos 0)) h) (λ left.
            drops code heartbeat K end left_stored last (counted (counted left_beat)) (there + 1 + 1 + 1 + 1 + 1) [] (loop_mark site z) left left_marked (λ left.
            enters code heartbeat K dropped last (counted (counted (counted left_beat))) (there + 1 + 1 + 1 + 1 + 1 + 1) (value.Label (none_label site.label)) (none_label site.label) left refl round.none
            (record { words = last; beat = counted (counted (counted (counted left_beat))); keeps = keeps_place (Int (pos 0)) (counted (counted (counted (counted left_beat)))) refl; granted = refl; comes = reaching.here _ })))))

        -- ---- the child

        child_goes : ChildGoesOn code heartbeat work (halves (int_lt next place)) state parts.child
        child_goes = begins.child_goes code heartbeat site right child_found round.first z state place k (int_lt next place) words h.size h.r24 h.r25 at.held

        two : IsCutInTwo code heartbeat work (halves (int_lt next place)) state at_fork
        two = record {
          last = at_fork;
          comes = reaching.here at_fork;
          parts = parts;
          forks = forks_here;
          rec = refl;
          rest = refl;
          left = left_goes (int_lt next place) refl;
          child = child_goes;
        }

      cuts_here : IsCutInTwo code heartbeat work (halves (int_lt next place)) state (answered (Some k) (asking site.label state))
      cuts_here =
          let K : Back code heartbeat = cut_in_two code heartbeat work (halves (int_lt next place)) state in
          on_middle K (λ words beat there h quiet granted left.
          moves_all code heartbeat K end task (Int place) forking site.carries words beat there right.carries h.size h.r25 left (λ others later here m quiet_later granted_later left.
          let apart : (r : ℕ) → 24 ≤ r → register others r ≡ register words r = λ r from. m.others r (apart_high site.carries r from right.carries) in
          two others later here
          (record { size = m.size ∙ h.size; low = λ r below. refl; r24 = apart 24 (omega arith) ∙ h.r24; r25 = apart 25 (omega arith) ∙ h.r25; r26 = apart 26 (omega arith) ∙ h.r26; r28 = refl; high = λ r from. refl })
          (apart 28 (omega arith) ∙ (h.r28 ∙ at.base)) (λ r from. apart r (omega (arith, from)) ∙ h.high r from)
          (quiet_later ∙ quiet) (granted_later ∙ (granted ∙ at.granted)) (are_carried place site.carries old words others m h.low right.carries at.rows right.rows_stay) left))

  pub cuts_loop : CutsLoop code heartbeat site
  cuts_loop = record {
    asks = λ z next place last state at. asks_for z next place last state at;
    goes_back = λ z next place last state at. returns z next place last state at;
    cuts = λ z next place last state k at. cuts_here z next place last state at k;
  }
