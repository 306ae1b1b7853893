-- The handler of a pair of calls cuts it.
use Rattle.std.proofs.Common.{◌≡◌, ℕ, ◌+◌, ◌<◌, Bool, true, List, [], ◌∷◌, ◌++◌, drop, None, Some}
use Rattle.std.proofs.Common.{Ok, refl, ap, subst, ◌∙◌, arith}
use Rattle.std.proofs.lemmas.Int.{ints, int_wrap_fits}
use Rattle.std.proofs.lemmas.List.{length-set}
use Rattle.std.proofs.lemmas.List.Elements.{All-head, All-tail}
use Rattle.std.specs.Int.{w64}
use Rattle.std.specs.Prelude.{pos, is_some, slice_set, slice_index_or, ◌-◌}
use Rattle.beat_count.specs.BeatState.{BeatState}
use Rattle.beat_count.specs.Heartbeat.{counted, taken, no_beat}
use Rattle.stack_marks.specs.Causes.{Holds}
use Rattle.stack_marks.specs.Stacks.{StackValue, word_at, with_word, left_of, child_of}
use Rattle.tpal_syntax.specs.Conditions.{is_ready}
use Rattle.tpal_syntax.specs.declared.instructions.Alu.TheVariants as alu
use Rattle.tpal_syntax.specs.declared.instructions.Instr.{Instr}
use Rattle.tpal_syntax.specs.declared.instructions.Instr.TheVariants as instr
use Rattle.tpal_syntax.specs.declared.instructions.Term.{Term}
use Rattle.tpal_syntax.specs.declared.instructions.Value.TheVariants as value
use Rattle.tpal_syntax.specs.declared.notes.CutKind.TheVariants.{Call}
use Rattle.tpal_syntax.specs.declared.sites.CallSite.{CallSite}
use Rattle.tpal_syntax.specs.declared.words.Word.{Word}
use Rattle.tpal_syntax.specs.declared.words.Word.TheVariants.{Int, Label, Rec, Nil}
use Rattle.tpal_syntax.specs.Listing.{Listing}
use Rattle.tpal_machine.specs.Calculation.{calculated}
use Rattle.tpal_machine.specs.Cut as cut
use Rattle.tpal_machine.specs.Cut.{Forked, each_part, carried}
use Rattle.tpal_machine.specs.declared.ends.Goal.TheVariants as goal
use Rattle.tpal_machine.specs.declared.ends.SideName.TheVariants.{Left}
use Rattle.tpal_machine.specs.declared.ends.Tie.{Tie}
use Rattle.tpal_machine.specs.Effect.{answered, with_stack}
use Rattle.tpal_machine.specs.Reading.{register, block_at, note_of, the_target, or_plain, is_target}
use Rattle.tpal_machine.specs.State.{State}
use Rattle.tpal_machine.specs.Step.{Asks, Forks, step, advanced}
use Rattle.tpal_machine.proofs.Kit.{Back, IsCalm}
use Rattle.expr_lower.specs.Leaving.{moved}
use Rattle.expr_lower.specs.Standing.{Remains, AreAt}
use Rattle.expr_lower.proofs.Keeping.{register_set, register_other}
use Rattle.expr_lower.proofs.Standing.{next, behind}
use Rattle.handler_gen.specs.Blocks.{ask, left_returns, call_cut_block, back_block}
use Rattle.handler_gen.specs.Blocks.{call_child_block, call_handler_blocks, call_target, to}
use Rattle.handler_gen.specs.CallCuts.{IsAtCalls, IsRoundCalls, CutsCalls, call_mark, call_work}
use Rattle.handler_gen.specs.CallCuts.{call_halves, left_call_cells, child_call_cells}
use Rattle.handler_gen.specs.Halves.{asking, GoesBack, IsCutInTwo, LeftGoesOn, ChildGoesOn}
use Rattle.handler_gen.specs.Reaching as reaching
use Rattle.handler_gen.specs.Sites.{IsCallSite, call_cells, back_label, child_label, target_label}
use Rattle.handler_gen.specs.Sites.{left_end_label}
use Rattle.handler_gen.proofs.Asking.{in_hand, asks_once, back_without, on_with}
use Rattle.handler_gen.proofs.Cells.{Has, some_word, has_set, has_above, has_child}
use Rattle.handler_gen.proofs.Coming.{cut_in_two, left_going, child_going}
use Rattle.handler_gen.proofs.Marks.{forks}
use Rattle.handler_gen.proofs.Scratch.{Scratch}
use Rattle.handler_gen.proofs.Straight.{calculates, stores, stores_at, enters}

module _ (code : Listing) (heartbeat : ℕ) (site : CallSite) (right : IsCallSite site) (stands : AreAt code site.label (call_handler_blocks site)) (round : IsRoundCalls code site) where
  back_found : block_at code (back_label site.label) ≡ Some (back_block site.label)
  back_found = stands.1.0

  child_found : block_at code (child_label site.label) ≡ Some (call_child_block site)
  child_found =
      let same : site.label + 1 + 1 ≡ child_label site.label = omega arith in
      subst (λ (l : ℕ). block_at code l ≡ Some (call_child_block site)) same stands.1.1.0

  calm_back : IsCalm code (back_label site.label)
  calm_back = ap (λ b. is_ready (note_of b)) back_found

  target_there : is_target code (target_label site.label) ≡ true
  target_there = ap is_some round.target

  target_is : the_target code (target_label site.label) ≡ call_target site
  target_is = ap or_plain round.target

  abbrev Inside : ℕ → Type 0
  Inside off = off < site.cells

  rec_in : site.rec < site.cells
  rec_in = All-head Inside site.rec site.args (All-tail Inside site.mark (call_cells site) right.offsets)

  abbrev end : Term
  end = to (back_label site.label)

  abbrev forking : List Instr
  forking = instr.Fork 24 (child_label site.label) ∷ left_returns site

  module _ (z : ℕ) (state : State) (at : IsAtCalls site z state) where
    starts : Remains code state.block state.at (ask site.label ++ forking) end
    starts = record {
      block = call_cut_block site;
      found = ap (block_at code) at.block ∙ stands.0;
      rest = ap (λ n. drop n (call_cut_block site).body) at.at;
      ends = refl;
    }

    asks_for : (allowed : Bool) → step code heartbeat allowed state ≡ Asks (asking site.label state)
    asks_for = asks_once code heartbeat site.label forking end state starts at.size at.free target_there

    returns : GoesBack code heartbeat site.label state (answered None (asking site.label state))
    returns = back_without code heartbeat site.label forking end state starts at.size calm_back

    -- the cells of the activation itself
    own_cells : Holds state.stack z site.cells
    own_cells = (at.held.0, omega (arith, at.held.1))

    module _ (k : ℕ) where
      abbrev task : State
      task = in_hand site.label k state

      abbrev tie : Tie
      tie = record { rec = k; target = target_label site.label }

      module _ (words : List Word) (beat : BeatState) (there : ℕ) (h : Scratch state.registers words (Rec k) (register state.registers 25) (register state.registers 26))
          (quiet : beat.quiet ≡ state.beat.quiet) (granted : beat.granted ≡ true) (left : Remains code state.block there forking end) where
        abbrev at_fork : State
        at_fork = moved task words beat there

        abbrev parts : Forked
        parts = cut.parts (call_target site) (child_label site.label) tie (call_mark site z) [] (advanced at_fork)

        forks_here : (allowed : Bool) → step code heartbeat allowed at_fork ≡ Forks parts
        forks_here allowed =
            forks code heartbeat at_fork 24 (child_label site.label) k (target_label site.label) (call_mark site z) [] (next code at_fork (instr.Fork 24 (child_label site.label)) (left_returns site) end left) h.r24 refl granted at.marked own_cells
            (ap (λ t. carried words t.carries) target_is) allowed
            ∙ ap (λ t. Forks (cut.parts t (child_label site.label) tie (call_mark site z) [] (advanced at_fork))) target_is

        -- ---- the left

        abbrev goes_left : Back code heartbeat
        goes_left = left_going code heartbeat (call_work site z k) (call_halves site z k state.stack) state

        abbrev left_before : State
        left_before = record task {
          stack = left_of state.stack z site.cells Call;
          tables = each_part cut.left_of [] 0 state.tables;
          output = [];
          goal = goal.At k Left (target_label site.label);
          pending = None;
          met = None;
        }

        sum_is : calculated alu.Add (register words 28) (Int (pos site.cells)) ≡ Ok (Int (pos (z + site.cells)))
        sum_is = ap (λ u. calculated alu.Add u (Int (pos site.cells))) (h.r28 ∙ at.base) ∙ ap (λ n. Ok (Int n)) (int_wrap_fits w64 (pos (z + site.cells)) (omega (arith, ints, at.low)))

        abbrev raised : List Word
        raised = slice_set words 28 (Int (pos (z + site.cells)))

        raised_base : register raised 28 ≡ Int (pos (z + site.cells))
        raised_base = register_set words 28 (Int (pos (z + site.cells))) (omega (arith, h.size))

        raised_rec : register raised 24 ≡ Rec k
        raised_rec = register_other words 28 24 (Int (pos (z + site.cells))) (λ e. absurd (omega (arith, e))) ∙ h.r24

        has_0 : Has (left_of state.stack z site.cells Call) (z + site.cells) 2
        has_0 = has_above state.stack z site.cells 2 at.held

        abbrev stack_1 : StackValue
        stack_1 = with_word (left_of state.stack z site.cells Call) (pos (z + site.cells)) (Label (left_end_label site.label))

        has_1 : Has stack_1 (z + site.cells) 2
        has_1 = has_set (left_of state.stack z site.cells Call) (z + site.cells) 2 (z + site.cells) (Label (left_end_label site.label)) has_0

        first_word : word_at (left_of state.stack z site.cells Call) (pos (z + site.cells + 0)) ≡ Some (slice_index_or (left_of state.stack z site.cells Call).cells (z + site.cells + 0 - (z + site.cells)) Nil)
        first_word = some_word (left_of state.stack z site.cells Call) (z + site.cells) 2 0 has_0 (omega arith)

        left_goes : LeftGoesOn code heartbeat (call_work site z k) (call_halves site z k state.stack) state parts.left
        left_goes =
            let same : z + site.cells + 0 ≡ z + site.cells = omega arith in
            calculates code heartbeat goes_left end left_before words (taken (counted beat)) (there + 1) _ 28 28 alu.Add (value.Int (pos site.cells)) (Int (pos (z + site.cells)))
            (behind code state.block there (instr.Fork 24 (child_label site.label)) (left_returns site) end left) sum_is (λ left.
            stores_at code heartbeat goes_left end left_before raised (counted (taken (counted beat))) (there + 1 + 1) _ 28 0 (value.Label (left_end_label site.label)) (pos (z + site.cells)) (pos (z + site.cells)) _ (Label (left_end_label site.label)) left raised_base (ap pos same)
            (subst (λ (a : ℕ). word_at (left_of state.stack z site.cells Call) (pos a) ≡ Some (slice_index_or (left_of state.stack z site.cells Call).cells (z + site.cells + 0 - (z + site.cells)) Nil)) same first_word) refl (λ left.
            stores code heartbeat goes_left end (with_stack left_before stack_1) raised (counted (counted (taken (counted beat)))) (there + 1 + 1 + 1) [] 28 1 (value.Reg 24) (pos (z + site.cells)) _ (Rec k) left raised_base
            (some_word stack_1 (z + site.cells) 2 1 has_1 (omega arith)) raised_rec (λ left.
            enters code heartbeat goes_left (with_stack left_before (left_call_cells site z k state.stack)) raised (counted (counted (counted (taken (counted beat))))) (there + 1 + 1 + 1 + 1) (value.Label (back_label site.label)) (back_label site.label) left refl calm_back
            (record {
              words = raised;
              beat = counted (counted (counted (counted (taken (counted beat)))));
              keeps = record { size = length-set words 28 (Int (pos (z + site.cells))) ∙ h.size; high = λ r from. register_other words 28 r (Int (pos (z + site.cells))) (λ e. absurd (omega (arith, e, from))) ∙ h.high r from; quiet = quiet };
              granted = refl;
              comes = reaching.here _;
            }))))

        -- ---- the child

        abbrev goes_right : Back code heartbeat
        goes_right = child_going code heartbeat (call_work site z k) (call_halves site z k state.stack) state

        abbrev based : List Word
        based = slice_set words 31 (Int (pos z))

        base : register based 31 ≡ Int (pos z)
        base = register_set words 31 (Int (pos z)) (omega (arith, h.size))

        child_starts : Remains code (child_label site.label) 0 (instr.Store 31 site.rec (value.Reg 24) ∷ []) (to site.entry)
        child_starts = record { block = call_child_block site; found = child_found; rest = refl; ends = refl }

        child_goes : ChildGoesOn code heartbeat (call_work site z k) (call_halves site z k state.stack) state parts.child
        child_goes =
            stores code heartbeat goes_right (to site.entry) parts.child based no_beat 0 [] 31 site.rec (value.Reg 24) (pos z) _ (Rec k) child_starts base
            (some_word (child_of state.stack z site.cells) z site.cells site.rec (has_child state.stack z site.cells own_cells) rec_in) (register_other words 31 24 (Int (pos z)) (λ e. absurd (omega (arith, e))) ∙ h.r24) (λ left.
            enters code heartbeat goes_right (with_stack parts.child (child_call_cells site z k state.stack)) based (counted no_beat) (0 + 1) (value.Label site.entry) site.entry left refl round.entry
            (record {
              words = based;
              beat = counted (counted no_beat);
              size = length-set words 31 (Int (pos z)) ∙ h.size;
              base = base;
              loud = refl;
              granted = refl;
              comes = reaching.here _;
            }))

        two : IsCutInTwo code heartbeat (call_work site z k) (call_halves site z k state.stack) state at_fork
        two = record {
          last = at_fork;
          comes = reaching.here at_fork;
          parts = parts;
          forks = forks_here;
          rec = refl;
          rest = refl;
          left = left_goes;
          child = child_goes;
        }

      cuts_here : IsCutInTwo code heartbeat (call_work site z k) (call_halves site z k state.stack) state (answered (Some k) (asking site.label state))
      cuts_here =
          on_with code heartbeat site.label forking end state starts at.size (cut_in_two code heartbeat (call_work site z k) (call_halves site z k state.stack) state) k (λ words beat there h quiet granted left.
          two words beat there h quiet (granted ∙ at.granted) left)

  pub cuts_calls : CutsCalls code heartbeat site
  cuts_calls = record {
    asks = λ z state at. asks_for z state at;
    goes_back = λ z state at. returns z state at;
    cuts = λ z state k at. cuts_here z state at k;
  }
