-- A call whose arguments are kept, and for which a level is left: it needs no test.
use Rattle.std.proofs.Common.{◌≡◌, ℕ, suc, ◌+◌, ◌<◌, ◌≤◌, ◌^◌, List, [], ◌∷◌, length, Some, refl}
use Rattle.std.proofs.Common.{sym, ap, subst, ◌∙◌, arith}
use Rattle.std.specs.Prelude.{ℤ, pos, slice_set}
use Rattle.std.proofs.lemmas.List.{length-map, length-set}
use Rattle.beat_count.specs.Ticks.{ticked}
use Rattle.stack_marks.specs.Stacks.{pushed, word_at}
use Rattle.tp_value.specs.declared.limits.TheConstants.{MAX_CALL_DEPTH, MAX_PARAMETERS}
use Rattle.loop_syntax.specs.declared.Func.{Func}
use Rattle.loop_syntax.specs.declared.Name.{Name}
use Rattle.loop_rules.specs.Names.{func_of, texts}
use Rattle.loop_meaning.specs.Calls.{call_at, enter}
use Rattle.loop_meaning.specs.State as meaning
use Rattle.loop_meaning.specs.State.{Ran}
use Rattle.loop_meaning.specs.Statements.{run_list, with_call}
use Rattle.tpal_syntax.specs.declared.instructions.Instr.{Instr}
use Rattle.tpal_syntax.specs.declared.instructions.Instr.TheVariants as instr
use Rattle.tpal_syntax.specs.declared.instructions.Term.{Term}
use Rattle.tpal_syntax.specs.declared.words.Word.{Word}
use Rattle.tpal_syntax.specs.declared.words.Word.TheVariants as word
use Rattle.tpal_syntax.specs.Listing.{Listing}
use Rattle.tpal_machine.specs.Effect as effect
use Rattle.tpal_machine.specs.Reading.{register, with_register}
use Rattle.tpal_machine.specs.State as machine
use Rattle.tpal_machine.specs.Step.{advanced}
use Rattle.tpal_machine.proofs.Kit.{Back, on_load, on_salloc}
use Rattle.expr_lower.specs.Standing.{Remains}
use Rattle.expr_lower.proofs.Keeping.{register_other, register_set}
use Rattle.expr_lower.proofs.Standing.{behind, next, regrouped}
use Rattle.scene_laws.specs.Code.{Opens, load, passed, to}
use Rattle.scene_laws.specs.Layout.{Activation, Entry, kept_by_both, kept_cell, levels_cell}
use Rattle.scene_laws.specs.Layout.{value_cell, kept_argument}
use Rattle.form_laws.specs.Functions.{HasRoom}
use Rattle.scene_laws.specs.Pairs.{call_enters, call_given, passed_call, second_call}
use Rattle.form_laws.proofs.Forms.Arguments.{AreIn, are_in_same, passed_law, wider}
use Rattle.scene_laws.proofs.Scenes.Called.{body_set, enter_is, entered_with, open_call, value_then}
use Rattle.form_laws.proofs.Forms.Callees.{cell_pushed, shows_pushed}
use Rattle.form_laws.proofs.Forms.Calls.{Caller, Calling, Keeping, callee, entered_stack}
use Rattle.form_laws.proofs.Forms.Calls.{entering}
use Rattle.form_laws.proofs.Forms.Calls.{shows_callee}
use Rattle.form_laws.proofs.Forms.Choices.{OwedAt}
use Rattle.scene_laws.proofs.Scenes.Results.{Result, result, then}
use Rattle.scene_laws.proofs.Scenes.Scene.{Scene, ShowsIn}
use Rattle.scene_laws.proofs.Scenes.Showing.{shows_ticked}
use Rattle.form_laws.proofs.Forms.Ticks.{ticks}

-- the function of a name in a program, at its entry in a code
pub record CalledAt (code : Listing) (act : Activation) (fs : List Func) (x : List ℕ)
    (entry : Entry) : Type 0 where
  pub func : Func
  pub named : func_of fs x ≡ Some func
  pub arity : length func.params.items ≡ entry.parameters
  pub most : ℕ
  pub params : length func.params.items ≤ most
  pub has_room : HasRoom (record act { most = most; size = entry.size })
  pub instrs : List Instr
  pub end : Term
  pub begins : Opens code entry.label instrs end

module _ (code : Listing) (heartbeat z : ℕ) (act : Activation) (fuel : ℕ)
    (S : Scene code heartbeat z) (names : List (List ℕ)) (lowest : S.lowest ≤ length names)
    (has_room : HasRoom act) (low : z + act.size ≤ 2 ^ 62) (A : Type 0)
    (kept : Keeping code heartbeat z act fuel S names A) (next_in : A → ℤ → meaning.State → Ran)
    (k : meaning.State → Result) (room back : ℕ) (levels : S.levels ≡ suc room)
    (few : room ≤ MAX_CALL_DEPTH) (fs : List Func) (g : Name) (entry : Entry)
    (there : CalledAt code act fs g.text.items entry) where
  abbrev pub inside : Scene code heartbeat (z + act.size)
  inside = callee code heartbeat z act fuel S names lowest has_room A kept next_in k room back

  abbrev pub act_in : Activation
  act_in = record act { most = there.most; size = entry.size }

  -- what the function owes where it begins
  abbrev pub FunctionOwed : Type 0
  FunctionOwed =
      OwedAt code heartbeat (z + act.size) act_in fuel inside (texts there.func.params.items)
      entry.label
      (λ st. then (result (run_list (body_set fs fuel room) there.func.body.items st))
      (value_then there.func.result))

  abbrev Waiting : Type 0
  Waiting = Caller code heartbeat z act fuel S names A

  abbrev Making : Waiting → Type 0
  Making w = Calling code heartbeat z act fuel S names kept entry w

  module _ (owes : FunctionOwed) where
    -- from the call's tick on
    pub enters_second : (w : Waiting) (c : Making w)
        → Remains code c.task.block c.task.at
        (instr.Tick ∷ load 0 levels_cell ∷ call_given 0 act.size back (call_enters act.size))
        (to entry.label)
        → (S.owing w.world (then (result (with_call (call_at fs fuel (suc room) g.text.items g.place
        c.numbers [] w.state) (next_in w.value))) k)).Holds c.task
    enters_second w c stands =
        subst (λ (r : Result). (S.owing w.world r).Holds c.task)
        (sym (open_call fs fuel g.text.items g.place c.numbers [] w.state (next_in w.value) k room
        there.func there.named))
        (ticks code heartbeat z (wider act entry.size) fuel S w.world names w.state c.task c.shows _
        (to entry.label)
        (λ u. with_call (enter (body_set fs fuel room) (Some there.func) c.numbers [] u)
        (next_in w.value)) k stands counts)
      where
        later : meaning.State
        later = record w.state { ticks = ticked fuel w.state.ticks }

        given : Result
        given = then (result (run_list (body_set fs fuel room) there.func.body.items
            (entered_with there.func c.numbers later))) (value_then there.func.result)

        one : machine.State
        one = effect.with_tick (advanced c.task)

        words : List Word
        words = slice_set c.task.registers 0 (word.Int (pos S.levels))

        two : machine.State
        two = with_register (advanced one) 0 (word.Int (pos S.levels))

        K : Back code heartbeat
        K = inside.owing w given

        counts : w.state.ticks < fuel
            → (S.owing w.world (then (result (with_call (enter (body_set fs fuel room)
            (Some there.func) c.numbers [] later) (next_in w.value))) k)).Holds one
        counts below =
            subst (λ (r : Result). (S.owing w.world r).Holds one)
            (sym (enter_is (body_set fs fuel room) there.func c.numbers [] later (next_in w.value)
            k))
            (on_load code heartbeat K one 0 31 levels_cell (pos z) (word.Int (pos S.levels))
            (next code one _ _ (to entry.label) second) shows_one.base shows_one.levels
            (entering code heartbeat z act fuel room back K two entry.label there.instrs there.end
            there.begins (behind code c.task.block (c.task.at + 1) _ _ (to entry.label) second) many
            base is_left few low shows_one.low
            (omega (arith, shows_one.top, there.has_room.room))
            (λ words_in beat_in many_in base_in.
            owes w (entered_with there.func c.numbers later)
            (record two {
              registers = words_in;
              stack = entered_stack z act.size room back c.task.stack;
              beat = beat_in;
              block = entry.label;
              at = 0;
            })
            (shows_callee code heartbeat z act fuel S names lowest has_room A kept next_in k room
            back
            entry w c there.most there.func words_in one.fuel later there.arity
            (omega (
              arith,
              there.params,
              length-map there.func.params.items
                  (λ (x : Name). x.text.items),
            )) there.has_room shows_one many_in base_in) refl refl)))
          where
            shows_one : ShowsIn code heartbeat z (wider act entry.size) fuel S w.world names later
                one
            shows_one = shows_ticked code heartbeat z (wider act entry.size) fuel S w.world c.shows
                below

            second : Remains code c.task.block (c.task.at + 1)
                (load 0 levels_cell ∷ call_given 0 act.size back (call_enters act.size))
                (to entry.label)
            second = behind code c.task.block c.task.at _ _ (to entry.label) stands

            many : length words ≡ 32
            many = length-set c.task.registers 0 (word.Int (pos S.levels)) ∙ c.shows.size

            base : register words 31 ≡ word.Int (pos z)
            base = register_other c.task.registers 0 31 (word.Int (pos S.levels))
                (λ (q : 31 ≡ 0). absurd (omega (arith, q))) ∙ c.shows.base

            is_left : register words 0 ≡ word.Int (pos (suc room))
            is_left = register_set c.task.registers 0 (word.Int (pos S.levels))
                (omega (arith, c.shows.size)) ∙ ap (λ n. word.Int (pos n)) levels

    -- from its arguments on, which are kept in the caller's activation
    pub passes_second : (w : Waiting) (task : machine.State) (many : ℕ) (ms : List ℤ)
        → length ms ≡ many → many ≡ entry.parameters → many ≤ MAX_PARAMETERS
        → kept_cell act (kept_by_both many) ≤ act.size
        → ShowsIn code heartbeat z (wider act entry.size) fuel S w.world names w.state task
        → AreIn task.stack z (kept_argument act) 0 ms → kept.Holds w.value task.stack
        → Remains code task.block task.at (passed_call code act many back) (to entry.label)
        → (S.owing w.world (then (result (with_call (call_at fs fuel (suc room) g.text.items g.place
        ms [] w.state) (next_in w.value))) k)).Holds task
    passes_second w task many ms as_many arity eight room_kept shows are also stands =
        passed_law code heartbeat z act entry.size fuel S w.world names lowest w.state K ms 0 rest
        (to entry.label) task shows here above are
        (λ p lt. omega (arith, lt, as_many, eight, room_kept))
        (λ p lt. omega (arith, lt, as_many, arity, there.arity, there.params, there.has_room.room))
        (λ last shows_last stored left.
        enters_second w (record {
          task = last;
          numbers = ms;
          shows = shows_last;
          many = as_many ∙ arity;
          stored = stored.are;
          also = kept.same shows.few w.value task.stack last.stack
              (λ c from below. stored.others c
              (λ j low_j high_j q. absurd (omega (arith, q, below)))) also;
        }) left)
      where
        K : Back code heartbeat
        K =
            S.owing w.world (then (result (with_call (call_at fs fuel (suc room) g.text.items
            g.place
            ms [] w.state) (next_in w.value))) k)

        rest : List Instr
        rest = instr.Tick ∷ load 0 levels_cell ∷ call_given 0 act.size back (call_enters act.size)

        here : Remains code task.block task.at (passed code act (length ms) 0 rest) (to entry.label)
        here =
            regrouped code task.block task.at (passed code act many 0 rest)
            (passed code act (length ms) 0 rest) (to entry.label)
            (ap (λ n. passed code act n 0 rest) (sym as_many)) stands

        above : value_cell (length names) ≤ act.size
        above = omega (arith, shows.few, has_room.room)

    -- from its activation on
    pub calls_second : (w : Waiting) (task : machine.State) (many : ℕ) (ms : List ℤ)
        → length ms ≡ many → many ≡ entry.parameters → many ≤ MAX_PARAMETERS
        → kept_cell act (kept_by_both many) ≤ act.size
        → z + (act.size + entry.size) ≤ 2 ^ 62
        → ShowsIn code heartbeat z act fuel S w.world names w.state task
        → AreIn task.stack z (kept_argument act) 0 ms → kept.Holds w.value task.stack
        → Remains code task.block task.at (second_call code act many entry.size back)
        (to entry.label)
        → (S.owing w.world (then (result (with_call (call_at fs fuel (suc room) g.text.items g.place
        ms [] w.state) (next_in w.value))) k)).Holds task
    calls_second w task many ms as_many arity eight room_kept high shows are also stands =
        on_salloc code heartbeat K task entry.size (next code task _ _ (to entry.label) stands)
        (omega (arith, shows.top, high))
        (passes_second w one many ms as_many arity eight room_kept
        (shows_pushed code heartbeat z act entry.size fuel S w.world names lowest w.state shows)
        (are_in_same task.stack one.stack z (kept_argument act) 0 ms
        (λ j from below. as_before (z + kept_argument act j)
        (omega (arith, below, as_many, eight, room_kept))) are)
        (kept.same shows.few w.value task.stack one.stack (λ c from below. as_before c below) also)
        (behind code task.block task.at _ _ (to entry.label) stands))
      where
        K : Back code heartbeat
        K =
            S.owing w.world (then (result (with_call (call_at fs fuel (suc room) g.text.items
            g.place
            ms [] w.state) (next_in w.value))) k)

        one : machine.State
        one = effect.with_stack (advanced task) (pushed task.stack entry.size)

        as_before : (a : ℕ) → a < z + act.size
            → word_at one.stack (pos a) ≡ word_at task.stack (pos a)
        as_before a below = cell_pushed task.stack entry.size a (omega (arith, below, shows.top))
