-- An iteration of a `par` that is cut between two iterations alone.
use Rattle.std.proofs.Common.{◌≡◌, ◌≢◌, ℕ, suc, ◌+◌, ◌<◌, ◌≤◌, Bool, true, List, [], ◌∷◌, ◌++◌}
use Rattle.std.proofs.Common.{length, take, Ok, refl, sym, ap, subst, ◌∙◌, arith}
use Rattle.std.specs.Prelude.{ℤ, pos, ◌+ℤ◌, slice_set}
use Rattle.std.specs.Int.{w64}
use Rattle.std.proofs.lemmas.Int.{ints, int_wrap_fits}
use Rattle.std.proofs.lemmas.List.{length-set}
use Rattle.beat_count.specs.BeatState.{BeatState}
use Rattle.beat_count.specs.Heartbeat.{counted}
use Rattle.beat_count.specs.Ticks.{ticked}
use Rattle.stack_marks.specs.Stacks.{StackValue, word_at, with_word}
use Rattle.tp_value.specs.declared.Stop.{Stop}
use Rattle.tp_value.specs.declared.Stop.TheVariants.{Done, Left, Trap, NoFuel}
use Rattle.loop_meaning.specs.declared.value.Variable.{Variable}
use Rattle.loop_meaning.specs.InRange.{InRange}
use Rattle.loop_meaning.specs.State as meaning
use Rattle.loop_meaning.specs.State.{Chance, Ran, after, declare, go_on, tick}
use Rattle.loop_meaning.specs.Statements.{iterate, iteration}
use Rattle.tpal_syntax.specs.declared.instructions.Alu.TheVariants as alu
use Rattle.tpal_syntax.specs.declared.instructions.Instr.{Instr}
use Rattle.tpal_syntax.specs.declared.instructions.Instr.TheVariants as instr
use Rattle.tpal_syntax.specs.declared.instructions.Term.{Term}
use Rattle.tpal_syntax.specs.declared.instructions.Value.TheVariants as value
use Rattle.tpal_syntax.specs.declared.words.Word.{Word}
use Rattle.tpal_syntax.specs.declared.words.Word.TheVariants as word
use Rattle.tpal_syntax.specs.Listing.{Listing}
use Rattle.tpal_machine.specs.Calculation.{calculated}
use Rattle.tpal_machine.specs.Effect as effect
use Rattle.tpal_machine.specs.Reading.{register, with_register}
use Rattle.tpal_machine.specs.State as machine
use Rattle.tpal_machine.specs.Step.{advanced}
use Rattle.tpal_machine.proofs.Kit.{Back, on_calc, on_load}
use Rattle.expr_lower.specs.Standing.{Remains}
use Rattle.expr_lower.proofs.Keeping.{register_set, register_other}
use Rattle.expr_lower.proofs.Standing.{next, behind}
use Rattle.handler_gen.proofs.Words.{word_other, word_same, words_as_many}
use Rattle.scene_laws.specs.Code.{below_test, load, next_turn, step_up, store, to}
use Rattle.scene_laws.specs.Layout.{Activation, bound_cell, levels_cell, value_cell}
use Rattle.form_laws.proofs.Forms.Choices.{leaving}
use Rattle.scene_laws.proofs.Scenes.Fixed.{fixed_same}
use Rattle.scene_laws.proofs.Cuts.Gaps.{IsGap, gap_next, next_in}
use Rattle.scene_laws.proofs.Merges.JoinsModes.{serves_within}
use Rattle.scene_laws.proofs.Scenes.Pieces.{Piece, Host, Apart}
use Rattle.scene_laws.proofs.Scenes.Results.{Result, end_by, left, result, then, then_end}
use Rattle.scene_laws.proofs.Scenes.Scene.{Owed, Scene, ShowsIn}
use Rattle.scene_laws.proofs.Scenes.Showing.{as_many, shows_declared, shows_left, shows_ticked}
use Rattle.form_laws.proofs.Forms.Simple.{stores}
use Rattle.form_laws.proofs.Forms.Ticks.{ticks}
use Rattle.par_laws.proofs.QuietPars.Turning.{KeptOf, ParAt, enough_of, outer_stable, pieces}
use Rattle.par_laws.proofs.QuietPars.Turning.{rec_is}
use Rattle.par_laws.proofs.QuietPars.Turning.{turning}
use Rattle.scene_laws.proofs.Scenes.Variables.{held_same, var_names}

-- ---- results, one behind another

after_by : (x : Stop) (r : Ran) (g : meaning.State → Ran) → r.stop ≡ x
    → result (go_on x r g) ≡ then_end r.notes (end_by x r.state) (λ s. result (g s))
after_by Done r g is = refl
after_by (Left number) r g is = rw is refl
after_by (Trap kind place) r g is = rw is refl
after_by NoFuel r g is = rw is refl

pub after_result : (r : Ran) (g : meaning.State → Ran)
    → result (after r g) ≡ then (result r) (λ s. result (g s))
after_result r g = after_by r.stop r g refl

module _ (code : Listing) (heartbeat z : ℕ) (act : Activation) (q : ParAt code act)
    (S : Scene code heartbeat z) (lowest : S.lowest ≤ length q.names) (k : meaning.State → Result)
    (vs : List Variable) (named : var_names vs ≡ q.names) where
  abbrev level : ℕ
  level = length q.names

  abbrev pub T : Bool → ℤ → ℤ → Scene code heartbeat z
  T marked m j = turning code heartbeat z act q S lowest k marked vs named m j

  pub enough_later : (m j : ℤ) (i : Piece S.World)
      → enough_of code heartbeat z act q S lowest vs i m j
      → enough_of code heartbeat z act q S lowest vs i (m +ℤ pos 1) j
  enough_later m j (Host w) enough = tt
  enough_later m j (Apart p) enough =
      serves_within q.modes q.loop vs m j p.region enough (m +ℤ pos 1) j (omega (arith, ints))
      (omega (arith, ints))

  module _ (fuel : ℕ) (marked : Bool) (m n j : ℤ) (i : Piece S.World) (st : meaning.State)
      (state : machine.State)
      (shows : ShowsIn code heartbeat z act fuel (T marked m j) i q.names st state) where
    many : length vs ≡ level
    many = as_many vs q.names named

    from : state.stack.base ≤ z + value_cell level
    from = omega (arith, shows.low)

    within : z + value_cell level < state.stack.base + length state.stack.cells
    within = omega (arith, shows.room, q.fits)

    -- the task with another number in the variable's cell
    abbrev pub stepped_stack : StackValue
    stepped_stack = with_word state.stack (pos (z + value_cell level)) (word.Int n)

    other : (a : ℕ) → a ≢ z + value_cell level
        → word_at stepped_stack (pos a) ≡ word_at state.stack (pos a)
    other a ne = word_other state.stack (z + value_cell level) a (word.Int n) from ne

    kept_next : enough_of code heartbeat z act q S lowest vs i n j
        → KeptOf code heartbeat z act q S lowest vs n j i stepped_stack
    kept_next enough = record {
      outer = outer_stable code heartbeat z act q S lowest i state.stack stepped_stack
          (record { base = refl; at = λ a lt others. other a (λ e. absurd (omega (arith, e, lt))) })
          shows.keeps.outer;
      rec = other (z + q.site.rec)
          (λ e. absurd (omega (arith, e, rec_is code heartbeat z act q S lowest, q.nested)))
          ∙ shows.keeps.rec;
      next = word_same state.stack (z + value_cell level) (word.Int n) from within;
      bound = other (z + bound_cell level) (λ e. absurd (omega (arith, e))) ∙ shows.keeps.bound;
      fixed = fixed_same q.loop.reduces.items state.stack stepped_stack z 0 vs
          (λ x below others. other (z + value_cell x) (λ e. absurd (omega (arith, e, below, many))))
          shows.keeps.fixed;
      enough = enough;
    }

    pub shows_next : (words : List Word) (beat : BeatState) (at : ℕ)
        → enough_of code heartbeat z act q S lowest vs i n j
        → length words ≡ length state.registers → register words 31 ≡ register state.registers 31
        → ShowsIn code heartbeat z act fuel (T marked n j) i q.names st
        (record state { registers = words; beat = beat; at = at; stack = stepped_stack })
    shows_next words beat at enough size base = record {
      size = size ∙ shows.size;
      base = base ∙ shows.base;
      limit = shows.limit;
      limited = shows.limited;
      tall = shows.tall;
      ticks = shows.ticks;
      within = shows.within;
      begun = shows.begun;
      printed = shows.printed;
      ends = shows.ends;
      free = shows.free;
      unmet = shows.unmet;
      marked = shows.marked;
      named = shows.named;
      few = shows.few;
      tabled = shows.tabled;
      held = shows.held;
      can = shows.can;
      ranged = shows.ranged;
      levels = other (z + levels_cell) (λ e. absurd (omega (arith, e))) ∙ shows.levels;
      unmarked = shows.unmarked;
      top = omega (
        arith,
        shows.top,
        words_as_many state.stack (z + value_cell level) (word.Int n),
      );
      low = shows.low;
      room = omega (
        arith,
        shows.room,
        words_as_many state.stack (z + value_cell level) (word.Int n),
      );
      vars = held_same state.stack stepped_stack z 0 st.vars
          (λ x low high. other (z + value_cell x)
          (λ e. absurd (omega (arith, e, high, as_many st.vars q.names shows.named)))) shows.vars;
      keeps = kept_next enough;
    }

  -- ---- the next number

  module _ (fuel : ℕ) (K : Back code heartbeat) (marked : Bool) (m j : ℤ) (i : Piece S.World)
      (st : meaning.State) (state : machine.State)
      (shows : ShowsIn code heartbeat z act fuel (T marked m j) i q.names st state) where
    abbrev stepped : List Word → BeatState → ℕ → machine.State
    stepped words beat at = record state {
      registers = words;
      beat = beat;
      at = at;
      stack = with_word state.stack (pos (z + value_cell level)) (word.Int (m +ℤ pos 1));
    }

    pub steps_on : (more : List Instr) (end : Term) → InRange (m +ℤ pos 1)
        → Remains code state.block state.at (step_up 1 level more) end
        → ((words : List Word) (beat : BeatState) (at : ℕ)
        → ShowsIn code heartbeat z act fuel (T marked (m +ℤ pos 1) j) i q.names st
        (stepped words beat at) → register words 1 ≡ word.Int (m +ℤ pos 1)
        → Remains code state.block at more end → K.Holds (stepped words beat at))
        → K.Holds state
    steps_on more end fits stands go =
        on_load code heartbeat K state 1 31 (value_cell level) (pos z) (word.Int m)
        (next code state _ _ end stands) shows.base shows.keeps.next
        (on_calc code heartbeat K loaded 1 1 alu.Add (value.Int (pos 1)) (word.Int (m +ℤ pos 1))
        (next code loaded _ _ end second) sum_is
        (stores code heartbeat z act fuel K added (value_cell level) (value.Reg 1) more end third
        (base_two ∙ shows.base) shows.low shows.room (omega (arith, q.fits))
        (subst (λ (w : Word). K.Holds (effect.with_stack (advanced added)
        (with_word state.stack (pos (z + value_cell level)) w))) (sym is_two)
        (go two (counted (counted (counted state.beat))) (state.at + 1 + 1 + 1)
        (shows_next fuel marked m (m +ℤ pos 1) j i st state shows two
        (counted (counted (counted state.beat))) (state.at + 1 + 1 + 1)
        (enough_later m j i shows.keeps.enough) size_two base_two)
        is_two (behind code state.block (state.at + 1 + 1) _ more end third)))))
      where
        loaded : machine.State
        loaded = with_register (advanced state) 1 (word.Int m)

        added : machine.State
        added = with_register (advanced loaded) 1 (word.Int (m +ℤ pos 1))

        one : List Word
        one = slice_set state.registers 1 (word.Int m)

        two : List Word
        two = slice_set one 1 (word.Int (m +ℤ pos 1))

        second : Remains code state.block (state.at + 1)
            (instr.Calc 1 1 alu.Add (value.Int (pos 1)) ∷ store (value_cell level) (value.Reg 1)
            ∷ more) end
        second = behind code state.block state.at _ _ end stands

        third : Remains code state.block (state.at + 1 + 1)
            (store (value_cell level) (value.Reg 1) ∷ more) end
        third = behind code state.block (state.at + 1) _ _ end second

        size_one : length one ≡ length state.registers
        size_one = length-set state.registers 1 (word.Int m)

        size_two : length two ≡ length state.registers
        size_two = length-set one 1 (word.Int (m +ℤ pos 1)) ∙ size_one

        is_one : register one 1 ≡ word.Int m
        is_one = register_set state.registers 1 (word.Int m) (omega (arith, shows.size))

        is_two : register two 1 ≡ word.Int (m +ℤ pos 1)
        is_two = register_set one 1 (word.Int (m +ℤ pos 1)) (omega (arith, shows.size, size_one))

        base_two : register two 31 ≡ register state.registers 31
        base_two =
            register_other one 1 31 (word.Int (m +ℤ pos 1)) (λ (e : 31 ≡ 1). absurd (omega
            (arith, e)))
            ∙ register_other state.registers 1 31 (word.Int m)
            (λ (e : 31 ≡ 1). absurd (omega (arith, e)))

        sum_is : calculated alu.Add (register loaded.registers 1) (word.Int (pos 1))
            ≡ Ok (word.Int (m +ℤ pos 1))
        sum_is = rw is_one (ap (λ e. Ok (word.Int e)) (int_wrap_fits w64 (m +ℤ pos 1) fits))

  -- ---- a turn

  module _ (fuel : ℕ) (x : List ℕ) (body : meaning.State → Ran) (inner : List (List ℕ))
      (first : take level inner ≡ q.names) (head over : ℕ) where
    -- so many iterations from a number on; where the first one begins, this is noted
    abbrev pub iterating : ℕ → ℤ → meaning.State → Ran
    iterating n m = iterate fuel x body (Chance ∷ []) (Chance ∷ []) n m

    abbrev pub turned : ℕ → ℤ → meaning.State → Ran
    turned n m = iterate fuel x body (Chance ∷ []) [] (suc n) m

    -- what a task owes behind the next number, with so many iterations to go
    abbrev pub AtTest : ℕ → Type 0
    AtTest n =
        (m j : ℤ) (i : Piece S.World) (st : meaning.State) (state : machine.State)
        → ShowsIn code heartbeat z act fuel (T true m j) i q.names st state → IsGap n m j
        → InRange m → InRange j → register state.registers 1 ≡ word.Int m
        → Remains code state.block state.at
        (load 0 (bound_cell level) ∷ below_test 1 (value.Reg 0) head) (to over)
        → ((pieces code heartbeat z act q S lowest k).owing i (result (iterating n m st))).Holds
        state

    -- the body of an iteration that begins with these instructions
    abbrev pub RunsBody : List Instr → Term → Type 0
    RunsBody instrs end =
        (m j : ℤ) (f : meaning.State → Result)
        → Owed code heartbeat z act fuel (T true m j) inner (next_turn level head) (to over) f
        → Owed code heartbeat z act fuel (T true m j) (q.names ++ x ∷ []) instrs end
        (λ st. then (result (body st)) f)

    -- what a task owes where one of so many iterations and one more begins
    abbrev pub AtTurn : ℕ → Type 0
    AtTurn n =
        (m j : ℤ) (i : Piece S.World) (st : meaning.State) (task : machine.State)
        → ShowsIn code heartbeat z act fuel (T true m j) i q.names st task → IsGap (suc n) m j
        → InRange m → InRange j → (instrs : List Instr) (end : Term) → RunsBody instrs end
        → Remains code task.block task.at (instr.Tick ∷ instrs) end
        → ((pieces code heartbeat z act q S lowest k).owing i (result (turned n m st))).Holds task

    pub a_turn : (n : ℕ) → AtTest n → AtTurn n
    unfolding iterate
    a_turn n goes m j i st task shows gap in_m in_j instrs end runs stands =
        subst (λ (r : Result). ((T true m j).owing i r).Holds task)
        (sym (after_result (iteration fuel x body [] m st) (iterating n (m +ℤ pos 1))))
        (leaving code heartbeat z act fuel (T true m j) i q.names st task
        (λ t. after (tick fuel t) begun) st follows (as_many st.vars q.names shows.named)
        (ticks code heartbeat z act fuel (T true m j) i q.names st task shows instrs end begun
        (λ s. follows (left level s)) stands
        (λ below.
        runs m j (λ s. follows (left level s)) behind_body i
        (record later { vars = declare later.vars x m }) after_tick
        (shows_declared code heartbeat z act fuel (T true m j) i
        (shows_ticked code heartbeat z act fuel (T true m j) i shows below) x m q.fits
        shows.keeps.next in_m)
        (behind code task.block task.at instr.Tick instrs end stands))))
      where
        after_tick : machine.State
        after_tick = effect.with_tick (advanced task)

        later : meaning.State
        later = record st { ticks = ticked fuel st.ticks }

        begun : meaning.State → Ran
        begun t = body (record t { vars = declare t.vars x m })

        follows : meaning.State → Result
        follows s = result (iterating n (m +ℤ pos 1) s)

        behind_body : Owed code heartbeat z act fuel (T true m j) inner (next_turn level head)
            (to over) (λ s. follows (left level s))
        behind_body w s done_task shows_done stands_done =
            steps_on fuel ((T true m j).owing w (follows (left level s))) true m j w (left level s)
            done_task
            (shows_left code heartbeat z act fuel (T true m j) w shows_done level q.names first)
            (load 0 (bound_cell level) ∷ below_test 1 (value.Reg 0) head) (to over)
            (next_in n m j gap in_m in_j) stands_done
            (λ words beat at shows_up is_up left_up.
            goes (m +ℤ pos 1) j w (left level s) _ shows_up (gap_next n m j gap)
            (next_in n m j gap in_m in_j) in_j is_up left_up)
