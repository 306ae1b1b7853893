-- The turns of a loop: the test, the next number, and the body.
use Rattle.std.proofs.Common.{◌≡◌, ℕ, zero, suc, ◌+◌, ◌<◌, ◌≤◌, Bool, true, false, List, [], ◌∷◌}
use Rattle.std.proofs.Common.{◌++◌, length, take, Option, Some, Ok, refl, sym, ap, subst, ◌∙◌}
use Rattle.std.proofs.Common.{arith}
use Rattle.std.specs.Prelude.{ℤ, pos, ◌+ℤ◌, int_lt, slice_set}
use Rattle.std.specs.Int.{w64}
use Rattle.std.proofs.lemmas.Int.{int_wrap_fits}
use Rattle.std.proofs.lemmas.List.{length-set}
use Rattle.beat_count.specs.BeatState.{BeatState}
use Rattle.beat_count.specs.Heartbeat.{counted}
use Rattle.beat_count.specs.Ticks.{ticked}
use Rattle.stack_marks.specs.Stacks.{StackValue, word_at, with_word}
use Rattle.tp_value.specs.Number.{truth}
use Rattle.loop_syntax.specs.declared.Stmt.{Stmt}
use Rattle.loop_meaning.specs.InRange.{InRange}
use Rattle.loop_meaning.specs.State as meaning
use Rattle.loop_meaning.specs.State.{Ran, after, declare, tick}
use Rattle.loop_meaning.specs.Statements.{Setting, run_list, iterate, iteration}
use Rattle.tpal_syntax.specs.declared.instructions.Alu.TheVariants as alu
use Rattle.tpal_syntax.specs.declared.instructions.Instr.{Instr}
use Rattle.tpal_syntax.specs.declared.instructions.Instr.TheVariants as instr
use Rattle.tpal_syntax.specs.declared.instructions.Term.{Term}
use Rattle.tpal_syntax.specs.declared.instructions.Value as operands
use Rattle.tpal_syntax.specs.declared.instructions.Value.TheVariants as value
use Rattle.tpal_syntax.specs.declared.words.Word.{Word}
use Rattle.tpal_syntax.specs.declared.words.Word.TheVariants as word
use Rattle.tpal_syntax.specs.Listing.{Listing}
use Rattle.tpal_machine.specs.Calculation.{calculated}
use Rattle.tpal_machine.specs.Effect as effect
use Rattle.tpal_machine.specs.Reading.{register, operand, with_register}
use Rattle.tpal_machine.specs.State as machine
use Rattle.tpal_machine.specs.Step.{advanced}
use Rattle.tpal_machine.proofs.Kit.{Back, on_calc, on_load, on_if, on_if_not}
use Rattle.expr_lower.specs.Leaving.{moved, moved_to}
use Rattle.expr_lower.specs.Standing.{Remains}
use Rattle.expr_lower.proofs.Keeping.{register_set, register_other}
use Rattle.expr_lower.proofs.Standing.{next, behind}
use Rattle.handler_gen.proofs.Words.{word_same}
use Rattle.scene_laws.specs.Code.{Opens, to, store, below_test, step_up}
use Rattle.scene_laws.specs.Layout.{value_cell, Activation}
use Rattle.form_laws.proofs.Forms.Choices.{enters_seen, leaving}
use Rattle.scene_laws.proofs.Cuts.Gaps.{IsGap, gap_next, gap_more, gap_none, next_in}
use Rattle.scene_laws.proofs.Scenes.Moves.{opened, calm, jumps}
use Rattle.scene_laws.proofs.Scenes.Results.{Result, result, then, left, after_then}
use Rattle.scene_laws.proofs.Scenes.Scene.{Scene, Shows, SeenIn, OwedSeen, seen}
use Rattle.scene_laws.proofs.Scenes.Showing.{as_many, shows_low, shows_declared, shows_ticked}
use Rattle.scene_laws.proofs.Scenes.Showing.{shows_left}
use Rattle.form_laws.proofs.Forms.Simple.{low_there, room_there, seen_above, seen_new, stores}
use Rattle.form_laws.proofs.Forms.Ticks.{ticks}
use Rattle.form_laws.proofs.Forms.LoopScenes.{BoundHeld, bound_stays, bound_there, inside, shows_in}
use Rattle.form_laws.proofs.Forms.LoopScenes.{shows_out}

module _ (code : Listing) (heartbeat z : ℕ) (act : Activation) (fuel : ℕ) (S : Scene code heartbeat
    z) (i : S.World) (names : List (List ℕ)) (st : meaning.State) (state : machine.State) (shows :
    SeenIn code heartbeat z act fuel S i names st state) where
  abbrev Showing : machine.State → Type 0
  Showing task = SeenIn code heartbeat z act fuel S i names st task

  tests_below : (r : Result) (counter : ℕ) (bound : operands.Value) (again exit : ℕ) (instrs more :
      List Instr) (last end : Term) (m j : ℤ) → register state.registers counter ≡ word.Int m →
      operand state.registers bound ≡ word.Int j
      → Remains code state.block state.at (below_test counter bound again) (to exit) → Opens code
      again instrs last → Opens code exit more end
      → (int_lt m j ≡ true → (words : List Word) (beat : BeatState) → Showing (moved_to state words
      beat again 0) → (S.owing i r).Holds (moved_to state words beat again 0))
      → (int_lt m j ≡ false → (words : List Word) (beat : BeatState) → Showing (moved_to state words
      beat exit 0) → (S.owing i r).Holds (moved_to state words beat exit 0))
      → (S.owing i r).Holds state
  tests_below r counter bound again exit instrs more last end m j is_counter is_bound stands begins
      ends yes_go no_go =
      on_calc code heartbeat (S.owing i r) state 0 counter alu.Lt bound (word.Int (truth (int_lt m
      j))) (next code state _ (instr.IfJump 0 again ∷ []) (to exit) stands) (rw (
        is_counter,
        is_bound,
      ) refl) (by_test (int_lt m j) refl)
    where
      words_by : Bool → List Word
      words_by b = slice_set state.registers 0 (word.Int (truth b))

      shows_by : (b : Bool) → Shows code heartbeat z act fuel S i names st (words_by b)
          (seen code heartbeat z act fuel S (words_by b) state.stack) state.tables state.fuel
          state.output state.goal (state.pending, state.met)
      shows_by b = shows_low code heartbeat z act fuel S i state.stack shows (words_by b)
          (length-set state.registers 0 (word.Int (truth b)))
          (λ r from. register_other state.registers 0 r (word.Int (truth b))
          (λ (q : r ≡ 0). absurd (omega (arith, q, from))))

      is_by : (b : Bool) → register (words_by b) 0 ≡ word.Int (truth b)
      is_by b = register_set state.registers 0 (word.Int (truth b)) (omega (arith, shows.size))

      tested : Remains code state.block (state.at + 1) (instr.IfJump 0 again ∷ []) (to exit)
      tested = behind code state.block state.at _ (instr.IfJump 0 again ∷ []) (to exit) stands

      by_test : (b : Bool) → int_lt m j ≡ b → (S.owing i r).Holds (with_register (advanced state) 0
          (word.Int (truth b)))
      by_test true is =
          on_if code heartbeat (S.owing i r) (with_register (advanced state) 0 (word.Int (pos 1))) 0
          again (pos 1) (next code (with_register (advanced state) 0 (word.Int (pos 1)))
          (instr.IfJump 0 again) [] (to exit) tested) (is_by true) refl (calm code again instrs
          last begins)
          (yes_go is (words_by true) (counted (counted state.beat)) (shows_by true))
      by_test false is =
          on_if_not code heartbeat (S.owing i r) (with_register (advanced state) 0 (word.Int (pos
          0))) 0 again (next code (with_register (advanced state) 0 (word.Int (pos 0)))
          (instr.IfJump 0 again) [] (to exit) tested) (is_by false)
          (jumps code heartbeat (S.owing i r) (advanced (with_register (advanced state) 0 (word.Int
          (pos 0)))) exit more end (behind code state.block (state.at + 1) (instr.IfJump 0
          again) [] (to exit) tested) ends
          (no_go is (words_by false) (counted (counted (counted state.beat))) (shows_by false)))

  -- the task with the next number in the variable's cell
  abbrev stepped : ℤ → List Word → BeatState → ℕ → machine.State
  stepped m words beat at = record state {
    registers = words;
    beat = beat;
    at = at;
    stack =
        with_word state.stack (pos (z + value_cell (length names))) (word.Int m);
  }

  steps_up : (K : Back code heartbeat) (counter : ℕ) (more : List Instr) (end : Term) (m : ℤ) →
      counter < 24 → S.lowest ≤ length names → length names < act.most → word_at state.stack (pos (z
      + value_cell (length names))) ≡ Some (word.Int m) → InRange (m +ℤ pos 1)
      → Remains code state.block state.at (step_up counter (length names) more) end
      → ((words : List Word) (beat : BeatState) (at : ℕ) → Showing (stepped (m +ℤ pos 1) words beat
      at) → register words counter ≡ word.Int (m +ℤ pos 1) → Remains code state.block at more
      end → K.Holds (stepped (m +ℤ pos 1) words beat at))
      → K.Holds state
  steps_up K counter more end m small lowest room held fits stands go =
      on_load code heartbeat K state counter 31 (value_cell (length names)) (pos z) (word.Int m)
      (next code state _ _ end stands) shows.base held
      (on_calc code heartbeat K loaded counter counter alu.Add (value.Int (pos 1)) (word.Int (m +ℤ
      pos 1)) (next code loaded _ _ end second) sum_is
      (stores code heartbeat z act fuel K added (value_cell (length names)) (value.Reg counter) more
      end third base_two (low_there code heartbeat z act fuel S i names st state shows) (room_there
      code heartbeat z act fuel S i names st state shows) (omega arith)
      (subst (λ (w : Word). K.Holds (effect.with_stack (advanced added) (with_word state.stack (pos
      (z + value_cell (length names))) w))) (sym is_two)
      (go two (counted (counted (counted state.beat))) (state.at + 1 + 1 + 1)
      (seen_new code heartbeat z act fuel S i names st added
      (shows_low code heartbeat z act fuel S i
      state.stack shows two size_two high_two) (value_cell (length names)) (word.Int (m +ℤ pos 1))
      (omega arith)
      lowest)
      is_two (behind code state.block (state.at + 1 + 1) _ more end third)))))
    where
      loaded : machine.State
      loaded = with_register (advanced state) counter (word.Int m)

      added : machine.State
      added = with_register (advanced loaded) counter (word.Int (m +ℤ pos 1))

      two : List Word
      two = slice_set (slice_set state.registers counter (word.Int m)) counter (word.Int (m +ℤ pos
          1))

      second : Remains code state.block (state.at + 1) (instr.Calc counter counter alu.Add
          (value.Int (pos 1)) ∷ store (value_cell (length names)) (value.Reg counter) ∷ more) end
      second = behind code state.block state.at _ _ end stands

      third : Remains code state.block (state.at + 1 + 1) (store (value_cell (length names))
          (value.Reg counter) ∷ more) end
      third = behind code state.block (state.at + 1) _ _ end second

      size_one : length (slice_set state.registers counter (word.Int m)) ≡ length state.registers
      size_one = length-set state.registers counter (word.Int m)

      size_two : length two ≡ length state.registers
      size_two = length-set (slice_set state.registers counter (word.Int m)) counter (word.Int (m +ℤ
          pos 1)) ∙ size_one

      is_one : register (slice_set state.registers counter (word.Int m)) counter ≡ word.Int m
      is_one = register_set state.registers counter (word.Int m) (omega (arith, shows.size))

      is_two : register two counter ≡ word.Int (m +ℤ pos 1)
      is_two = register_set (slice_set state.registers counter (word.Int m)) counter (word.Int (m +ℤ
          pos 1)) (omega (arith, shows.size, size_one))

      high_two : (r : ℕ) → 24 ≤ r → register two r ≡ register state.registers r
      high_two r from =
          register_other (slice_set state.registers counter (word.Int m)) counter r (word.Int (m +ℤ
          pos 1)) (λ (q : r ≡ counter). absurd (omega (arith, q, from, small)))
          ∙ register_other state.registers counter r (word.Int m) (λ (q : r ≡ counter). absurd
          (omega (arith, q, from, small)))

      base_two : register two 31 ≡ word.Int (pos z)
      base_two = high_two 31 (omega arith) ∙ shows.base

      sum_is : calculated alu.Add (register loaded.registers counter) (word.Int (pos 1)) ≡ Ok
          (word.Int (m +ℤ pos 1))
      sum_is = rw is_one (ap (λ n. Ok (word.Int n)) (int_wrap_fits w64 (m +ℤ pos 1) fits))

-- ---- the turns of a loop

module _ (code : Listing) (heartbeat z : ℕ) (act : Activation) (set : Setting) (S : Scene code
    heartbeat z) (names inner : List (List ℕ)) (lowest : S.lowest ≤ length names) (room : length
    names < act.most) (first : take (length names) inner ≡ names) (k : meaning.State → Result)
    (x : List ℕ) (body : List Stmt) (counter : ℕ) (small : counter < 24) (bound : operands.Value)
    (held : Option ℤ) (j : ℤ) (in_j : InRange j) (again exit : ℕ) (instrs reload more : List
    Instr) (last end : Term)
    (begins : Opens code again (instr.Tick ∷ instrs) last) (ends : Opens code exit more end)
    (post : OwedSeen code heartbeat z act set.fuel S names more end k)
    (body_law : (m : ℤ) (f : meaning.State → Result) → OwedSeen code heartbeat z act set.fuel
    (inside
    code heartbeat z S (length names) lowest m held) inner (step_up counter (length names)
    reload) (to exit) f
    → OwedSeen code heartbeat z act set.fuel
    (inside code heartbeat z S (length names) lowest m held)
    (names ++ x ∷ []) instrs last (λ st. then (result (run_list set body st)) f))
    (reloads : (K : Back code heartbeat) (i : S.World) (st : meaning.State) (state : machine.State)
    (m : ℤ) → SeenIn code heartbeat z act set.fuel S i names st state → BoundHeld z (length
    names) held state.stack → register state.registers counter ≡ word.Int m → Remains code
    state.block state.at reload (to exit)
    → ((words : List Word) (beat : BeatState) (at : ℕ) → SeenIn code heartbeat z act set.fuel S i
    names st (moved state words beat at) → register words counter ≡ word.Int m → operand words
    bound ≡ word.Int j → Remains code state.block at (below_test counter bound again) (to exit)
    → K.Holds (moved state words beat at))
    → K.Holds state) where
  abbrev pub iterating : ℕ → ℤ → meaning.State → Ran
  iterating n m = iterate set.fuel x (run_list set body) [] [] n m

  -- what a task owes at the test, with so many turns to go
  abbrev pub AtTest : ℕ → Type 0
  AtTest n =
      (m : ℤ) (i : S.World) (st : meaning.State) (state : machine.State) → SeenIn code heartbeat z
      act set.fuel S i names st state → IsGap n m j → InRange m
      → register state.registers counter ≡ word.Int m → operand state.registers bound ≡ word.Int j →
      word_at state.stack (pos (z + value_cell (length names))) ≡ Some (word.Int m) → BoundHeld
      z (length names) held state.stack
      → Remains code state.block state.at (below_test counter bound again) (to exit) → (S.owing i
      (then (result (iterating n m st)) k)).Holds state

  -- one turn, and what follows it
  a_turn : (n : ℕ) → AtTest n → (m : ℤ) (i : S.World) (st : meaning.State) → IsGap (suc n) m j →
      InRange m → (task : machine.State) → SeenIn code heartbeat z act set.fuel S i names st task →
      task.block ≡ again → task.at ≡ 0
      → word_at task.stack (pos (z + value_cell (length names))) ≡ Some (word.Int m) → BoundHeld z
      (length names) held task.stack → (S.owing i (then (result (iterate set.fuel x (run_list
      set body) [] [] (suc n) m st)) k)).Holds task
  unfolding iterate
  a_turn n goes m i st gap in_m task shows_task at_label at_begin cell_is bound_held =
      let begun : Remains code again 0 (instr.Tick ∷ instrs) last = opened code again (instr.Tick ∷
      instrs) last begins in
      let here : Remains code task.block task.at (instr.Tick ∷ instrs) last = rw (
        at_label,
        at_begin,
      ) begun in
      let after_tick : machine.State = effect.with_tick (advanced task) in
      let later : meaning.State = record st { ticks = ticked set.fuel st.ticks } in
      subst (λ (r : Result). (S.owing i r).Holds task) (sym (after_then (iteration set.fuel x
      (run_list set body) [] m st) (iterating n (m +ℤ pos 1)) k))
      (leaving code heartbeat z act set.fuel S i names st task (λ t. after (tick set.fuel t) G) st
      follows (as_many st.vars names shows_task.named)
      (ticks code heartbeat z act set.fuel S i names st task shows_task instrs last G (λ s. follows
      (left (length names) s)) here
      (λ below.
      let ticked_shows : SeenIn code heartbeat z act set.fuel S i names later after_tick =
      shows_ticked code heartbeat z act set.fuel S i shows_task below in
      let with_variable : SeenIn code heartbeat z act set.fuel S i (names ++ x ∷ []) (record later
      { vars = declare later.vars x m }) after_tick = shows_declared code heartbeat z act
      set.fuel S i ticked_shows x m room (seen_above code heartbeat z act set.fuel S task.registers
      task.stack (value_cell (length names)) (low_there code heartbeat z act set.fuel S i names st
      task
      shows_task) (omega (arith, lowest)) ∙ cell_is) in_m in
      body_law m (λ s. follows (left (length names) s))
      (λ w s done_task shows_done stands_done.
      let shows_s : SeenIn code heartbeat z act set.fuel S w names (left (length names) s)
      done_task =
      shows_left code heartbeat z act set.fuel S w (shows_out code heartbeat z act set.fuel S
      (length names) lowest m held w inner s done_task shows_done) (length names) names first in
      let low : done_task.stack.base ≤ z = low_there code heartbeat z act set.fuel S w names (left
      (length names) s) done_task shows_s in
      steps_up code heartbeat z act set.fuel S w names (left (length names) s) done_task shows_s
      (S.owing w (follows (left (length names) s))) counter reload (to exit) m small lowest room
      (sym (seen_above code heartbeat z act set.fuel S done_task.registers done_task.stack
      (value_cell
      (length names)) low (omega (arith, lowest))) ∙ shows_done.keeps.1)
      (next_in n m j gap in_m in_j)
      stands_done
      (λ words beat at shows_up is_up left_up.
      let stack : StackValue = with_word done_task.stack (pos (z + value_cell (length names)))
      (word.Int (m +ℤ pos 1)) in
      let up : machine.State = record done_task {
        registers = words;
        beat = beat;
        at = at;
        stack =
            stack;
      } in
      let from : done_task.stack.base ≤ z + value_cell (length names) = omega (arith, low) in
      let within : z + value_cell (length names) < done_task.stack.base + length
      done_task.stack.cells = omega (
        arith,
        room_there code heartbeat z act set.fuel S w names (left
            (length names) s) done_task shows_s,
        room,
      ) in
      let cell_up : word_at stack (pos (z + value_cell (length names))) ≡ Some (word.Int (m +ℤ pos
      1)) = word_same done_task.stack (z + value_cell (length names)) (word.Int (m +ℤ pos 1))
      from within in
      let bound_up : BoundHeld z (length names) held stack = bound_stays z (length names) held
      done_task.stack (word.Int (m +ℤ pos 1)) low (bound_there code heartbeat z act set.fuel S
      (length names) lowest held done_task.registers done_task.stack low shows_done.keeps.2) in
      reloads (S.owing w (follows (left (length names) s))) w (left (length names) s) up (m +ℤ pos
      1) shows_up bound_up is_up left_up
      (λ words_r beat_r at_r shows_r is_r bound_r left_r.
      goes (m +ℤ pos 1) w (left (length names) s) (moved up words_r beat_r at_r) shows_r (gap_next n
      m j gap) (next_in n m j gap in_m in_j) is_r bound_r cell_up bound_up left_r)))
      i (record later { vars = declare later.vars x m }) after_tick
      (shows_in code heartbeat z act set.fuel S (length names) lowest m held i (names ++ x ∷ [])
      (record later { vars = declare later.vars x m }) after_tick with_variable cell_is
      bound_held)
      (behind code task.block task.at instr.Tick instrs last here))))
    where
      follows : meaning.State → Result
      follows s = then (result (iterating n (m +ℤ pos 1) s)) k

      G : meaning.State → Ran
      G t = run_list set body (record t { vars = declare t.vars x m })

  pub loop_at : (n : ℕ) → AtTest n
  unfolding iterate
  loop_at zero m i st state shows gap in_m is_counter is_bound cell bound_is stands =
      let under : int_lt m j ≡ false = gap_none m j gap in
      tests_below code heartbeat z act set.fuel S i names st state shows (k st) counter bound again
      exit (instr.Tick ∷ instrs) more last end m j is_counter is_bound stands begins ends
      (λ is words beat shows_it. cc)
      (λ is words beat shows_it. enters_seen code heartbeat z act set.fuel S names exit more end k
      ends
      post i st (moved_to state words beat exit 0) shows_it refl refl)
  loop_at (suc n) m i st state shows gap in_m is_counter is_bound cell bound_is stands =
      let over : int_lt m j ≡ true = gap_more n m j gap in
      tests_below code heartbeat z act set.fuel S i names st state shows (then (result (iterating
      (suc n) m st)) k) counter bound again exit (instr.Tick ∷ instrs) more last end m j
      is_counter is_bound stands begins ends
      (λ is words beat shows_it. a_turn n (loop_at n) m i st gap in_m (moved_to state words beat
      again 0) shows_it refl refl cell bound_is)
      (λ is words beat shows_it. cc)
