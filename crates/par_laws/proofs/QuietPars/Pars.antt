-- The law of `par`: a loop, behind a test of its length.
use Rattle.std.proofs.Common.{◌≡◌, ℕ, zero, suc, ◌+◌, ◌<◌, ◌≤◌, ◌%◌, Bool, true, false, List, []}
use Rattle.std.proofs.Common.{◌∷◌, length, Some, Ok, refl, sym, ap, subst, ◌∙◌, arith}
use Rattle.std.specs.Prelude.{ℤ, pos, ◌-ℤ◌, ◌+ℤ◌, int_lt, int_le, nat_lt, not, slice_set}
use Rattle.std.specs.Prelude.{Option}
use Rattle.std.specs.Int.{int_gap, int_wrap, w64}
use Rattle.std.proofs.lemmas.Bool.{true≢false}
use Rattle.std.proofs.lemmas.Bool.Decides.{nat_tests}
use Rattle.std.proofs.lemmas.Int.{ints, int_wrap_fits}
use Rattle.std.proofs.lemmas.List.{length-set}
use Rattle.tp_value.specs.Number.{truth, wrapped}
use Rattle.tp_value.specs.declared.Place.{Place}
use Rattle.tp_value.specs.declared.limits.TheConstants.{MAX_PAR_LENGTH}
use Rattle.tp_value.specs.declared.Stop.{Stop}
use Rattle.tp_value.specs.declared.Stop.TheVariants.{Done, Left, NoFuel, Trap}
use Rattle.tp_value.specs.declared.TrapKind.TheVariants.{Wide}
use Rattle.beat_count.specs.BeatState.{BeatState}
use Rattle.beat_count.specs.Heartbeat.{counted}
use Rattle.stack_marks.specs.Stacks.{StackValue, word_at}
use Rattle.loop_syntax.specs.declared.ParLoop.{ParLoop}
use Rattle.loop_syntax.specs.declared.Expr.{Expr}
use Rattle.loop_syntax.specs.declared.Stmt.TheBlock.{hidden-the_row-Stmt-0}
use Rattle.loop_syntax.specs.declared.Stmt.TheVariants.{Par}
use Rattle.loop_meaning.specs.InRange.{InRange}
use Rattle.loop_meaning.specs.State as meaning
use Rattle.loop_meaning.specs.Expressions.{eval}
use Rattle.loop_meaning.specs.Leaving.{caught, caught_by, left_in}
use Rattle.loop_meaning.specs.State.{Chance, Note, Ran, done, noted}
use Rattle.loop_meaning.specs.Statements.{Setting, given, given_answer, given_two, iterate, run}
use Rattle.loop_meaning.specs.Statements.{run_list, too_wide, unless_wide}
use Rattle.loop_meaning.specs.declared.value.Answer.{Answer}
use Rattle.loop_meaning.specs.declared.value.Answer.TheVariants.{Number, Traps}
use Rattle.loop_meaning.proofs.Runs.{vec_list}
use Rattle.tpal_syntax.specs.declared.instructions.Alu.{Alu}
use Rattle.tpal_syntax.specs.declared.instructions.Alu.TheVariants as alu
use Rattle.tpal_syntax.specs.declared.instructions.Instr.{Instr}
use Rattle.tpal_syntax.specs.declared.instructions.Instr.TheVariants as instr
use Rattle.tpal_syntax.specs.declared.instructions.Term.{Term}
use Rattle.tpal_syntax.specs.declared.instructions.Value as operands
use Rattle.tpal_syntax.specs.declared.instructions.Value.TheVariants as value
use Rattle.tpal_syntax.specs.declared.words.Word.{Word}
use Rattle.tpal_syntax.specs.declared.words.Word.TheVariants as word
use Rattle.tpal_syntax.specs.Conditions.{is_ready}
use Rattle.tpal_syntax.specs.Listing.{Listing}
use Rattle.tpal_machine.specs.Calculation.{calculated}
use Rattle.tpal_machine.specs.Reading.{register, operand, note_of, with_register}
use Rattle.tpal_machine.specs.State as machine
use Rattle.tpal_machine.specs.Step.{advanced, at_block}
use Rattle.tpal_machine.proofs.Kit.{Back, IsCalm, on_calc, on_if, on_if_not}
use Rattle.expr_lower.specs.Bodies.{trap_block}
use Rattle.expr_lower.specs.Leaving.{moved}
use Rattle.expr_lower.specs.Standing.{Remains, AreAt}
use Rattle.expr_lower.proofs.Keeping.{register_set, register_other}
use Rattle.expr_lower.proofs.Standing.{next, behind}
use Rattle.scene_laws.specs.Code.{Computes, Opens, to, store, load}
use Rattle.scene_laws.specs.Layout.{value_cell, bound_cell, Activation}
use Rattle.scene_laws.specs.Marked.{length_test}
use Rattle.form_laws.proofs.Forms.Choices.{enters}
use Rattle.scene_laws.proofs.Cuts.Gaps.{IsGap, gap_is, gap_none, gap_more}
use Rattle.form_laws.proofs.Forms.LoopScenes.{inside}
use Rattle.form_laws.proofs.Forms.Loops.{bounds_bare}
use Rattle.scene_laws.proofs.Scenes.Moves.{opened, calm, jumps, traps}
use Rattle.scene_laws.proofs.Scenes.Results.{Result, out, result, then}
use Rattle.scene_laws.proofs.Scenes.Scene.{Scene, ShowsIn, Owed}
use Rattle.scene_laws.proofs.Scenes.Showing.{shows_words}
use Rattle.scene_laws.proofs.Scenes.Values.{ExprLaw}

-- ---- a difference of 64 bits

short_is : (n : ℕ) → n < 9223372036854775808 → wrapped (pos n) ≡ pos n
short_is n small = int_wrap_fits w64 (pos n) (omega (arith, ints))

long_is : (n : ℕ) → n < 18446744073709551616 → 9223372036854775808 ≤ n → int_lt (wrapped (pos n)) (pos 0) ≡ true
unfolding int_wrap
long_is n small large =
    let same : n % 18446744073709551616 ≡ n = omega arith in
    rw same (grind (arith, ints))

gap_small : (n : ℕ) (m j : ℤ) → InRange m → InRange j → j ≡ m +ℤ pos n → n < 18446744073709551616
gap_small n m j in_m in_j is = omega (arith, ints)

difference : (n : ℕ) (m j : ℤ) → j ≡ m +ℤ pos n → j -ℤ m ≡ pos n
difference n m j is = omega (arith, ints)

-- a difference that isn't too wide passes both tests
narrow_first : (n : ℕ) → nat_lt MAX_PAR_LENGTH n ≡ false → int_lt (wrapped (pos n)) (pos 0) ≡ false
narrow_first n narrow =
    let small : n ≤ MAX_PAR_LENGTH = grind (arith, nat_tests) in
    ap (λ d. int_lt d (pos 0)) (short_is n (omega (arith, small))) ∙ grind (arith, nat_tests)

narrow_second : (n : ℕ) → nat_lt MAX_PAR_LENGTH n ≡ false → int_le (wrapped (pos n)) (pos MAX_PAR_LENGTH) ≡ true
narrow_second n narrow =
    let small : n ≤ MAX_PAR_LENGTH = grind (arith, nat_tests) in
    ap (λ d. int_le d (pos MAX_PAR_LENGTH)) (short_is n (omega (arith, small))) ∙ grind (arith, nat_tests)

-- one that is too wide and passes the first test doesn't pass the second
wide_second : (n : ℕ) → n < 18446744073709551616 → nat_lt MAX_PAR_LENGTH n ≡ true → int_lt (wrapped (pos n)) (pos 0) ≡ false → int_le (wrapped (pos n)) (pos MAX_PAR_LENGTH) ≡ false
wide_second n small wide passes = by_size (nat_lt n 9223372036854775808) refl
  where
    by_size : (b : Bool) → nat_lt n 9223372036854775808 ≡ b → int_le (wrapped (pos n)) (pos MAX_PAR_LENGTH) ≡ false
    by_size true is =
        let below : n < 9223372036854775808 = grind (arith, nat_tests) in
        let over : MAX_PAR_LENGTH < n = grind (arith, nat_tests) in
        ap (λ d. int_le d (pos MAX_PAR_LENGTH)) (short_is n below) ∙ grind (arith, nat_tests)
    by_size false is =
        let above : 9223372036854775808 ≤ n = grind (arith, nat_tests) in
        absurd (true≢false (sym (long_is n small above) ∙ passes))

-- ---- the run

-- the iterations of a `par`, and these where the one that is left is caught
abbrev pub all_of : Setting → ParLoop → ℤ → ℤ → meaning.State → Ran
all_of set l i j =
    iterate set.fuel l.var.text.items (run_list (record set { reduces = l.reduces.items }) l.body.items)
    (Chance ∷ []) [] (int_gap i j) i

abbrev caught_all : Setting → ParLoop → ℤ → ℤ → meaning.State → Ran
caught_all set l i j t = caught (left_in (hidden-the_row-Stmt-0 l.body)) (all_of set l i j t)

-- none of them is left, whatever the state
abbrev pub NeverLeft : Setting → ParLoop → Type 0
NeverLeft set l =
    (i j : ℤ) (t : meaning.State) (number : ℤ) → (all_of set l i j t).stop ≡ Left number → ⊥

-- a run that isn't left has nothing to be caught
caught_none : (target : Option (List ℕ)) (r : Ran) (x : Stop) → r.stop ≡ x
    → ((number : ℤ) → r.stop ≡ Left number → ⊥) → caught_by x target r ≡ r
caught_none target r Done is never = refl
caught_none target r (Left number) is never = absurd (never number is)
caught_none target r (Trap kind place) is never = refl
caught_none target r NoFuel is never = refl

given_same : (a : Answer) (ns : List Note) (st : meaning.State) (f g : ℤ → Ran)
    → ((n : ℤ) → f n ≡ g n) → given_answer a ns st f ≡ given_answer a ns st g
given_same (Number n) ns st f g same = ap (noted ns) (same n)
given_same (Traps kind place) ns st f g same = refl

value_same : (e : Expr) (st : meaning.State) (f g : ℤ → Ran) → ((n : ℤ) → f n ≡ g n)
    → given e st f ≡ given e st g
value_same e st f g same =
    given_same (eval st.vars st.tables e).answer (eval st.vars st.tables e).notes st f g same

wide_same : (b : Bool) (place : Place) (f g : meaning.State → Ran) (st : meaning.State)
    → f st ≡ g st → unless_wide b place f st ≡ unless_wide b place g st
wide_same true place f g st same = refl
wide_same false place f g st same = same

run_par : (set : Setting) (l : ParLoop) (st : meaning.State) → NeverLeft set l
    → run set (Par l) st
    ≡ given_two l.from l.to st
    (λ i j. unless_wide (too_wide i j) l.place (all_of set l i j) st)
run_par set l st never =
    ap (λ (f : meaning.State → Ran). given_two l.from l.to st
    (λ i j. unless_wide (too_wide i j) l.place
    (λ t. caught (left_in (hidden-the_row-Stmt-0 l.body))
    (iterate set.fuel l.var.text.items f (Chance ∷ []) [] (int_gap i j) i t)) st))
    (vec_list (record set { reduces = l.reduces.items }) l.body)
    ∙ value_same l.from st
    (λ i. given l.to st (λ j. unless_wide (too_wide i j) l.place (caught_all set l i j) st))
    (λ i. given l.to st (λ j. unless_wide (too_wide i j) l.place (all_of set l i j) st))
    (λ i. value_same l.to st
    (λ j. unless_wide (too_wide i j) l.place (caught_all set l i j) st)
    (λ j. unless_wide (too_wide i j) l.place (all_of set l i j) st)
    (λ j. wide_same (too_wide i j) l.place (caught_all set l i j) (all_of set l i j) st
    (caught_none (left_in (hidden-the_row-Stmt-0 l.body)) (all_of set l i j st)
    (all_of set l i j st).stop refl (never i j st))))

none_run : (fuel : ℕ) (x : List ℕ) (body : meaning.State → Ran) (place : Place) (m j : ℤ) (st : meaning.State) → int_gap m j ≡ 0 → unless_wide (too_wide m j) place (iterate fuel x body (Chance ∷ []) [] (int_gap m j) m) st ≡ done st
unfolding iterate
none_run fuel x body place m j st none = ap (λ n. unless_wide (nat_lt MAX_PAR_LENGTH n) place (iterate fuel x body (Chance ∷ []) [] n m) st) none

-- ---- tests in a register

module _ (code : Listing) (heartbeat : ℕ) (K : Back code heartbeat) (state : machine.State) where
  pub tests_in : (r left : ℕ) (o : Alu) (right : operands.Value) (test : Bool) (label : ℕ) (more : List Instr) (end : Term) → r < length state.registers
      → Remains code state.block state.at (instr.Calc r left o right ∷ instr.IfJump r label ∷ more) end → calculated o (register state.registers left) (operand state.registers right) ≡ Ok (word.Int (truth test)) → IsCalm code label
      → (test ≡ true → K.Holds (at_block label (advanced (with_register (advanced state) r (word.Int (pos 1))))))
      → (test ≡ false → Remains code state.block (state.at + 1 + 1) more end → K.Holds (advanced (with_register (advanced state) r (word.Int (pos 0)))))
      → K.Holds state
  tests_in r left o right test label more end inside stands gives is_calm yes_go no_go =
      on_calc code heartbeat K state r left o right (word.Int (truth test)) (next code state _ _ end stands) gives (by_test test refl)
    where
      second : Remains code state.block (state.at + 1) (instr.IfJump r label ∷ more) end
      second = behind code state.block state.at _ _ end stands

      by_test : (b : Bool) → test ≡ b → K.Holds (with_register (advanced state) r (word.Int (truth test)))
      by_test true is =
          rw is
          (on_if code heartbeat K (with_register (advanced state) r (word.Int (pos 1))) r label (pos 1) (next code (with_register (advanced state) r (word.Int (pos 1))) _ more end second) (register_set state.registers r (word.Int (pos 1)) inside) refl is_calm
          (yes_go is))
      by_test false is =
          rw is
          (on_if_not code heartbeat K (with_register (advanced state) r (word.Int (pos 0))) r label (next code (with_register (advanced state) r (word.Int (pos 0))) _ more end second) (register_set state.registers r (word.Int (pos 0)) inside)
          (no_go is (behind code state.block (state.at + 1) _ more end second)))

module _ (code : Listing) (heartbeat z : ℕ) (act : Activation) (fuel : ℕ) (S : Scene code heartbeat z) (i : S.World) (names : List (List ℕ)) (st : meaning.State) where
  abbrev Showing : machine.State → Type 0
  Showing task = ShowsIn code heartbeat z act fuel S i names st task

  -- a register set
  pub shows_set : (task : machine.State) (r : ℕ) (w : Word) → r < 24 → Showing task → Showing (with_register (advanced task) r w)
  shows_set task r w low shows = shows_words code heartbeat z act fuel S i shows (slice_set task.registers r w) (length-set task.registers r w) (register_other task.registers r 31 w (λ (q : 31 ≡ r). absurd (omega (arith, q))))

  -- a task that enters the trap block of a loop that is too wide ends so, whatever its registers and
  -- its stack are
  pub traps_wide : (r : Result) (wide : ℕ) (place : Place)
      → AreAt code wide (trap_block wide Wide place ∷ []) → r ≡ out (Trap Wide place) st
      → (task : machine.State) → Showing task → (words : List Word) (stack : StackValue)
      (beat : BeatState)
      → (S.owing i r).Holds (record task {
        registers = words;
        stack = stack;
        beat = beat;
        block = wide;
        at = 0;
      })
  traps_wide r wide place trap is task shows words stack beat =
      subst (λ (q : Result). (S.owing i q).Holds other) (sym is)
      (S.stops i (Trap Wide place) st other (advanced other) tt shows.ticks shows.printed shows.ends
      (traps code heartbeat other Wide place
      (record { block = trap_block wide Wide place; found = trap.0; is = refl }) shows.free))
    where
      other : machine.State
      other = record task { registers = words; stack = stack; beat = beat; block = wide; at = 0 }

  -- whether a loop is too wide is found by two tests: behind the second one register 3 has its result
  pub measured : (r : Result) (check wide : ℕ) (place : Place) (more : List Instr) (n : ℕ) (m j : ℤ)
      → InRange m → InRange j → j ≡ m +ℤ pos n
      → Opens code check (length_test wide more) (to wide)
      → AreAt code wide (trap_block wide Wide place ∷ [])
      → (task : machine.State) → Showing task → task.block ≡ check → task.at ≡ 0
      → register task.registers 1 ≡ word.Int m → register task.registers 0 ≡ word.Int j
      → (nat_lt MAX_PAR_LENGTH n ≡ true → r ≡ out (Trap Wide place) st)
      → ((fits : Bool) → nat_lt MAX_PAR_LENGTH n ≡ not fits → (words : List Word) (beat : BeatState)
      (at : ℕ) → Showing (moved task words beat at) → register words 3 ≡ word.Int (truth fits)
      → register words 1 ≡ word.Int m → register words 0 ≡ word.Int j
      → Remains code task.block at more (to wide) → (S.owing i r).Holds (moved task words beat at))
      → (S.owing i r).Holds task
  measured r check wide place more n m j in_m in_j is_j tests trap task shows at_label at_begin is_first is_second wide_go go =
      on_calc code heartbeat K task 2 0 alu.Sub (value.Reg 1) (word.Int d)
      (next code task _ _ (to wide) here) gives (by_width (nat_lt MAX_PAR_LENGTH n) refl)
    where
      K : Back code heartbeat
      K = S.owing i r

      d : ℤ
      d = wrapped (pos n)

      here : Remains code task.block task.at (length_test wide more) (to wide)
      here =
          let begun : Remains code check 0 (length_test wide more) (to wide) =
          opened code check (length_test wide more) (to wide) tests in
          rw (at_label, at_begin) begun

      gives : calculated alu.Sub (register task.registers 0) (register task.registers 1)
          ≡ Ok (word.Int d)
      gives = rw (is_first, is_second) (ap (λ e. Ok (word.Int (wrapped e))) (difference n m j is_j))

      one : machine.State
      one = with_register (advanced task) 2 (word.Int d)

      shows_one : Showing one
      shows_one = shows_set task 2 (word.Int d) (omega arith) shows

      is_d : register one.registers 2 ≡ word.Int d
      is_d = register_set task.registers 2 (word.Int d) (omega (arith, shows.size))

      second : Remains code task.block (task.at + 1)
          (instr.Calc 3 2 alu.Lt (value.Int (pos 0)) ∷ instr.IfJump 3 wide
          ∷ instr.Calc 3 2 alu.Le (value.Int (pos MAX_PAR_LENGTH)) ∷ more) (to wide)
      second = behind code task.block task.at _ _ (to wide) here

      -- the task behind the first test
      two : machine.State
      two = advanced (with_register (advanced one) 3 (word.Int (pos 0)))

      shows_two : Showing two
      shows_two = shows_set one 3 (word.Int (pos 0)) (omega arith) shows_one

      is_d_two : register two.registers 2 ≡ word.Int d
      is_d_two =
          register_other one.registers 3 2 (word.Int (pos 0)) (λ (q : 2 ≡ 3). absurd (omega (arith, q)))
          ∙ is_d

      calm_wide : IsCalm code wide
      calm_wide = ap (λ o. is_ready (note_of o)) trap.0

      -- and the one behind the second
      three : Bool → List Word
      three fits = slice_set two.registers 3 (word.Int (truth fits))

      others : (fits : Bool) (q : ℕ) → q < 2 → register (three fits) q ≡ register task.registers q
      others fits q low =
          register_other two.registers 3 q (word.Int (truth fits))
          (λ (e : q ≡ 3). absurd (omega (arith, e)))
          ∙ (register_other one.registers 3 q (word.Int (pos 0))
          (λ (e : q ≡ 3). absurd (omega (arith, e)))
          ∙ register_other task.registers 2 q (word.Int d) (λ (e : q ≡ 2). absurd (omega (arith, e))))

      second_test : (fits : Bool) → int_le d (pos MAX_PAR_LENGTH) ≡ fits
          → nat_lt MAX_PAR_LENGTH n ≡ not fits
          → Remains code two.block two.at (instr.Calc 3 2 alu.Le (value.Int (pos MAX_PAR_LENGTH)) ∷ more)
          (to wide) → K.Holds two
      second_test fits is width third =
          on_calc code heartbeat K two 3 2 alu.Le (value.Int (pos MAX_PAR_LENGTH))
          (word.Int (truth fits)) (next code two _ _ (to wide) third)
          (rw (is_d_two) (ap (λ b. Ok (word.Int (truth b))) is))
          (go fits width (three fits) (counted two.beat) (two.at + 1)
          (shows_set two 3 (word.Int (truth fits)) (omega arith) shows_two)
          (register_set two.registers 3 (word.Int (truth fits)) (omega (arith, shows_two.size)))
          (others fits 1 (omega arith) ∙ is_first) (others fits 0 (omega arith) ∙ is_second)
          (behind code two.block two.at _ more (to wide) third))

      by_width : (b : Bool) → nat_lt MAX_PAR_LENGTH n ≡ b → K.Holds one
      by_width true is =
          tests_in code heartbeat K one 3 2 alu.Lt (value.Int (pos 0)) (int_lt d (pos 0)) wide _
          (to wide) (omega (arith, shows_one.size)) second (rw is_d refl) calm_wide
          (λ below. traps_wide r wide place trap (wide_go is) task shows _ task.stack _)
          (λ passes third. second_test false
          (wide_second n (gap_small n m j in_m in_j is_j) is passes) is third)
      by_width false is =
          tests_in code heartbeat K one 3 2 alu.Lt (value.Int (pos 0)) (int_lt d (pos 0)) wide _
          (to wide) (omega (arith, shows_one.size)) second (rw is_d refl) calm_wide
          (λ below. absurd (true≢false (sym below ∙ narrow_first n is)))
          (λ passes third. second_test true (narrow_second n is) is third)

-- ---- the begin of a `par`

module _ (code : Listing) (heartbeat z : ℕ) (act : Activation) (set : Setting)
    (expr_law : ExprLaw code heartbeat) (S : Scene code heartbeat z)
    (names : List (List ℕ)) (lowest : S.lowest ≤ length names) (room : length names < act.most)
    (k : meaning.State → Result) (l : ParLoop) where
  abbrev pub iterating : ℤ → ℤ → meaning.State → Ran
  iterating m j =
      iterate set.fuel l.var.text.items (run_list (record set { reduces = l.reduces.items }) l.body.items)
      (Chance ∷ []) [] (int_gap m j) m

  -- what is owed where a `par` has iterations, and the test of its length comes next
  abbrev pub Begun : ℕ → Type 0
  Begun check =
      (n : ℕ) (m j : ℤ) → IsGap (suc n) m j → int_gap m j ≡ suc n → InRange m → InRange j
      → (i : S.World) (st : meaning.State) (task : machine.State)
      → ShowsIn code heartbeat z act set.fuel S i names st task → task.block ≡ check → task.at ≡ 0
      → register task.registers 1 ≡ word.Int m → register task.registers 0 ≡ word.Int j
      → word_at task.stack (pos (z + value_cell (length names))) ≡ Some (word.Int m)
      → word_at task.stack (pos (z + bound_cell (length names))) ≡ Some (word.Int j)
      → (S.owing i (then (result (unless_wide (too_wide m j) l.place (iterating m j) st)) k)).Holds task

  pub begins_par : NeverLeft set l → S.registers ≡ [] → (check exit : ℕ)
      (here second tests more : List Instr) (first end : Term)
      → Computes code act [] names l.from 0 here
      (store (value_cell (length names)) (value.Reg 0) ∷ second)
      → Computes code act [] names l.to 0 second
      (store (bound_cell (length names)) (value.Reg 0) ∷ load 1 (value_cell (length names))
      ∷ instr.Calc 2 1 alu.Lt (value.Reg 0) ∷ instr.IfJump 2 check ∷ [])
      → Opens code check tests first → Opens code exit more end
      → Owed code heartbeat z act set.fuel S names more end k → Begun check
      → Owed code heartbeat z act set.fuel S names here (to exit)
      (λ st. then (result (run set (Par l) st)) k)
  begins_par never bare check exit here second tests more first end c d opens ends post begun i st
      state shows stands =
      subst (λ (r : Ran). (S.owing i (then (result r) k)).Holds state) (sym (run_par set l st never))
      (bounds_bare code heartbeat z act set.fuel expr_law S names lowest room bare k l.from l.to
      here second
      (instr.Calc 2 1 alu.Lt (value.Reg 0) ∷ instr.IfJump 2 check ∷ []) (to exit) c d
      (λ m j. unless_wide (too_wide m j) l.place (iterating m j)) i st state shows stands at_test)
    where
      at_test : (m j : ℤ) → InRange m → InRange j → (task : machine.State)
          → ShowsIn code heartbeat z act set.fuel S i names st task
          → register task.registers 1 ≡ word.Int m → register task.registers 0 ≡ word.Int j
          → word_at task.stack (pos (z + value_cell (length names))) ≡ Some (word.Int m)
          → word_at task.stack (pos (z + bound_cell (length names))) ≡ Some (word.Int j)
          → Remains code task.block task.at
          (instr.Calc 2 1 alu.Lt (value.Reg 0) ∷ instr.IfJump 2 check ∷ []) (to exit)
          → (S.owing i (then (result (unless_wide (too_wide m j) l.place (iterating m j) st)) k)).Holds
          task
      at_test m j in_m in_j task shows_task is_m is_j cell bound left =
          by_gap (int_gap m j) refl (gap_is m j)
        where
          K : Back code heartbeat
          K = S.owing i (then (result (unless_wide (too_wide m j) l.place (iterating m j) st)) k)

          gives : calculated alu.Lt (register task.registers 1) (register task.registers 0)
              ≡ Ok (word.Int (truth (int_lt m j)))
          gives = rw (is_m, is_j) refl

          tests_it : (int_lt m j ≡ true
              → K.Holds (at_block check (advanced (with_register (advanced task) 2 (word.Int (pos 1))))))
              → (int_lt m j ≡ false → Remains code task.block (task.at + 1 + 1) [] (to exit)
              → K.Holds (advanced (with_register (advanced task) 2 (word.Int (pos 0)))))
              → K.Holds task
          tests_it =
              tests_in code heartbeat K task 2 1 alu.Lt (value.Reg 0) (int_lt m j) check []
              (to exit) (omega (arith, shows_task.size)) left gives (calm code check tests first opens)

          kept : (b : Bool) (r : ℕ) → r < 2
              → register (slice_set task.registers 2 (word.Int (truth b))) r
              ≡ register task.registers r
          kept b r low =
              register_other task.registers 2 r (word.Int (truth b))
              (λ (e : r ≡ 2). absurd (omega (arith, e, low)))

          by_gap : (n : ℕ) → int_gap m j ≡ n → IsGap n m j → K.Holds task
          by_gap zero none gap =
              tests_it (λ below. absurd (true≢false (sym below ∙ gap_none m j gap)))
              (λ above over.
              let two : machine.State =
              advanced (with_register (advanced task) 2 (word.Int (pos 0))) in
              subst (λ (r : Ran). (S.owing i (then (result r) k)).Holds two)
              (sym (none_run set.fuel l.var.text.items
              (run_list (record set { reduces = l.reduces.items }) l.body.items) l.place m j st none))
              (jumps code heartbeat (S.owing i (k st)) two exit more end over ends
              (enters code heartbeat z act set.fuel S names exit more end k ends post i st
              (at_block exit (advanced two))
              (shows_set code heartbeat z act set.fuel S i names st task 2 (word.Int (pos 0))
              (omega arith) shows_task) refl refl)))
          by_gap (suc n) some gap =
              tests_it (λ below.
              begun n m j gap some in_m in_j i st
              (at_block check (advanced (with_register (advanced task) 2 (word.Int (pos 1)))))
              (shows_set code heartbeat z act set.fuel S i names st task 2 (word.Int (pos 1))
              (omega arith) shows_task) refl refl (kept true 1 (omega arith) ∙ is_m)
              (kept true 0 (omega arith) ∙ is_j) cell bound)
              (λ above over. absurd (true≢false (sym (gap_more n m j gap) ∙ above)))

  -- a `par` that isn't too wide runs its iterations, and one that is traps
  pub runs_narrow : (n : ℕ) (m j : ℤ) (st : meaning.State) → int_gap m j ≡ n
      → nat_lt MAX_PAR_LENGTH n ≡ false
      → unless_wide (too_wide m j) l.place (iterating m j) st
      ≡ iterate set.fuel l.var.text.items
      (run_list (record set { reduces = l.reduces.items }) l.body.items) (Chance ∷ []) [] n m st
  runs_narrow n m j st gap narrow =
      ap (λ g. unless_wide (nat_lt MAX_PAR_LENGTH g) l.place
      (iterate set.fuel l.var.text.items
      (run_list (record set { reduces = l.reduces.items }) l.body.items) (Chance ∷ []) [] g m) st) gap
      ∙ ap (λ b. unless_wide b l.place
      (iterate set.fuel l.var.text.items
      (run_list (record set { reduces = l.reduces.items }) l.body.items) (Chance ∷ []) [] n m) st)
      narrow

  pub stops_wide : (n : ℕ) (m j : ℤ) (st : meaning.State) → int_gap m j ≡ n
      → nat_lt MAX_PAR_LENGTH n ≡ true
      → then (result (unless_wide (too_wide m j) l.place (iterating m j) st)) k
      ≡ out (Trap Wide l.place) st
  stops_wide n m j st gap wide =
      ap (λ g. then (result (unless_wide (nat_lt MAX_PAR_LENGTH g) l.place (iterating m j) st)) k) gap
      ∙ ap (λ b. then (result (unless_wide b l.place (iterating m j) st)) k) wide
