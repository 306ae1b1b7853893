-- The instructions of operators.
use Rattle.std.proofs.Common.{◌≡◌, ℕ, zero, suc, ◌+◌, ◌<◌, ◌≤◌, Bool, true, false, cond, List, []}
use Rattle.std.proofs.Common.{◌∷◌, ◌++◌, Option, None, Some, Result, Ok, Err, refl, ap, sym, subst}
use Rattle.std.proofs.Common.{◌∙◌, arith, ltb-true}
use Rattle.std.specs.Prelude.{ℤ, pos, negsuc, ◌+ℤ◌, ◌-ℤ◌, ◌*ℤ◌, int_div, int_rem, int_lt, int_le}
use Rattle.std.specs.Prelude.{not, slice_set, nat_lt, length, ⊤}
use Rattle.std.specs.Ordering.{int_eq}
use Rattle.std.proofs.lemmas.Bool.Decides.{Decides-int_eq}
use Rattle.beat_count.specs.BeatState.{BeatState}
use Rattle.beat_count.specs.Heartbeat.{counted}
use Rattle.tp_value.specs.Number.{wrapped, truth}
use Rattle.tp_value.specs.declared.Place.{Place}
use Rattle.tp_value.specs.declared.Table.{Table}
use Rattle.tp_value.specs.declared.TrapKind.TheVariants.{Divide}
use Rattle.loop_syntax.specs.declared.BinOp.{BinOp}
use Rattle.loop_syntax.specs.declared.BinOp.TheVariants as op
use Rattle.loop_meaning.specs.declared.value.Answer.{Answer}
use Rattle.loop_meaning.specs.declared.value.Answer.TheVariants.{Number, Traps}
use Rattle.loop_meaning.specs.declared.value.Variable.{Variable}
use Rattle.loop_meaning.specs.Expressions as meaning
use Rattle.loop_meaning.specs.Expressions.{Value, number, traps, bind_answer}
use Rattle.loop_meaning.specs.State.{Note}
use Rattle.tpal_syntax.specs.declared.instructions.Alu.{Alu}
use Rattle.tpal_syntax.specs.declared.instructions.Alu.TheVariants as alu
use Rattle.tpal_syntax.specs.declared.instructions.Instr.{Instr}
use Rattle.tpal_syntax.specs.declared.instructions.Instr.TheVariants as instr
use Rattle.tpal_syntax.specs.declared.instructions.Term.{Term}
use Rattle.tpal_syntax.specs.declared.instructions.Value as operands
use Rattle.tpal_syntax.specs.declared.instructions.Value.TheVariants as value
use Rattle.tpal_syntax.specs.declared.words.Word.{Word}
use Rattle.tpal_syntax.specs.declared.words.Word.TheVariants as word
use Rattle.tpal_syntax.specs.Listing.{Listing}
use Rattle.tpal_machine.specs.declared.faults.Fault.{Fault}
use Rattle.tpal_machine.specs.declared.faults.Fault.TheVariants.{DivZero}
use Rattle.tpal_machine.specs.Calculation as machine
use Rattle.tpal_machine.specs.Reading.{register, operand, block_at}
use Rattle.tpal_machine.specs.State.{State}
use Rattle.tpal_machine.proofs.Kit.{Back, on_move}
use Rattle.expr_lower.specs.declared.scope.Scope.{Scope}
use Rattle.expr_lower.specs.Bodies.{trap_block, can_trap, may_be_zero, calculation, turned}
use Rattle.expr_lower.specs.Bodies.{division, operation}
use Rattle.expr_lower.specs.Holding.{Holds}
use Rattle.expr_lower.specs.Leaving.{Keeps, moved}
use Rattle.expr_lower.specs.Standing.{Remains, AreAt}
use Rattle.expr_lower.proofs.Evaluating.{After, AfterAt, after_moved, calculates, tests}
use Rattle.expr_lower.proofs.Evaluating.{EvaluatesAt, EvaluatesOn, with_second, holds_moved}
use Rattle.expr_lower.proofs.Evaluating.{holds_front, holds_back}
use Rattle.expr_lower.proofs.Keeping.{register_set, kept_set, kept_counted, kept_twice}
use Rattle.expr_lower.proofs.Keeping.{kept_wider, kept_apart, stands_apart}
use Rattle.expr_lower.proofs.Standing.{next, behind, split}

-- ---- numbers

is_false : (b : Bool) → ¬ (b ≡ true) → b ≡ false
is_false true h = absurd (h refl)
is_false false h = refl

positive_else : (n : ℕ) → int_eq (pos (suc n)) (pos 0) ≡ false
positive_else n = is_false _ (λ h. let same : pos (suc n) ≡ pos 0 = (Decides-int_eq (pos (suc n)) (pos 0)).0 h in cc)

negative_else : (n : ℕ) → int_eq (negsuc n) (pos 0) ≡ false
negative_else n = is_false _ (λ h. let same : negsuc n ≡ pos 0 = (Decides-int_eq (negsuc n) (pos 0)).0 h in cc)

-- a quotient or a remainder by a number other than 0, and one by 0
divided_else : (f : ℤ → ℤ → ℤ) (place : Place) (m n : ℤ) → int_eq n (pos 0) ≡ false → meaning.divided f place m n ≡ number (wrapped (f m n))
divided_else f place m (pos zero) other = cc
divided_else f place m (pos (suc n)) other = refl
divided_else f place m (negsuc n) other = refl

divided_by_zero : (f : ℤ → ℤ → ℤ) (place : Place) (m n : ℤ) → int_eq n (pos 0) ≡ true → meaning.divided f place m n ≡ traps Divide place
divided_by_zero f place m (pos zero) is = refl
divided_by_zero f place m (pos (suc n)) is = cc (positive_else n)
divided_by_zero f place m (negsuc n) is = cc (negative_else n)

-- a literal is the answer of its expression
abbrev pub IsNumber : Option ℤ → Answer → Type 0
IsNumber None answer = ⊤
IsNumber (Some n) answer = answer ≡ Number n

-- a calculation of the machine on two numbers
abbrev Gives : Alu → (ℤ → ℤ → ℤ) → Type 0
Gives o f = (m n : ℤ) → machine.calculated o (word.Int m) (word.Int n) ≡ Ok (word.Int (f m n))

-- a division of the machine on two numbers
abbrev Divides : Alu → (ℤ → ℤ → ℤ) → Type 0
Divides o f = (m n : ℤ) → machine.calculated o (word.Int m) (word.Int n) ≡ machine.divided n (f m n)

divides_else : (o : Alu) (f : ℤ → ℤ → ℤ) (m n : ℤ) → Divides o f → int_eq n (pos 0) ≡ false → machine.calculated o (word.Int m) (word.Int n) ≡ Ok (word.Int (wrapped (f m n)))
divides_else o f m n divides other = divides m n ∙ ap (λ b. cond b (Err DivZero) (Ok (word.Int (wrapped (f m n))))) other

module _ (code : Listing) (heartbeat : ℕ) (K : Back code heartbeat) (scope : Scope) (vars : List Variable) (tables : List Table) where
  -- a last calculation, which leaves a number in `to`
  pub ends_with : (state : State) (more : List Instr) (end : Term) (to left : ℕ) (o : Alu) (right : operands.Value) (n : ℤ) → to < 24 → length state.registers ≡ 32 → Remains code state.block state.at (instr.Calc to left o right ∷ more) end → machine.calculated o (register state.registers left) (operand state.registers right) ≡ Ok (word.Int n) → After code heartbeat K to state more end (Number n) → K.Holds state
  ends_with state more end to left o right n within size stands gives after =
      calculates code heartbeat K state more end to left o right (word.Int n) stands gives (λ stands_on.
      after (slice_set state.registers to (word.Int n)) (counted state.beat) (state.at + 1) (kept_set to to state (word.Int n) (omega arith) within) (register_set state.registers to (word.Int n) (omega arith)) stands_on)

  -- two registers with numbers, or one and a literal
  on_registers : (o : Alu) (words : List Word) (left right : ℕ) (m n : ℤ) (r : Result Word Fault) → machine.calculated o (word.Int m) (word.Int n) ≡ r → register words left ≡ word.Int m → register words right ≡ word.Int n → machine.calculated o (register words left) (operand words (value.Reg right)) ≡ r
  on_registers o words left right m n r gives first second = ap (λ u. machine.calculated o u (register words right)) first ∙ ap (λ u. machine.calculated o (word.Int m) u) second ∙ gives

  pub on_literal : (o : Alu) (words : List Word) (left : ℕ) (m n : ℤ) (r : Result Word Fault) → machine.calculated o (word.Int m) (word.Int n) ≡ r → register words left ≡ word.Int m → machine.calculated o (register words left) (operand words (value.Int n)) ≡ r
  on_literal o words left m n r gives first = ap (λ u. machine.calculated o u (word.Int n)) first ∙ gives

  -- ---- calculations

  calculation_law : (o : Alu) (f : ℤ → ℤ → ℤ) → Gives o f → (to left right : ℕ) → to ≤ 22 → (m : ℤ) (body : List Instr) (answer : Answer) (notes before : List Note) (literal : Option ℤ) → IsNumber literal answer → EvaluatesAt code heartbeat K scope vars tables right body (to + 1) answer notes
      → EvaluatesOn code heartbeat K scope vars tables left m (calculation o to left right body literal) to (bind_answer answer notes (λ n. number (f m n))).answer (before ++ (bind_answer answer notes (λ n. number (f m n))).notes)
  calculation_law o f gives to left right within m body answer notes before None is evaluates state more end there first stands holds after =
      with_second code heartbeat K scope vars tables body (instr.Calc to left o (value.Reg right) ∷ []) left right to m answer notes before (λ n. number (f m n)) evaluates (λ n same state more end left_there right_there first second stands holds after.
      ends_with state more end to left o (value.Reg right) (f m n) (omega arith) holds.registers stands (on_registers o state.registers left right m n _ (gives m n) first second) after) state more end there first stands holds after
  calculation_law o f gives to left right within m body answer notes before (Some n) is evaluates state more end there first stands holds after =
      let leads : After code heartbeat K to state more end (Number (f m n)) = subst (λ (a : Answer). After code heartbeat K to state more end (bind_answer a notes (λ k. number (f m k))).answer) is after in
      ends_with state more end to left o (value.Int n) (f m n) (omega arith) holds.registers stands (on_literal o state.registers left m n _ (gives m n) first) leads

  turned_law : (o : Alu) (f : ℤ → ℤ → ℤ) → Gives o f → (to left right : ℕ) → to ≤ 22 → (m : ℤ) (body : List Instr) (answer : Answer) (notes before : List Note) → EvaluatesAt code heartbeat K scope vars tables right body (to + 1) answer notes
      → EvaluatesOn code heartbeat K scope vars tables left m (turned o to left right body) to (bind_answer answer notes (λ n. number (f n m))).answer (before ++ (bind_answer answer notes (λ n. number (f n m))).notes)
  turned_law o f gives to left right within m body answer notes before evaluates =
      with_second code heartbeat K scope vars tables body (instr.Calc to right o (value.Reg left) ∷ []) left right to m answer notes before (λ n. number (f n m)) evaluates (λ n same state more end left_there right_there first second stands holds after.
      ends_with state more end to right o (value.Reg left) (f n m) (omega arith) holds.registers stands (on_registers o state.registers right left n m _ (gives n m) second first) after)

  -- ---- divisions

  -- the test of a divisor in a register
  divisor_test : (state : State) (more : List Instr) (end : Term) (to right test trap : ℕ) (place : Place) (f : ℤ → ℤ → ℤ) (m n : ℤ) → to ≤ test → test < 24 → length state.registers ≡ 32 → register state.registers right ≡ word.Int n → Remains code state.block state.at (instr.Calc test right alu.Eq (value.Int (pos 0)) ∷ instr.IfJump test trap ∷ more) end → block_at code trap ≡ Some (trap_block trap Divide place) → (last : List Instr) → After code heartbeat K to state last end (meaning.divided f place m n).answer
      → ((words : List Word) (beat : BeatState) (at : ℕ) → words ≡ slice_set state.registers test (word.Int (pos 0)) → Keeps test state words beat → int_eq n (pos 0) ≡ false → Remains code state.block at more end → K.Holds (moved state words beat at)) → K.Holds state
  divisor_test state more end to right test trap place f m n from within size second stands found last after go =
      let zero_test : Word = word.Int (truth (int_eq n (pos 0))) in
      let words : List Word = slice_set state.registers test zero_test in
      let keeps : Keeps test state words (counted state.beat) = kept_set test test state zero_test (omega arith) within in
      calculates code heartbeat K state (instr.IfJump test trap ∷ more) end test right alu.Eq (value.Int (pos 0)) zero_test stands (on_literal alu.Eq state.registers right n (pos 0) _ refl second) (λ tested.
      tests code heartbeat K (int_eq n (pos 0)) (moved state words (counted state.beat) (state.at + 1)) more end test trap Divide place (register_set state.registers test zero_test (omega arith)) tested found
      (λ is trapped.
      let leads : After code heartbeat K to state last end (Traps Divide place) = subst (λ (v : Value). After code heartbeat K to state last end v.answer) (divided_by_zero f place m n is) after in
      leads words (counted (counted state.beat)) trap (kept_twice to to state words words (counted state.beat) (counted (counted state.beat)) (state.at + 1) (omega arith) (kept_wider to test state words (counted state.beat) from keeps) (kept_counted to (moved state words (counted state.beat) (state.at + 1)))) trapped)
      (λ is behind_test.
      go words (counted (counted state.beat)) (state.at + 1 + 1) (ap (λ b. slice_set state.registers test (word.Int (truth b))) is) (kept_twice test test state words words (counted state.beat) (counted (counted state.beat)) (state.at + 1) (omega arith) keeps (kept_counted test (moved state words (counted state.beat) (state.at + 1)))) is behind_test))

  -- the division of two registers by a divisor other than 0
  divide : (state : State) (more : List Instr) (end : Term) (to left right : ℕ) (o : Alu) (f : ℤ → ℤ → ℤ) (place : Place) (m n : ℤ) → Divides o f → to ≤ 22 → length state.registers ≡ 32 → register state.registers left ≡ word.Int m → register state.registers right ≡ word.Int n → int_eq n (pos 0) ≡ false → Remains code state.block state.at (instr.Calc to left o (value.Reg right) ∷ more) end → After code heartbeat K to state more end (meaning.divided f place m n).answer → K.Holds state
  divide state more end to left right o f place m n divides within size first second other stands after =
      ends_with state more end to left o (value.Reg right) (wrapped (f m n)) (omega arith) size stands (on_registers o state.registers left right m n _ (divides_else o f m n divides other) first second)
      (subst (λ (v : Value). After code heartbeat K to state more end v.answer) (divided_else f place m n other) after)

  tested_law : (o : Alu) (f : ℤ → ℤ → ℤ) → Divides o f → (to left right trap : ℕ) (place : Place) → to ≤ 22 → block_at code trap ≡ Some (trap_block trap Divide place) → (m : ℤ) (body : List Instr) (answer : Answer) (notes before : List Note) → EvaluatesAt code heartbeat K scope vars tables right body (to + 1) answer notes → (form : Bool) → nat_lt to 22 ≡ form
      → EvaluatesOn code heartbeat K scope vars tables left m (cond form
      (body ++ instr.Calc (to + 2) right alu.Eq (value.Int (pos 0)) ∷ instr.IfJump (to + 2) trap ∷ instr.Calc to left o (value.Reg right) ∷ [])
      (body ++ (instr.Calc (to + 1) right alu.Eq (value.Int (pos 0)) ∷ instr.IfJump (to + 1) trap ∷ body ++ instr.Calc to left o (value.Reg right) ∷ []))) to
      (bind_answer answer notes (λ n. meaning.divided f place m n)).answer (before ++ (bind_answer answer notes (λ n. meaning.divided f place m n)).notes)
  tested_law o f divides to left right trap place within found m body answer notes before evaluates true form_is =
      let low : to < 22 = ltb-true to 22 form_is in
      with_second code heartbeat K scope vars tables body (instr.Calc (to + 2) right alu.Eq (value.Int (pos 0)) ∷ instr.IfJump (to + 2) trap ∷ instr.Calc to left o (value.Reg right) ∷ []) left right to m answer notes before (λ n. meaning.divided f place m n) evaluates (λ n same state more end left_there right_there first second stands holds after.
      divisor_test state (instr.Calc to left o (value.Reg right) ∷ more) end to right (to + 2) trap place f m n (omega arith) (omega arith) holds.registers second stands found more after (λ words beat at words_are keeps other remains.
      let left_kept : register words left ≡ register state.registers left = kept_apart (to + 2) left state words beat (stands_apart to (to + 2) left (omega arith) left_there) keeps in
      let right_kept : register words right ≡ register state.registers right = kept_apart (to + 2) right state words beat (stands_apart (to + 1) (to + 2) right (omega arith) right_there) keeps in
      divide (moved state words beat at) more end to left right o f place m n divides within (keeps.size ∙ holds.registers) (left_kept ∙ first) (right_kept ∙ second) other remains
      (after_moved code heartbeat K to state more end (meaning.divided f place m n).answer words beat at (kept_wider to (to + 2) state words beat (omega arith) keeps) after)))
  tested_law o f divides to left right trap place within found m body answer notes before evaluates false form_is =
      with_second code heartbeat K scope vars tables body (instr.Calc (to + 1) right alu.Eq (value.Int (pos 0)) ∷ instr.IfJump (to + 1) trap ∷ body ++ instr.Calc to left o (value.Reg right) ∷ []) left right to m answer notes before (λ n. meaning.divided f place m n) evaluates (λ n same state more end left_there right_there first second stands holds after.
      divisor_test state ((body ++ instr.Calc to left o (value.Reg right) ∷ []) ++ more) end to right (to + 1) trap place f m n (omega arith) (omega arith) holds.registers second stands found more after (λ words beat at words_are keeps other remains.
      let wider : Keeps to state words beat = kept_wider to (to + 1) state words beat (omega arith) keeps in
      let again : Holds scope vars tables notes (moved state words beat at) = holds_front scope vars tables (moved state words beat at) notes (meaning.divided f place m n).notes (holds_back scope vars tables (moved state words beat at) before (notes ++ (meaning.divided f place m n).notes) (holds_moved scope vars tables _ to state words beat at wider holds)) in
      evaluates (moved state words beat at) (instr.Calc to left o (value.Reg right) ∷ more) end (split code state.block at body (instr.Calc to left o (value.Reg right) ∷ []) more end remains) again
      (subst (λ (a : Answer). AfterAt code heartbeat K right (to + 1) (moved state words beat at) (instr.Calc to left o (value.Reg right) ∷ more) end a) (sym same) (λ later count place_of kept_later right_now divisor remains_now.
      let all : Keeps to state later count = kept_twice to (to + 1) state words later beat count at (omega arith) wider kept_later in
      let both : Keeps (to + 1) state later count = kept_twice (to + 1) (to + 1) state words later beat count at (omega arith) keeps kept_later in
      let left_kept : register later left ≡ register state.registers left = kept_apart (to + 1) left state later count (stands_apart to (to + 1) left (omega arith) left_there) both in
      divide (moved state later count place_of) more end to left right o f place m n divides within (all.size ∙ holds.registers) (left_kept ∙ first) divisor other remains_now
      (after_moved code heartbeat K to state more end (meaning.divided f place m n).answer later count place_of all after)))))

  division_law : (o : Alu) (f : ℤ → ℤ → ℤ) → Divides o f → (to left right trap : ℕ) (place : Place) → to ≤ 22 → (m : ℤ) (body : List Instr) (answer : Answer) (notes before : List Note) (literal : Option ℤ) → IsNumber literal answer → AreAt code trap (cond (may_be_zero literal) (trap_block trap Divide place ∷ []) []) → EvaluatesAt code heartbeat K scope vars tables right body (to + 1) answer notes
      → EvaluatesOn code heartbeat K scope vars tables left m (division o to left right body literal trap) to (bind_answer answer notes (λ n. meaning.divided f place m n)).answer (before ++ (bind_answer answer notes (λ n. meaning.divided f place m n)).notes)
  division_law o f divides to left right trap place within m body answer notes before None is (found, none) evaluates state more end there first stands holds after =
      tested_law o f divides to left right trap place within found m body answer notes before evaluates (nat_lt to 22) refl state more end there first stands holds after
  division_law o f divides to left right trap place within m body answer notes before (Some (pos zero)) is (found, none) evaluates state more end there first stands holds after =
      let words : List Word = slice_set state.registers to (word.Int (pos 1)) in
      let leads : After code heartbeat K to state more end (Traps Divide place) = subst (λ (a : Answer). After code heartbeat K to state more end (bind_answer a notes (λ k. meaning.divided f place m k)).answer) is after in
      on_move code heartbeat K state to (value.Int (pos 1)) (next code state _ _ end stands)
      (tests code heartbeat K true (moved state words (counted state.beat) (state.at + 1)) more end to trap Divide place (register_set state.registers to (word.Int (pos 1)) (omega (arith, holds.registers))) (behind code state.block state.at _ _ end stands) found
      (λ yes_is trapped.
      leads words (counted (counted state.beat)) trap (kept_twice to to state words words (counted state.beat) (counted (counted state.beat)) (state.at + 1) (omega arith) (kept_set to to state (word.Int (pos 1)) (omega arith) (omega arith)) (kept_counted to (moved state words (counted state.beat) (state.at + 1)))) trapped)
      (λ no_is remains. cc))
  division_law o f divides to left right trap place within m body answer notes before (Some (pos (suc k))) is none evaluates state more end there first stands holds after =
      let leads : After code heartbeat K to state more end (Number (wrapped (f m (pos (suc k))))) = subst (λ (a : Answer). After code heartbeat K to state more end (bind_answer a notes (λ j. meaning.divided f place m j)).answer) is after in
      ends_with state more end to left o (value.Int (pos (suc k))) (wrapped (f m (pos (suc k)))) (omega arith) holds.registers stands (on_literal o state.registers left m (pos (suc k)) _ (divides_else o f m (pos (suc k)) divides (positive_else k)) first) leads
  division_law o f divides to left right trap place within m body answer notes before (Some (negsuc k)) is none evaluates state more end there first stands holds after =
      let leads : After code heartbeat K to state more end (Number (wrapped (f m (negsuc k)))) = subst (λ (a : Answer). After code heartbeat K to state more end (bind_answer a notes (λ j. meaning.divided f place m j)).answer) is after in
      ends_with state more end to left o (value.Int (negsuc k)) (wrapped (f m (negsuc k))) (omega arith) holds.registers stands (on_literal o state.registers left m (negsuc k) _ (divides_else o f m (negsuc k) divides (negative_else k)) first) leads

  -- ---- every operator

  -- what stands behind the left operand evaluates the operator on its number
  pub operation_law : (o : BinOp) (to left right trap : ℕ) (place : Place) → to ≤ 22 → (m : ℤ) (body : List Instr) (answer : Answer) (notes before : List Note) (literal : Option ℤ) → IsNumber literal answer → AreAt code trap (cond (can_trap o literal) (trap_block trap Divide place ∷ []) []) → EvaluatesAt code heartbeat K scope vars tables right body (to + 1) answer notes
      → EvaluatesOn code heartbeat K scope vars tables left m (operation o to left right body literal trap) to (bind_answer answer notes (λ n. meaning.calculated o place m n)).answer (before ++ (bind_answer answer notes (λ n. meaning.calculated o place m n)).notes)
  operation_law op.Add to left right trap place within m body answer notes before literal is at evaluates = calculation_law alu.Add (λ a b. wrapped (a +ℤ b)) (λ a b. refl) to left right within m body answer notes before literal is evaluates
  operation_law op.Sub to left right trap place within m body answer notes before literal is at evaluates = calculation_law alu.Sub (λ a b. wrapped (a -ℤ b)) (λ a b. refl) to left right within m body answer notes before literal is evaluates
  operation_law op.Mul to left right trap place within m body answer notes before literal is at evaluates = calculation_law alu.Mul (λ a b. wrapped (a *ℤ b)) (λ a b. refl) to left right within m body answer notes before literal is evaluates
  operation_law op.Div to left right trap place within m body answer notes before literal is at evaluates = division_law alu.Div int_div (λ a b. refl) to left right trap place within m body answer notes before literal is at evaluates
  operation_law op.Rem to left right trap place within m body answer notes before literal is at evaluates = division_law alu.Rem int_rem (λ a b. refl) to left right trap place within m body answer notes before literal is at evaluates
  operation_law op.Eq to left right trap place within m body answer notes before literal is at evaluates = calculation_law alu.Eq (λ a b. truth (int_eq a b)) (λ a b. refl) to left right within m body answer notes before literal is evaluates
  operation_law op.Ne to left right trap place within m body answer notes before literal is at evaluates = calculation_law alu.Ne (λ a b. truth (not (int_eq a b))) (λ a b. refl) to left right within m body answer notes before literal is evaluates
  operation_law op.Lt to left right trap place within m body answer notes before literal is at evaluates = calculation_law alu.Lt (λ a b. truth (int_lt a b)) (λ a b. refl) to left right within m body answer notes before literal is evaluates
  operation_law op.Le to left right trap place within m body answer notes before literal is at evaluates = calculation_law alu.Le (λ a b. truth (int_le a b)) (λ a b. refl) to left right within m body answer notes before literal is evaluates
  operation_law op.Gt to left right trap place within m body answer notes before literal is at evaluates = turned_law alu.Lt (λ a b. truth (int_lt a b)) (λ a b. refl) to left right within m body answer notes before evaluates
  operation_law op.Ge to left right trap place within m body answer notes before literal is at evaluates = turned_law alu.Le (λ a b. truth (int_le a b)) (λ a b. refl) to left right within m body answer notes before evaluates
