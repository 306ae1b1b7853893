-- The instructions of an expression evaluate it.
use Rattle.std.proofs.Common.{◌≡◌, ℕ, suc, ◌+◌, ◌<◌, ◌≤◌, Bool, true, false, cond, Ok, List, []}
use Rattle.std.proofs.Common.{◌∷◌, ◌++◌, Option, Some, None, max, inr, refl, ap, subst, ◌∙◌, arith, lit≤}
use Rattle.std.specs.Prelude.{ℤ, pos, negsuc, ◌-ℤ◌, ◌*ℤ◌, slice_set, length}
use Rattle.std.proofs.lemmas.List.{length-append}
use Rattle.std.proofs.Math.Nat.{le-max_left, le-max_right}
use Rattle.std.proofs.lemmas.Int.{ints}
use Rattle.beat_count.specs.Heartbeat.{counted}
use Rattle.tp_value.specs.Number.{wrapped}
use Rattle.tp_value.specs.declared.Table.{Table}
use Rattle.tp_value.specs.declared.TrapKind.TheVariants.{Divide, Index}
use Rattle.loop_syntax.specs.declared.Expr.{Expr}
use Rattle.loop_syntax.specs.declared.Expr.TheVariants.{Int, Var, Cell', Rows, Cols, Neg', Bin'}
use Rattle.loop_rules.specs.Limits.{height}
use Rattle.loop_meaning.specs.declared.value.Answer.TheVariants.{Number}
use Rattle.loop_meaning.specs.declared.value.Variable.{Variable}
use Rattle.loop_meaning.specs.Expressions.{eval, number, bind}
use Rattle.loop_meaning.specs.Expressions as meaning
use Rattle.loop_meaning.specs.State.{Note, lookup}
use Rattle.tpal_syntax.specs.declared.blocks.Block.{Block}
use Rattle.tpal_syntax.specs.declared.instructions.Alu.TheVariants as alu
use Rattle.tpal_syntax.specs.declared.instructions.Instr.{Instr}
use Rattle.tpal_syntax.specs.declared.instructions.Instr.TheVariants as instr
use Rattle.tpal_syntax.specs.declared.instructions.Term.{Term}
use Rattle.tpal_syntax.specs.declared.instructions.Value.TheVariants as value
use Rattle.tpal_syntax.specs.declared.words.Word.{Word}
use Rattle.tpal_syntax.specs.declared.words.Word.TheVariants as word
use Rattle.tpal_syntax.specs.Listing.{Listing}
use Rattle.tpal_machine.specs.Reading.{register, table_at}
use Rattle.tpal_machine.specs.State.{State}
use Rattle.tpal_machine.proofs.Kit.{Back, on_move, on_load}
use Rattle.expr_lower.specs.declared.scope.Scope.{Scope}
use Rattle.expr_lower.specs.Bodies.{trap_block, literal, can_trap, trap_count, traps_of, operation}
use Rattle.expr_lower.specs.Bodies.{operand_at, operand_body, variable_read, body_of}
use Rattle.expr_lower.specs.Holding.{Holds, HasNumber}
use Rattle.expr_lower.specs.Scopes.{IsIn, home_of, offset_of, register_of, table_number}
use Rattle.expr_lower.specs.Standing.{Remains, AreAt}
use Rattle.expr_lower.proofs.CellReads.{on_rows, on_cols, cell_law}
use Rattle.expr_lower.proofs.Evaluating.{After, after_own, Evaluates, EvaluatesAt, evaluates_own}
use Rattle.expr_lower.proofs.Evaluating.{with_operand}
use Rattle.expr_lower.proofs.Operations.{IsNumber, ends_with, on_literal, operation_law}
use Rattle.expr_lower.proofs.Keeping.{register_set, kept, kept_set}
use Rattle.expr_lower.proofs.Standing.{next, behind, front, back}

-- ---- trap blocks

own_length : (can : Bool) (block : Block) → length (cond can (block ∷ []) []) ≡ cond can 1 0
own_length true block = refl
own_length false block = refl

three_lengths : (xs ys zs : List Block) (n m k : ℕ) → length xs ≡ n → length ys ≡ m → length zs ≡ k → length (xs ++ (ys ++ zs)) ≡ n + m + k
three_lengths xs ys zs n m k first second third = omega (arith, length-append xs (ys ++ zs), length-append ys zs)

-- an expression has as many trap blocks as are counted
pub length_traps : (e : Expr) (label : ℕ) → length (traps_of label e) ≡ trap_count e
length_traps (Int n place) label = refl
length_traps (Var x) label = refl
length_traps (Cell' t p a q b) label = three_lengths _ _ _ _ _ _ (length_traps a label) (length_traps b (label + trap_count a)) refl
length_traps (Rows t) label = refl
length_traps (Cols t) label = refl
length_traps (Neg' p a place) label = length_traps a label
length_traps (Bin' o place p a q b) label = three_lengths _ _ _ _ _ _ (length_traps a label) (length_traps b (label + trap_count a)) (own_length (can_trap o (literal b)) _)

-- three lists of blocks, one behind the other
record Three (code : Listing) (label n m : ℕ) (xs ys zs : List Block) : Type 0 where
  first : AreAt code label xs
  second : AreAt code (label + n) ys
  third : AreAt code (label + n + m) zs

three : (code : Listing) (label n m : ℕ) (xs ys zs : List Block) → length xs ≡ n → length ys ≡ m → AreAt code label (xs ++ (ys ++ zs)) → Three code label n m xs ys zs
three code label n m xs ys zs first second are =
    let others : AreAt code (label + n) (ys ++ zs) = subst (λ (k : ℕ). AreAt code (label + k) (ys ++ zs)) first (back code label xs (ys ++ zs) are) in
    record {
      first = front code label xs (ys ++ zs) are;
      second = front code (label + n) ys zs others;
      third = subst (λ (k : ℕ). AreAt code (label + n + k) zs) second (back code (label + n) ys zs others);
    }

-- ---- heights

pub height_positive : (e : Expr) → 1 ≤ height e
height_positive (Int n place) = lit≤ tt
height_positive (Var x) = lit≤ tt
height_positive (Cell' t p a q b) = omega arith
height_positive (Rows t) = lit≤ tt
height_positive (Cols t) = lit≤ tt
height_positive (Neg' p a place) = omega arith
height_positive (Bin' o place p a q b) = omega arith

-- the registers of the operands of a node
pub record Fits (to : ℕ) (a b : Expr) : Type 0 where
  pub node : to ≤ 22
  pub first : to + height a ≤ 24
  pub second : to + 1 + height b ≤ 24

pub fits : (to : ℕ) (a b : Expr) → to + suc (max (height a) (height b)) ≤ 24 → Fits to a b
fits to a b within = record {
  node = omega (arith, height_positive a, le-max_left (height a) (height b));
  first = omega (arith, le-max_left (height a) (height b));
  second = omega (arith, le-max_right (height a) (height b));
}

-- ---- the law

-- 0 minus a number is its product with -1
negated : (m : ℤ) → m *ℤ negsuc 0 ≡ pos 0 -ℤ m
negated m = omega (arith, ints)

literal_is : (vars : List Variable) (tables : List Table) (e : Expr) → IsNumber (literal e) (eval vars tables e).answer
literal_is vars tables (Int n place) = refl
literal_is vars tables (Var x) = tt
literal_is vars tables (Cell' t p a q b) = tt
literal_is vars tables (Rows t) = tt
literal_is vars tables (Cols t) = tt
literal_is vars tables (Neg' p a place) = tt
literal_is vars tables (Bin' o place p a q b) = tt

module _ (code : Listing) (heartbeat : ℕ) (K : Back code heartbeat) (scope : Scope) (vars : List Variable) (tables : List Table) where
  -- a variable's number comes from its register, or from its cell
  variable_law : (home : Option ℕ) (off to : ℕ) (n : ℤ) → to < 24
      → (state : State) (more : List Instr) (end : Term) (base : ℤ)
      → Remains code state.block state.at (variable_read home off to ++ more) end
      → length state.registers ≡ 32 → register state.registers 31 ≡ word.Int base
      → HasNumber state base home off n
      → After code heartbeat K to state more end (Number n) → K.Holds state
  variable_law (Some r) off to n below state more end base stands many is_base has after =
      let w : Word = register state.registers r in
      on_move code heartbeat K state to (value.Reg r) (next code state _ more end stands)
      (after (slice_set state.registers to w) (counted state.beat) (state.at + 1)
      (kept_set to to state w (omega arith) below)
      (register_set state.registers to w (omega (arith, many)) ∙ has.2)
      (behind code state.block state.at _ more end stands))
  variable_law None off to n below state more end base stands many is_base has after =
      on_load code heartbeat K state to 31 off base (word.Int n) (next code state _ more end stands)
      is_base has
      (after (slice_set state.registers to (word.Int n)) (counted state.beat) (state.at + 1)
      (kept_set to to state (word.Int n) (omega arith) below)
      (register_set state.registers to (word.Int n) (omega (arith, many)))
      (behind code state.block state.at _ more end stands))

  -- an operand stands in its register, or where its instructions leave it
  home_law : (home : Option ℕ) (off to : ℕ) (n : ℤ) (body : List Instr) (notes : List Note)
      → ((state : State) → (holds : Holds scope vars tables notes state)
      → HasNumber state holds.base home off n)
      → Evaluates code heartbeat K scope vars tables body to (Number n) notes
      → EvaluatesAt code heartbeat K scope vars tables (operand_at home to)
      (operand_body home body) to (Number n) notes
  home_law None off to n body notes has evaluates state more end stands holds after =
      evaluates state more end stands holds
      (after_own code heartbeat K to state more end (Number n) after)
  home_law (Some r) off to n body notes has evaluates state more end stands holds after =
      let there : HasNumber state holds.base (Some r) off n = has state holds in
      after state.registers state.beat state.at (kept to state) (inr there.0) there.2 stands

  own : (e : Expr) (label to : ℕ)
      → Evaluates code heartbeat K scope vars tables (body_of scope label e to) to
      (eval vars tables e).answer (eval vars tables e).notes
      → EvaluatesAt code heartbeat K scope vars tables to (body_of scope label e to) to
      (eval vars tables e).answer (eval vars tables e).notes
  own e label to evaluates =
      evaluates_own code heartbeat K scope vars tables (body_of scope label e to) to
      (eval vars tables e).answer (eval vars tables e).notes evaluates

  operand_law : (e : Expr) (label to : ℕ)
      → IsIn scope e
      → Evaluates code heartbeat K scope vars tables (body_of scope label e to) to
      (eval vars tables e).answer (eval vars tables e).notes
      → EvaluatesAt code heartbeat K scope vars tables (operand_at (home_of scope e) to)
      (operand_body (home_of scope e) (body_of scope label e to)) to
      (eval vars tables e).answer (eval vars tables e).notes
  operand_law (Int n place) label to is evaluates = own (Int n place) label to evaluates
  operand_law (Var x) label to is evaluates =
      home_law (register_of scope x.text.items) (offset_of scope x.text.items) to
      (lookup vars x.text.items) (body_of scope label (Var x) to) []
      (λ state holds. holds.variables x.text.items is) evaluates
  operand_law (Cell' t p a q b) label to is evaluates = own (Cell' t p a q b) label to evaluates
  operand_law (Rows t) label to is evaluates = own (Rows t) label to evaluates
  operand_law (Cols t) label to is evaluates = own (Cols t) label to evaluates
  operand_law (Neg' p a place) label to is evaluates = own (Neg' p a place) label to evaluates
  operand_law (Bin' o place p a q b) label to is evaluates = own (Bin' o place p a q b) label to evaluates

  -- In a code that has an expression's trap blocks, its instructions come to its answer, over any predicate
  -- that goes backwards.
  pub expr_law : (e : Expr) (label to : ℕ) → IsIn scope e → to + height e ≤ 24 → AreAt code label (traps_of label e) → Evaluates code heartbeat K scope vars tables (body_of scope label e to) to (eval vars tables e).answer (eval vars tables e).notes
  expr_law (Int n place) label to is within are state more end stands holds after =
      on_move code heartbeat K state to (value.Int n) (next code state _ more end stands)
      (after (slice_set state.registers to (word.Int n)) (counted state.beat) (state.at + 1) (kept_set to to state (word.Int n) (omega arith) (omega arith)) (register_set state.registers to (word.Int n) (omega (arith, holds.registers))) (behind code state.block state.at _ more end stands))
  expr_law (Var x) label to is within are state more end stands holds after =
      variable_law (register_of scope x.text.items) (offset_of scope x.text.items) to
      (lookup vars x.text.items) (omega arith) state more end holds.base stands holds.registers
      holds.is_base (holds.variables x.text.items is) after
  expr_law (Cell' t p a q b) label to is within are state more end stands holds after =
      let registers : Fits to a b = fits to a b within in
      let blocks : Three code label (trap_count a) (trap_count b) (traps_of label a) (traps_of (label + trap_count a) b) (trap_block (label + trap_count a + trap_count b) Index t.place ∷ []) = three code label (trap_count a) (trap_count b) _ _ _ (length_traps a label) (length_traps b (label + trap_count a)) are in
      cell_law code heartbeat K scope vars tables t is.0 (label + trap_count a + trap_count b) blocks.third.0 to (operand_at (home_of scope a) to) (operand_at (home_of scope b) (to + 1)) registers.node
      (operand_body (home_of scope a) (body_of scope label a to)) (operand_body (home_of scope b) (body_of scope (label + trap_count a) b (to + 1))) (eval vars tables a).answer (eval vars tables b).answer (eval vars tables a).notes (eval vars tables b).notes
      (operand_law a label to is.1 (expr_law a label to is.1 registers.first blocks.first))
      (operand_law b (label + trap_count a) (to + 1) is.2 (expr_law b (label + trap_count a) (to + 1) is.2 registers.second blocks.second)) state more end stands holds after
  expr_law (Rows t) label to is within are state more end stands holds after =
      let size : Word = word.Int (pos (table_at state.tables (table_number scope t.text.items)).rows) in
      on_rows code heartbeat K state to (table_number scope t.text.items) (next code state _ more end stands)
      (after (slice_set state.registers to size) (counted state.beat) (state.at + 1) (kept_set to to state size (omega arith) (omega arith)) (register_set state.registers to size (omega (arith, holds.registers)) ∙ ap (λ n. word.Int (pos n)) (holds.rows t.text.items is)) (behind code state.block state.at _ more end stands))
  expr_law (Cols t) label to is within are state more end stands holds after =
      let size : Word = word.Int (pos (table_at state.tables (table_number scope t.text.items)).cols) in
      on_cols code heartbeat K state to (table_number scope t.text.items) (next code state _ more end stands)
      (after (slice_set state.registers to size) (counted state.beat) (state.at + 1) (kept_set to to state size (omega arith) (omega arith)) (register_set state.registers to size (omega (arith, holds.registers)) ∙ ap (λ n. word.Int (pos n)) (holds.cols t.text.items is)) (behind code state.block state.at _ more end stands))
  expr_law (Neg' p a place) label to is within are state more end stands holds after =
      let at : ℕ = operand_at (home_of scope a) to in
      with_operand code heartbeat K scope vars tables (operand_body (home_of scope a) (body_of scope label a to)) (instr.Calc to at alu.Mul (value.Int (negsuc 0)) ∷ []) at to (eval vars tables a).answer (eval vars tables a).notes (λ n. number (wrapped (pos 0 -ℤ n)))
      (operand_law a label to is (expr_law a label to is (omega arith) are)) (λ m m_is here others last there first left held goes.
      ends_with code heartbeat K scope vars tables here others last to at alu.Mul (value.Int (negsuc 0)) (wrapped (pos 0 -ℤ m)) (omega (arith, height_positive a)) held.registers left
      (on_literal code heartbeat K scope vars tables alu.Mul here.registers at m (negsuc 0) _ (ap (λ z. Ok (word.Int (wrapped z))) (negated m)) first) goes) state more end stands holds after
  expr_law (Bin' o place p a q b) label to is within are state more end stands holds after =
      let registers : Fits to a b = fits to a b within in
      let blocks : Three code label (trap_count a) (trap_count b) (traps_of label a) (traps_of (label + trap_count a) b) (cond (can_trap o (literal b)) (trap_block (label + trap_count a + trap_count b) Divide place ∷ []) []) = three code label (trap_count a) (trap_count b) _ _ _ (length_traps a label) (length_traps b (label + trap_count a)) are in
      let left : ℕ = operand_at (home_of scope a) to in
      let right : ℕ = operand_at (home_of scope b) (to + 1) in
      let body : List Instr = operand_body (home_of scope b) (body_of scope (label + trap_count a) b (to + 1)) in
      with_operand code heartbeat K scope vars tables (operand_body (home_of scope a) (body_of scope label a to)) (operation o to left right body (literal b) (label + trap_count a + trap_count b)) left to (eval vars tables a).answer (eval vars tables a).notes (λ m. bind (eval vars tables b) (λ n. meaning.calculated o place m n))
      (operand_law a label to is.0 (expr_law a label to is.0 registers.first blocks.first)) (λ m m_is.
      operation_law code heartbeat K scope vars tables o to left right (label + trap_count a + trap_count b) place registers.node m body (eval vars tables b).answer (eval vars tables b).notes (eval vars tables a).notes (literal b) (literal_is vars tables b) blocks.third
      (operand_law b (label + trap_count a) (to + 1) is.1 (expr_law b (label + trap_count a) (to + 1) is.1 registers.second blocks.second))) state more end stands holds after
