-- The instructions that read a cell.
use Rattle.std.proofs.Common.{◌≡◌, ◌≢◌, ℕ, ◌+◌, ◌<◌, ◌≤◌, Bool, true, false, cond, List, [], ◌∷◌}
use Rattle.std.proofs.Common.{◌++◌, Some, Ok, refl, ap, sym, subst, ◌∙◌, arith, ltb-true}
use Rattle.std.specs.Prelude.{ℤ, pos, ◌&&◌, int_lt, int_le, slice_set, nat_lt, length}
use Rattle.std.specs.Int.{int_min}
use Rattle.beat_count.specs.BeatState.{BeatState}
use Rattle.beat_count.specs.Heartbeat.{counted}
use Rattle.slices.specs.Holding.{cell_at}
use Rattle.tp_value.specs.Number.{truth}
use Rattle.tp_value.specs.declared.Place.{Place}
use Rattle.tp_value.specs.declared.Table.{Table}
use Rattle.tp_value.specs.declared.TrapKind.TheVariants.{Index}
use Rattle.loop_syntax.specs.declared.Name.{Name}
use Rattle.loop_meaning.specs.declared.value.Answer.{Answer}
use Rattle.loop_meaning.specs.declared.value.Answer.TheVariants.{Number, Traps}
use Rattle.loop_meaning.specs.declared.value.Variable.{Variable}
use Rattle.loop_meaning.specs.Expressions.{Value, traps, bind_answer, read_cell}
use Rattle.loop_meaning.specs.State.{Note, Reads, is_below, has_cell, cell_of, table_of}
use Rattle.tpal_syntax.specs.declared.instructions.Alu.{Alu}
use Rattle.tpal_syntax.specs.declared.instructions.Alu.TheVariants as alu
use Rattle.tpal_syntax.specs.declared.instructions.Instr.{Instr}
use Rattle.tpal_syntax.specs.declared.instructions.Instr.TheVariants as instr
use Rattle.tpal_syntax.specs.declared.instructions.Term.{Term}
use Rattle.tpal_syntax.specs.declared.instructions.Value as operands
use Rattle.tpal_syntax.specs.declared.instructions.Value.TheVariants as value
use Rattle.tpal_syntax.specs.declared.words.Word.{Word}
use Rattle.tpal_syntax.specs.declared.words.Word.TheVariants as word
use Rattle.tpal_syntax.specs.Listing.{Listing}
use Rattle.tpal_machine.specs.Calculation as machine
use Rattle.tpal_machine.specs.Calculation.{on_numbers}
use Rattle.tpal_machine.specs.Effect.{on_held}
use Rattle.tpal_machine.specs.Reading.{register, operand, block_at, table_at, with_register}
use Rattle.tpal_machine.specs.State.{State}
use Rattle.tpal_machine.specs.Step.{stepped, advanced}
use Rattle.tpal_machine.proofs.Kit.{Back, IsNext}
use Rattle.tpal_machine.proofs.Steps.{step_of_instr}
use Rattle.expr_lower.specs.declared.scope.Scope.{Scope}
use Rattle.expr_lower.specs.Bodies.{trap_block, below_test, row_test, col_test, range_tests}
use Rattle.expr_lower.specs.Bodies.{cell_read}
use Rattle.expr_lower.specs.Holding.{Holds}
use Rattle.expr_lower.specs.Leaving.{Keeps, moved, moved_to}
use Rattle.expr_lower.specs.Scopes.{HasTable, table_number}
use Rattle.expr_lower.specs.Standing.{Remains}
use Rattle.expr_lower.proofs.Evaluating.{After, after_moved, calculates, tests, Evaluates}
use Rattle.expr_lower.proofs.Evaluating.{EvaluatesAt, EvaluatesOnBoth, with_operand, with_second}
use Rattle.expr_lower.proofs.Evaluating.{holds_moved, holds_front, holds_back}
use Rattle.expr_lower.proofs.Indexes.{and_false, lesser_below, both_positions, IsPosition}
use Rattle.expr_lower.proofs.Indexes.{not_below_size, below_size}
use Rattle.expr_lower.proofs.Keeping.{register_set, register_other, kept_set, kept_counted}
use Rattle.expr_lower.proofs.Keeping.{kept_twice, kept_wider, kept_apart, Apart, apart_other}
use Rattle.expr_lower.proofs.Keeping.{stands_apart, stands_other}
use Rattle.expr_lower.proofs.Standing.{next, behind, split}

module _ (code : Listing) (heartbeat : ℕ) (K : Back code heartbeat) where
  -- ---- the instructions on tables

  -- `rows` and `cols` leave the size of the whole table
  pub on_rows : (state : State) (to table : ℕ) → IsNext code state (instr.Rows to table) → K.Holds (moved state (slice_set state.registers to (word.Int (pos (table_at state.tables table).rows))) (counted state.beat) (state.at + 1)) → K.Holds state
  on_rows state to table at holds = K.back state _ (λ allowed. step_of_instr code heartbeat allowed state at.block _ at.found at.is) holds

  pub on_cols : (state : State) (to table : ℕ) → IsNext code state (instr.Cols to table) → K.Holds (moved state (slice_set state.registers to (word.Int (pos (table_at state.tables table).cols))) (counted state.beat) (state.at + 1)) → K.Holds state
  on_cols state to table at holds = K.back state _ (λ allowed. step_of_instr code heartbeat allowed state at.block _ at.found at.is) holds

  -- `fetch` leaves a cell that is held
  pub on_fetch : (state : State) (to table row col : ℕ) (i j n : ℤ) → IsNext code state (instr.Fetch to table row col) → register state.registers row ≡ word.Int i → register state.registers col ≡ word.Int j → cell_at (table_at state.tables table) i j ≡ Some n → K.Holds (moved state (slice_set state.registers to (word.Int n)) (counted state.beat) (state.at + 1)) → K.Holds state
  on_fetch state to table row col i j n at first second held holds =
      K.back state _ (λ allowed.
      step_of_instr code heartbeat allowed state at.block _ at.found at.is
      ∙ ap (λ w. stepped (on_numbers w (register state.registers col) (λ a b. on_held (cell_at (table_at state.tables table) a b) (λ k. Ok (with_register (advanced state) to (word.Int k)))))) first
      ∙ ap (λ w. stepped (on_numbers (word.Int i) w (λ a b. on_held (cell_at (table_at state.tables table) a b) (λ k. Ok (with_register (advanced state) to (word.Int k)))))) second
      ∙ ap (λ o. stepped (on_held o (λ k. Ok (with_register (advanced state) to (word.Int k))))) held) holds

  -- ---- the tests of an index

  -- where a test that holds leads: to a trap block, with the register of the test changed
  abbrev pub Trapped : ℕ → State → ℕ → Place → Type 0
  Trapped test state trap place = (words : List Word) (beat : BeatState) → Keeps test state words beat → IsNext code (moved_to state words beat trap 0) (instr.Trap Index place) → K.Holds (moved_to state words beat trap 0)

  -- where one that doesn't hold leads: on in the block, with no register below that of the test changed
  abbrev pub Passed : ℕ → State → List Instr → Term → Type 0
  Passed test state more end = (words : List Word) (beat : BeatState) (at : ℕ) → Keeps test state words beat → Remains code state.block at more end → K.Holds (moved state words beat at)

  -- the calculation of a test in a register that has been set, and the test
  checked : (is_so : Bool) (state : State) (before : Word) (more : List Instr) (end : Term) (test trap : ℕ) (place : Place) (o : Alu) (right : operands.Value) → test < 24 → length state.registers ≡ 32 → Remains code state.block (state.at + 1) (instr.Calc test test o right ∷ instr.IfJump test trap ∷ more) end → block_at code trap ≡ Some (trap_block trap Index place)
      → machine.calculated o (register (slice_set state.registers test before) test) (operand (slice_set state.registers test before) right) ≡ Ok (word.Int (truth is_so))
      → (is_so ≡ true → Trapped test state trap place) → (is_so ≡ false → Passed test state more end)
      → K.Holds (moved state (slice_set state.registers test before) (counted state.beat) (state.at + 1))
  checked is_so state before more end test trap place o right low size stands found gives trapped passed =
      let first : List Word = slice_set state.registers test before in
      let beat : BeatState = counted state.beat in
      let answer : Word = word.Int (truth is_so) in
      let second : List Word = slice_set first test answer in
      let kept_first : Keeps test state first beat = kept_set test test state before (omega arith) low in
      let kept_second : Keeps test state second (counted beat) = kept_twice test test state first second beat (counted beat) (state.at + 1) (omega arith) kept_first (kept_set test test (moved state first beat (state.at + 1)) answer (omega arith) low) in
      let kept_third : Keeps test state second (counted (counted beat)) = kept_twice test test state second second (counted beat) (counted (counted beat)) (state.at + 1 + 1) (omega arith) kept_second (kept_counted test (moved state second (counted beat) (state.at + 1 + 1))) in
      calculates code heartbeat K (moved state first beat (state.at + 1)) (instr.IfJump test trap ∷ more) end test test o right answer stands gives (λ stands_on.
      tests code heartbeat K is_so (moved state second (counted beat) (state.at + 1 + 1)) more end test trap Index place (register_set first test answer (omega (arith, kept_first.size))) stands_on found
      (λ is trap_next. trapped is second (counted (counted beat)) kept_third trap_next)
      (λ is left. passed is second (counted (counted beat)) (state.at + 1 + 1 + 1) kept_third left))

  -- a trap where one of two indexes is below 0
  below_law : (state : State) (more : List Instr) (end : Term) (row col test trap : ℕ) (place : Place) (i j : ℤ) → test < 24 → length state.registers ≡ 32 → register state.registers row ≡ word.Int i → register state.registers col ≡ word.Int j → Remains code state.block state.at (below_test row col test trap ++ more) end → block_at code trap ≡ Some (trap_block trap Index place)
      → (int_lt (int_min i j) (pos 0) ≡ true → Trapped test state trap place) → (int_lt (int_min i j) (pos 0) ≡ false → Passed test state more end) → K.Holds state
  below_law state more end row col test trap place i j low size first second stands found trapped passed =
      let lesser : Word = word.Int (int_min i j) in
      calculates code heartbeat K state (instr.Calc test test alu.Lt (value.Int (pos 0)) ∷ instr.IfJump test trap ∷ more) end test row alu.Min (value.Reg col) lesser stands
      (ap (λ u. machine.calculated alu.Min u (register state.registers col)) first ∙ ap (λ u. machine.calculated alu.Min (word.Int i) u) second) (λ stands_on.
      checked (int_lt (int_min i j) (pos 0)) state lesser more end test trap place alu.Lt (value.Int (pos 0)) low size stands_on found
      (ap (λ u. machine.calculated alu.Lt u (word.Int (pos 0))) (register_set state.registers test lesser (omega arith))) trapped passed)

  -- a trap where an index isn't below the size that a first step leaves in the register of the test
  size_law : (state : State) (more : List Instr) (end : Term) (index test trap : ℕ) (place : Place) (i : ℤ) (n : ℕ) → index ≢ test → test < 24 → length state.registers ≡ 32 → register state.registers index ≡ word.Int i → Remains code state.block (state.at + 1) (instr.Calc test test alu.Le (value.Reg index) ∷ instr.IfJump test trap ∷ more) end → block_at code trap ≡ Some (trap_block trap Index place)
      → (K.Holds (moved state (slice_set state.registers test (word.Int (pos n))) (counted state.beat) (state.at + 1)) → K.Holds state)
      → (int_le (pos n) i ≡ true → Trapped test state trap place) → (int_le (pos n) i ≡ false → Passed test state more end) → K.Holds state
  size_law state more end index test trap place i n other low size is stands found first_step trapped passed =
      first_step (checked (int_le (pos n) i) state (word.Int (pos n)) more end test trap place alu.Le (value.Reg index) low size stands found
      (ap (λ u. machine.calculated alu.Le u (register (slice_set state.registers test (word.Int (pos n))) index)) (register_set state.registers test (word.Int (pos n)) (omega arith))
      ∙ ap (λ u. machine.calculated alu.Le (word.Int (pos n)) u) (register_other state.registers test index (word.Int (pos n)) other ∙ is)) trapped passed)

  row_law : (state : State) (more : List Instr) (end : Term) (table row test trap : ℕ) (place : Place) (i : ℤ) → row ≢ test → test < 24 → length state.registers ≡ 32 → register state.registers row ≡ word.Int i → Remains code state.block state.at (row_test table row test trap ++ more) end → block_at code trap ≡ Some (trap_block trap Index place)
      → (int_le (pos (table_at state.tables table).rows) i ≡ true → Trapped test state trap place) → (int_le (pos (table_at state.tables table).rows) i ≡ false → Passed test state more end) → K.Holds state
  row_law state more end table row test trap place i other low size is stands found trapped passed =
      size_law state more end row test trap place i (table_at state.tables table).rows other low size is (behind code state.block state.at _ _ end stands) found (on_rows state test table (next code state _ _ end stands)) trapped passed

  col_law : (state : State) (more : List Instr) (end : Term) (table col test trap : ℕ) (place : Place) (j : ℤ) → col ≢ test → test < 24 → length state.registers ≡ 32 → register state.registers col ≡ word.Int j → Remains code state.block state.at (col_test table col test trap ++ more) end → block_at code trap ≡ Some (trap_block trap Index place)
      → (int_le (pos (table_at state.tables table).cols) j ≡ true → Trapped test state trap place) → (int_le (pos (table_at state.tables table).cols) j ≡ false → Passed test state more end) → K.Holds state
  col_law state more end table col test trap place j other low size is stands found trapped passed =
      size_law state more end col test trap place j (table_at state.tables table).cols other low size is (behind code state.block state.at _ _ end stands) found (on_cols state test table (next code state _ _ end stands)) trapped passed

  module _ (scope : Scope) (vars : List Variable) (tables : List Table) (t : Name) (has : HasTable scope t.text.items) (trap : ℕ) (found : block_at code trap ≡ Some (trap_block trap Index t.place)) where
    abbrev table : ℕ
    table = table_number scope t.text.items

    abbrev meant : Table
    meant = table_of tables t.text.items

    -- ---- the answer, by the tests

    out_of_range : (i j : ℤ) → has_cell meant i j ≡ false → read_cell tables t i j ≡ traps Index t.place
    out_of_range i j is_not = ap (λ b. elim b [ true ↦ record { answer = Number (cell_of meant i j); notes = Reads t.text.items i j ∷ [] } | false ↦ traps Index t.place ]) is_not

    in_range : (i j : ℤ) → has_cell meant i j ≡ true → read_cell tables t i j ≡ record { answer = Number (cell_of meant i j); notes = Reads t.text.items i j ∷ [] }
    in_range i j is_so = ap (λ b. elim b [ true ↦ record { answer = Number (cell_of meant i j); notes = Reads t.text.items i j ∷ [] } | false ↦ traps Index t.place ]) is_so

    row_out : (i j : ℤ) → is_below i meant.rows ≡ false → has_cell meant i j ≡ false
    row_out i j is_not = ap (λ b. b && is_below j meant.cols) is_not

    col_out : (i j : ℤ) → is_below j meant.cols ≡ false → has_cell meant i j ≡ false
    col_out i j is_not = ap (λ b. is_below i meant.rows && b) is_not ∙ and_false (is_below i meant.rows)

    both_in : (i j : ℤ) → is_below i meant.rows ≡ true → is_below j meant.cols ≡ true → has_cell meant i j ≡ true
    both_in i j row col = ap (λ b. b && is_below j meant.cols) row ∙ col

    -- The tests lead to the trap where the table has no cell at that row and column, and on in the block
    -- where it has one. They leave the registers of the row and the column alone.
    pub range_law : (state : State) (more : List Instr) (end : Term) (row col test : ℕ) (i j : ℤ) (notes : List Note) → Apart test row → Apart test col → test < 24 → register state.registers row ≡ word.Int i → register state.registers col ≡ word.Int j → Holds scope vars tables notes state → Remains code state.block state.at (range_tests table row col test trap ++ more) end
        → (has_cell meant i j ≡ false → Trapped test state trap t.place) → (has_cell meant i j ≡ true → Passed test state more end) → K.Holds state
    range_law state more end row col test i j notes row_apart col_apart low row_in col_in holds stands trapped passed =
        below_law state (row_test table row test trap ++ (col_test table col test trap ++ more)) end row col test trap t.place i j low holds.registers row_in col_in stands found
        (λ is_so. trapped (lesser_below i j meant.rows meant.cols is_so))
        (λ is_not words beat at keeps left.
        let positions : IsPosition i × IsPosition j = both_positions i j is_not in
        row_law (moved state words beat at) (col_test table col test trap ++ more) end table row test trap t.place i (apart_other test row low row_apart) low (keeps.size ∙ holds.registers) (kept_apart test row state words beat row_apart keeps ∙ row_in) left found
        (λ is_so words2 beat2 keeps2 trap_next. trapped (row_out i j (not_below_size i meant.rows (ap (λ n. int_le (pos n) i) (sym (holds.rows t.text.items has)) ∙ is_so))) words2 beat2 (kept_twice test test state words words2 beat beat2 at (omega arith) keeps keeps2) trap_next)
        (λ row_no words2 beat2 at2 keeps2 left2.
        let both : Keeps test state words2 beat2 = kept_twice test test state words words2 beat beat2 at (omega arith) keeps keeps2 in
        col_law (moved state words2 beat2 at2) more end table col test trap t.place j (apart_other test col low col_apart) low (both.size ∙ holds.registers) (kept_apart test col state words2 beat2 col_apart both ∙ col_in) left2 found
        (λ is_so words3 beat3 keeps3 trap_next. trapped (col_out i j (not_below_size j meant.cols (ap (λ n. int_le (pos n) j) (sym (holds.cols t.text.items has)) ∙ is_so))) words3 beat3 (kept_twice test test state words2 words3 beat2 beat3 at2 (omega arith) both keeps3) trap_next)
        (λ col_no words3 beat3 at3 keeps3 left3.
        passed (both_in i j (below_size i meant.rows positions.0 (ap (λ n. int_le (pos n) i) (sym (holds.rows t.text.items has)) ∙ row_no)) (below_size j meant.cols positions.1 (ap (λ n. int_le (pos n) j) (sym (holds.cols t.text.items has)) ∙ col_no)))
        words3 beat3 at3 (kept_twice test test state words2 words3 beat2 beat3 at2 (omega arith) both keeps3) left3)))

    module _ (to row_at col_at : ℕ) (within : to ≤ 22) where
      -- a test that holds leads to the trap of the answer
      leads : (state : State) (more : List Instr) (end : Term) (test : ℕ) (i j : ℤ) → to ≤ test → has_cell meant i j ≡ false → After code heartbeat K to state more end (read_cell tables t i j).answer → Trapped test state trap t.place
      leads state more end test i j from is_not after words beat keeps at =
          let trapped : After code heartbeat K to state more end (Traps Index t.place) = subst (λ (v : Value). After code heartbeat K to state more end v.answer) (out_of_range i j is_not) after in
          trapped words beat trap (kept_wider to test state words beat from keeps) at

      -- the read of a cell in range, which is held
      read : (state : State) (more : List Instr) (end : Term) (i j : ℤ) (before second : List Note) → has_cell meant i j ≡ true → register state.registers row_at ≡ word.Int i → register state.registers col_at ≡ word.Int j → Holds scope vars tables (before ++ (second ++ (read_cell tables t i j).notes)) state → Remains code state.block state.at (instr.Fetch to table row_at col_at ∷ more) end → After code heartbeat K to state more end (read_cell tables t i j).answer → K.Holds state
      read state more end i j before second is_so row col holds stands after =
          let noted : Holds scope vars tables (Reads t.text.items i j ∷ []) state = subst (λ (v : Value). Holds scope vars tables v.notes state) (in_range i j is_so) (holds_back scope vars tables state second (read_cell tables t i j).notes (holds_back scope vars tables state before (second ++ (read_cell tables t i j).notes) holds)) in
          let goes : After code heartbeat K to state more end (Number (cell_of meant i j)) = subst (λ (v : Value). After code heartbeat K to state more end v.answer) (in_range i j is_so) after in
          let cell : Word = word.Int (cell_of meant i j) in
          on_fetch state to table row_at col_at i j (cell_of meant i j) (next code state _ more end stands) row col noted.cells.0
          (goes (slice_set state.registers to cell) (counted state.beat) (state.at + 1) (kept_set to to state cell (omega arith) (omega arith)) (register_set state.registers to cell (omega (arith, holds.registers))) (behind code state.block state.at _ more end stands))

      -- ---- the two forms

      module _ (row col : List Instr) (row_answer col_answer : Answer) (row_notes col_notes : List Note) where
        -- the tests in a register of their own, and the read
        abbrev apart : List Instr
        apart = range_tests table row_at col_at (to + 2) trap ++ instr.Fetch to table row_at col_at ∷ []

        -- the row and the column once more, and the read
        abbrev anew : List Instr
        anew = row ++ (col ++ instr.Fetch to table row_at col_at ∷ [])

        -- the tests in the registers where the instructions of the row and the column leave them
        abbrev in_place : List Instr
        in_place = below_test row_at col_at (to + 1) trap ++ (row_test table row_at (to + 1) trap ++ (col ++ (col_test table col_at to trap ++ anew)))

        -- the answer of the read
        abbrev answered : Value
        answered = bind_answer row_answer row_notes (λ i. bind_answer col_answer col_notes (λ j. read_cell tables t i j))

        abbrev OnRow : Answer → Type 0
        OnRow answer = EvaluatesAt code heartbeat K scope vars tables row_at row to answer row_notes

        abbrev OnCol : Answer → Type 0
        OnCol answer = EvaluatesAt code heartbeat K scope vars tables col_at col (to + 1) answer col_notes

        tested_apart : (i j : ℤ) → to < 22 → EvaluatesOnBoth code heartbeat K scope vars tables row_at col_at i j apart to (read_cell tables t i j).answer (row_notes ++ (col_notes ++ (read_cell tables t i j).notes))
        tested_apart i j low state more end row_there col_there row_in col_in stands holds after =
            let row_apart : Apart (to + 2) row_at = stands_apart to (to + 2) row_at (omega arith) row_there in
            let col_apart : Apart (to + 2) col_at = stands_apart (to + 1) (to + 2) col_at (omega arith) col_there in
            range_law state (instr.Fetch to table row_at col_at ∷ more) end row_at col_at (to + 2) i j _ row_apart col_apart (omega arith) row_in col_in holds stands
            (λ is_not. leads state more end (to + 2) i j (omega arith) is_not after)
            (λ is_so words beat at keeps left.
            let wider : Keeps to state words beat = kept_wider to (to + 2) state words beat (omega arith) keeps in
            read (moved state words beat at) more end i j row_notes col_notes is_so (kept_apart (to + 2) row_at state words beat row_apart keeps ∙ row_in) (kept_apart (to + 2) col_at state words beat col_apart keeps ∙ col_in) (holds_moved scope vars tables _ to state words beat at wider holds) left (after_moved code heartbeat K to state more end (read_cell tables t i j).answer words beat at wider after))

        again : (i j : ℤ) → OnRow (Number i) → OnCol (Number j) → (state : State) (more : List Instr) (end : Term) → has_cell meant i j ≡ true → Holds scope vars tables (row_notes ++ (col_notes ++ (read_cell tables t i j).notes)) state → Remains code state.block state.at (anew ++ more) end → After code heartbeat K to state more end (read_cell tables t i j).answer → K.Holds state
        again i j on_i on_j state more end is_so holds stands after =
            on_i state ((col ++ instr.Fetch to table row_at col_at ∷ []) ++ more) end (split code state.block state.at row _ more end stands) (holds_front scope vars tables state row_notes _ holds) (λ words beat at keeps row_there row_in left.
            let holds1 : Holds scope vars tables (row_notes ++ (col_notes ++ (read_cell tables t i j).notes)) (moved state words beat at) = holds_moved scope vars tables _ to state words beat at keeps holds in
            on_j (moved state words beat at) (instr.Fetch to table row_at col_at ∷ more) end (split code state.block at col _ more end left) (holds_front scope vars tables (moved state words beat at) col_notes _ (holds_back scope vars tables (moved state words beat at) row_notes _ holds1)) (λ words2 beat2 at2 keeps2 col_there col_in left2.
            let both : Keeps to state words2 beat2 = kept_twice to (to + 1) state words words2 beat beat2 at (omega arith) keeps keeps2 in
            read (moved state words2 beat2 at2) more end i j row_notes col_notes is_so (kept_apart (to + 1) row_at (moved state words beat at) words2 beat2 (stands_apart to (to + 1) row_at (omega arith) row_there) keeps2 ∙ row_in) col_in (holds_moved scope vars tables _ to state words2 beat2 at2 both holds) left2 (after_moved code heartbeat K to state more end (read_cell tables t i j).answer words2 beat2 at2 both after)))

        tested_in_place : (i j : ℤ) → OnRow (Number i) → OnCol (Number j) → EvaluatesOnBoth code heartbeat K scope vars tables row_at col_at i j in_place to (read_cell tables t i j).answer (row_notes ++ (col_notes ++ (read_cell tables t i j).notes))
        tested_in_place i j on_i on_j state more end row_there col_there row_in col_in stands holds after =
            let row_apart : Apart (to + 1) row_at = stands_apart to (to + 1) row_at (omega arith) row_there in
            below_law state (row_test table row_at (to + 1) trap ++ ((col ++ (col_test table col_at to trap ++ (row ++ (col ++ instr.Fetch to table row_at col_at ∷ [])))) ++ more)) end row_at col_at (to + 1) trap t.place i j (omega arith) holds.registers row_in col_in stands found
            (λ is_so. leads state more end (to + 1) i j (omega arith) (lesser_below i j meant.rows meant.cols is_so) after)
            (λ is_not words beat at keeps left.
            let positions : IsPosition i × IsPosition j = both_positions i j is_not in
            let wider : Keeps to state words beat = kept_wider to (to + 1) state words beat (omega arith) keeps in
            row_law (moved state words beat at) ((col ++ (col_test table col_at to trap ++ (row ++ (col ++ instr.Fetch to table row_at col_at ∷ [])))) ++ more) end table row_at (to + 1) trap t.place i (apart_other (to + 1) row_at (omega arith) row_apart) (omega arith) (keeps.size ∙ holds.registers) (kept_apart (to + 1) row_at state words beat row_apart keeps ∙ row_in) left found
            (λ is_so. leads (moved state words beat at) more end (to + 1) i j (omega arith) (row_out i j (not_below_size i meant.rows (ap (λ n. int_le (pos n) i) (sym (holds.rows t.text.items has)) ∙ is_so))) (after_moved code heartbeat K to state more end (read_cell tables t i j).answer words beat at wider after))
            (λ row_no words2 beat2 at2 keeps2 left2.
            let both : Keeps to state words2 beat2 = kept_twice to (to + 1) state words words2 beat beat2 at (omega arith) wider keeps2 in
            let holds2 : Holds scope vars tables (row_notes ++ (col_notes ++ (read_cell tables t i j).notes)) (moved state words2 beat2 at2) = holds_moved scope vars tables _ to state words2 beat2 at2 both holds in
            on_j (moved state words2 beat2 at2) ((col_test table col_at to trap ++ (row ++ (col ++ instr.Fetch to table row_at col_at ∷ []))) ++ more) end (split code state.block at2 col _ more end left2) (holds_front scope vars tables (moved state words2 beat2 at2) col_notes _ (holds_back scope vars tables (moved state words2 beat2 at2) row_notes _ holds2)) (λ words3 beat3 at3 keeps3 col_still col_now left3.
            let three : Keeps to state words3 beat3 = kept_twice to (to + 1) state words2 words3 beat2 beat3 at2 (omega arith) both keeps3 in
            col_law (moved state words3 beat3 at3) ((row ++ (col ++ instr.Fetch to table row_at col_at ∷ [])) ++ more) end table col_at to trap t.place j (stands_other (to + 1) to col_at (λ e. absurd (omega (arith, e))) (omega arith) col_there) (omega arith) (three.size ∙ holds.registers) col_now left3 found
            (λ is_so. leads (moved state words3 beat3 at3) more end to i j (omega arith) (col_out i j (not_below_size j meant.cols (ap (λ n. int_le (pos n) j) (sym (holds.cols t.text.items has)) ∙ is_so))) (after_moved code heartbeat K to state more end (read_cell tables t i j).answer words3 beat3 at3 three after))
            (λ col_no words4 beat4 at4 keeps4 left4.
            let four : Keeps to state words4 beat4 = kept_twice to to state words3 words4 beat3 beat4 at3 (omega arith) three keeps4 in
            let is_so : has_cell meant i j ≡ true = both_in i j (below_size i meant.rows positions.0 (ap (λ n. int_le (pos n) i) (sym (holds.rows t.text.items has)) ∙ row_no)) (below_size j meant.cols positions.1 (ap (λ n. int_le (pos n) j) (sym (holds.cols t.text.items has)) ∙ col_no)) in
            again i j on_i on_j (moved state words4 beat4 at4) more end is_so (holds_moved scope vars tables _ to state words4 beat4 at4 four holds) left4 (after_moved code heartbeat K to state more end (read_cell tables t i j).answer words4 beat4 at4 four after)))))

        -- behind the row and the column either form reads the cell
        by_form : (form : Bool) → nat_lt to 22 ≡ form → OnRow row_answer → OnCol col_answer → Evaluates code heartbeat K scope vars tables (cond form (row ++ (col ++ apart)) (row ++ (col ++ in_place))) to answered.answer answered.notes
        by_form true low on_row on_col =
            with_operand code heartbeat K scope vars tables row (col ++ apart) row_at to row_answer row_notes (λ i. bind_answer col_answer col_notes (λ j. read_cell tables t i j)) on_row (λ i row_is.
            with_second code heartbeat K scope vars tables col apart row_at col_at to i col_answer col_notes row_notes (λ j. read_cell tables t i j) on_col (λ j col_is. tested_apart i j (ltb-true to 22 low)))
        by_form false low on_row on_col =
            with_operand code heartbeat K scope vars tables row (col ++ in_place) row_at to row_answer row_notes (λ i. bind_answer col_answer col_notes (λ j. read_cell tables t i j)) on_row (λ i row_is.
            with_second code heartbeat K scope vars tables col in_place row_at col_at to i col_answer col_notes row_notes (λ j. read_cell tables t i j) on_col (λ j col_is.
            tested_in_place i j (subst OnRow row_is on_row) (subst OnCol col_is on_col)))

        -- the read of a cell evaluates it
        pub cell_law : OnRow row_answer → OnCol col_answer → Evaluates code heartbeat K scope vars tables (cell_read table to row_at col_at row col trap) to answered.answer answered.notes
        cell_law on_row on_col = by_form (nat_lt to 22) refl on_row on_col
