-- Instructions that leave the number of an answer in a register, or trap where it is a trap: what they are
-- over any predicate that goes backwards, and how those of two operands are put together.
use Rattle.std.proofs.Common.{◌≡◌, ℕ, ◌+◌, Bool, true, false, List, [], ◌∷◌, ◌++◌, Option, Some}
use Rattle.std.proofs.Common.{None, Ok, inl, refl, ap, ◌∙◌, arith}
use Rattle.std.specs.Prelude.{ℤ, pos, slice_set}
use Rattle.std.specs.List.{AllByRecursion}
use Rattle.beat_count.specs.BeatState.{BeatState}
use Rattle.beat_count.specs.Heartbeat.{counted}
use Rattle.tp_value.specs.Number.{truth}
use Rattle.tp_value.specs.declared.Place.{Place}
use Rattle.tp_value.specs.declared.Table.{Table}
use Rattle.tp_value.specs.declared.TrapKind.{TrapKind}
use Rattle.loop_meaning.specs.declared.value.Answer.{Answer}
use Rattle.loop_meaning.specs.declared.value.Answer.TheVariants.{Number, Traps}
use Rattle.loop_meaning.specs.declared.value.Variable.{Variable}
use Rattle.loop_meaning.specs.Expressions.{Value, bind_answer}
use Rattle.loop_meaning.specs.State.{Note, lookup}
use Rattle.tpal_syntax.specs.Conditions.{is_ready}
use Rattle.tpal_syntax.specs.declared.instructions.Alu.{Alu}
use Rattle.tpal_syntax.specs.declared.instructions.Instr.{Instr}
use Rattle.tpal_syntax.specs.declared.instructions.Instr.TheVariants as instr
use Rattle.tpal_syntax.specs.declared.instructions.Term.{Term}
use Rattle.tpal_syntax.specs.declared.instructions.Value as operands
use Rattle.tpal_syntax.specs.declared.words.Word.{Word}
use Rattle.tpal_syntax.specs.declared.words.Word.TheVariants as word
use Rattle.tpal_syntax.specs.Listing.{Listing}
use Rattle.tpal_machine.specs.Calculation.{calculated}
use Rattle.tpal_machine.specs.Reading.{register, operand, block_at, note_of}
use Rattle.tpal_machine.specs.State.{State}
use Rattle.tpal_machine.proofs.Kit.{Back, IsNext, on_calc, on_if, on_if_not}
use Rattle.expr_lower.specs.declared.scope.Scope.{Scope}
use Rattle.expr_lower.specs.Bodies.{trap_block}
use Rattle.expr_lower.specs.Holding.{Holds, HasNumber, IsHeld}
use Rattle.expr_lower.specs.Leaving.{Keeps, moved, moved_to}
use Rattle.expr_lower.specs.Scopes.{offset_of, register_of}
use Rattle.expr_lower.specs.Standing.{Remains}
use Rattle.expr_lower.proofs.Keeping.{kept_twice, kept_wider, kept_apart, Stands, stands_apart}
use Rattle.expr_lower.proofs.Standing.{next, behind, split}

-- ---- what a task holds

held_front : (scope : Scope) (tables : List Table) (state : State) (xs ys : List Note) → AllByRecursion (IsHeld scope tables state) (xs ++ ys) → AllByRecursion (IsHeld scope tables state) xs
held_front scope tables state [] ys held = tt
held_front scope tables state (x ∷ xs) ys (is, held) = (is, held_front scope tables state xs ys held)

held_back : (scope : Scope) (tables : List Table) (state : State) (xs ys : List Note) → AllByRecursion (IsHeld scope tables state) (xs ++ ys) → AllByRecursion (IsHeld scope tables state) ys
held_back scope tables state [] ys held = held
held_back scope tables state (x ∷ xs) ys (is, held) = held_back scope tables state xs ys held

pub holds_front : (scope : Scope) (vars : List Variable) (tables : List Table) (state : State) (xs ys : List Note) → Holds scope vars tables (xs ++ ys) state → Holds scope vars tables xs state
holds_front scope vars tables state xs ys holds = record {
  registers = holds.registers;
  base = holds.base;
  is_base = holds.is_base;
  variables = holds.variables;
  rows = holds.rows;
  cols = holds.cols;
  cells = held_front scope tables state xs ys holds.cells;
}

pub holds_back : (scope : Scope) (vars : List Variable) (tables : List Table) (state : State) (xs ys : List Note) → Holds scope vars tables (xs ++ ys) state → Holds scope vars tables ys state
holds_back scope vars tables state xs ys holds = record {
  registers = holds.registers;
  base = holds.base;
  is_base = holds.is_base;
  variables = holds.variables;
  rows = holds.rows;
  cols = holds.cols;
  cells = held_back scope tables state xs ys holds.cells;
}

-- a variable's number stays where the registers above 23 are kept
number_moved : (home : Option ℕ) (off to : ℕ) (n base : ℤ) (state : State) (words : List Word)
    (beat : BeatState) (at : ℕ) → Keeps to state words beat → HasNumber state base home off n
    → HasNumber (moved state words beat at) base home off n
number_moved (Some r) off to n base state words beat at keeps has =
    (has.0, has.1, keeps.above r has.0 ∙ has.2)
number_moved None off to n base state words beat at keeps has = has

-- a task still holds them where the registers above 23 are kept
pub holds_moved : (scope : Scope) (vars : List Variable) (tables : List Table) (notes : List Note) (to : ℕ) (state : State) (words : List Word) (beat : BeatState) (at : ℕ) → Keeps to state words beat → Holds scope vars tables notes state → Holds scope vars tables notes (moved state words beat at)
holds_moved scope vars tables notes to state words beat at keeps holds = record {
  registers = keeps.size ∙ holds.registers;
  base = holds.base;
  is_base = keeps.above 31 (omega arith) ∙ holds.is_base;
  variables = λ x has. number_moved (register_of scope x) (offset_of scope x) to (lookup vars x)
      holds.base state words beat at keeps (holds.variables x has);
  rows = holds.rows;
  cols = holds.cols;
  cells = holds.cells;
}

module _ (code : Listing) (heartbeat : ℕ) (K : Back code heartbeat) where
  -- ---- what stands behind

  -- where an answer leads: on in the block, with its number in register `to`, or to a trap block
  abbrev pub After : ℕ → State → List Instr → Term → Answer → Type 0
  After to state more end (Number n) = (words : List Word) (beat : BeatState) (at : ℕ) → Keeps to state words beat → register words to ≡ word.Int n → Remains code state.block at more end → K.Holds (moved state words beat at)
  After to state more end (Traps kind place) = (words : List Word) (beat : BeatState) (label : ℕ) → Keeps to state words beat → IsNext code (moved_to state words beat label 0) (instr.Trap kind place) → K.Holds (moved_to state words beat label 0)

  -- the same of an operand, whose number stands in register `place`
  abbrev pub AfterAt : ℕ → ℕ → State → List Instr → Term → Answer → Type 0
  AfterAt place to state more end (Number n) =
      (words : List Word) (beat : BeatState) (at : ℕ)
      → Keeps to state words beat
      → Stands to place
      → register words place ≡ word.Int n
      → Remains code state.block at more end
      → K.Holds (moved state words beat at)
  AfterAt place to state more end (Traps kind spot) =
      After to state more end (Traps kind spot)

  -- where the register is `to` itself
  pub after_own : (to : ℕ) (state : State) (more : List Instr) (end : Term) (answer : Answer)
      → AfterAt to to state more end answer
      → After to state more end answer
  after_own to state more end (Number n) after =
      λ words beat at keeps value left. after words beat at keeps (inl refl) value left
  after_own to state more end (Traps kind place) after = after

  -- what stands behind is the same after some instructions
  pub after_moved : (to : ℕ) (state : State) (more : List Instr) (end : Term) (answer : Answer) (words : List Word) (beat : BeatState) (at : ℕ) → Keeps to state words beat → After to state more end answer → After to (moved state words beat at) more end answer
  after_moved to state more end (Number n) words beat at keeps after =
      λ later count place second value left. after later count place (kept_twice to to state words later beat count at (omega arith) keeps second) value left
  after_moved to state more end (Traps kind place) words beat at keeps after =
      λ later count label second trap. after later count label (kept_twice to to state words later beat count at (omega arith) keeps second) trap

  -- ---- steps

  -- a calculation
  pub calculates : (state : State) (more : List Instr) (end : Term) (to left : ℕ) (alu : Alu) (right : operands.Value) (w : Word) → Remains code state.block state.at (instr.Calc to left alu right ∷ more) end → calculated alu (register state.registers left) (operand state.registers right) ≡ Ok w
      → (Remains code state.block (state.at + 1) more end → K.Holds (moved state (slice_set state.registers to w) (counted state.beat) (state.at + 1))) → K.Holds state
  calculates state more end to left alu right w stands gives go =
      on_calc code heartbeat K state to left alu right w (next code state _ more end stands) gives (go (behind code state.block state.at _ more end stands))

  -- a test that leads to a trap where it holds, and goes on where it doesn't
  pub tests : (test : Bool) (state : State) (more : List Instr) (end : Term) (r trap : ℕ) (kind : TrapKind) (place : Place) → register state.registers r ≡ word.Int (truth test) → Remains code state.block state.at (instr.IfJump r trap ∷ more) end → block_at code trap ≡ Some (trap_block trap kind place)
      → (test ≡ true → IsNext code (moved_to state state.registers (counted state.beat) trap 0) (instr.Trap kind place) → K.Holds (moved_to state state.registers (counted state.beat) trap 0))
      → (test ≡ false → Remains code state.block (state.at + 1) more end → K.Holds (moved state state.registers (counted state.beat) (state.at + 1))) → K.Holds state
  tests true state more end r trap kind place number stands found yes_go no_go =
      on_if code heartbeat K state r trap (pos 1) (next code state _ more end stands) number refl (ap (λ o. is_ready (note_of o)) found) (yes_go refl (record { block = trap_block trap kind place; found = found; is = refl }))
  tests false state more end r trap kind place number stands found yes_go no_go =
      on_if_not code heartbeat K state r trap (next code state _ more end stands) number (no_go refl (behind code state.block state.at _ more end stands))

  module _ (scope : Scope) (vars : List Variable) (tables : List Table) where
    -- ---- instructions that evaluate

    -- these instructions come to this answer, over these notes
    abbrev pub Evaluates : List Instr → ℕ → Answer → List Note → Type 0
    Evaluates body to answer notes = (state : State) (more : List Instr) (end : Term) → Remains code state.block state.at (body ++ more) end → Holds scope vars tables notes state → After to state more end answer → K.Holds state

    -- these come to that of an operand, which then stands in register `place`
    abbrev pub EvaluatesAt : ℕ → List Instr → ℕ → Answer → List Note → Type 0
    EvaluatesAt place body to answer notes =
        (state : State) (more : List Instr) (end : Term)
        → Remains code state.block state.at (body ++ more) end
        → Holds scope vars tables notes state
        → AfterAt place to state more end answer
        → K.Holds state

    -- so do these, where a number is in the register of an operand
    abbrev pub EvaluatesOn : ℕ → ℤ → List Instr → ℕ → Answer → List Note → Type 0
    EvaluatesOn place m body to answer notes =
        (state : State) (more : List Instr) (end : Term)
        → Stands to place
        → register state.registers place ≡ word.Int m
        → Remains code state.block state.at (body ++ more) end
        → Holds scope vars tables notes state
        → After to state more end answer
        → K.Holds state

    -- and these, where two numbers are in those of two operands
    abbrev pub EvaluatesOnBoth : ℕ → ℕ → ℤ → ℤ → List Instr → ℕ → Answer → List Note → Type 0
    EvaluatesOnBoth left right m n body to answer notes =
        (state : State) (more : List Instr) (end : Term)
        → Stands to left
        → Stands (to + 1) right
        → register state.registers left ≡ word.Int m
        → register state.registers right ≡ word.Int n
        → Remains code state.block state.at (body ++ more) end
        → Holds scope vars tables notes state
        → After to state more end answer
        → K.Holds state

    -- what leaves a number in `to` is an operand that stands there
    pub evaluates_own : (body : List Instr) (to : ℕ) (answer : Answer) (notes : List Note)
        → Evaluates body to answer notes → EvaluatesAt to body to answer notes
    evaluates_own body to answer notes evaluates state more end stands holds after =
        evaluates state more end stands holds (after_own to state more end answer after)

    -- an operand, and what is done with its number
    pub with_operand : (first rest : List Instr) (place to : ℕ) (answer : Answer) (notes : List Note) (f : ℤ → Value) → EvaluatesAt place first to answer notes → ((m : ℤ) → answer ≡ Number m → EvaluatesOn place m rest to (f m).answer (notes ++ (f m).notes))
        → Evaluates (first ++ rest) to (bind_answer answer notes f).answer (bind_answer answer notes f).notes
    with_operand first rest place to (Number m) notes f evaluates go state more end stands holds after =
        evaluates state (rest ++ more) end (split code state.block state.at first rest more end stands) (holds_front scope vars tables state notes (f m).notes holds) (λ words beat at keeps there value left.
        go m refl (moved state words beat at) more end there value left (holds_moved scope vars tables _ to state words beat at keeps holds) (after_moved to state more end (f m).answer words beat at keeps after))
    with_operand first rest place to (Traps kind spot) notes f evaluates go state more end stands holds after =
        evaluates state (rest ++ more) end (split code state.block state.at first rest more end stands) holds after

    -- the second operand, wanted in the register above, and what is done with both numbers
    pub with_second : (first rest : List Instr) (left right to : ℕ) (m : ℤ) (answer : Answer) (notes before : List Note) (f : ℤ → Value) → EvaluatesAt right first (to + 1) answer notes → ((n : ℤ) → answer ≡ Number n → EvaluatesOnBoth left right m n rest to (f n).answer (before ++ (notes ++ (f n).notes)))
        → EvaluatesOn left m (first ++ rest) to (bind_answer answer notes f).answer (before ++ (bind_answer answer notes f).notes)
    with_second first rest left right to m (Number n) notes before f evaluates go state more end left_there left_is stands holds after =
        evaluates state (rest ++ more) end (split code state.block state.at first rest more end stands) (holds_front scope vars tables state notes (f n).notes (holds_back scope vars tables state before (notes ++ (f n).notes) holds)) (λ words beat at keeps right_there value remains.
        let wider : Keeps to state words beat = kept_wider to (to + 1) state words beat (omega arith) keeps in
        let kept : register words left ≡ register state.registers left = kept_apart (to + 1) left state words beat (stands_apart to (to + 1) left (omega arith) left_there) keeps in
        go n refl (moved state words beat at) more end left_there right_there (kept ∙ left_is) value remains (holds_moved scope vars tables _ to state words beat at wider holds) (after_moved to state more end (f n).answer words beat at wider after))
    with_second first rest left right to m (Traps kind spot) notes before f evaluates go state more end left_there left_is stands holds after =
        evaluates state (rest ++ more) end (split code state.block state.at first rest more end stands) (holds_back scope vars tables state before notes holds) (λ words beat label keeps trap. after words beat label (kept_wider to (to + 1) state words beat (omega arith) keeps) trap)
