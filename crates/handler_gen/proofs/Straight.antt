-- Instructions one after another in one block: what holds of the task behind an instruction holds of the
-- task before it.
use Rattle.std.proofs.Common.{◌≡◌, ℕ, ◌+◌, false, List, [], ◌∷◌, Some, Ok, ap, sym, subst, ◌∙◌}
use Rattle.std.specs.Prelude.{ℤ, pos, ◌+ℤ◌, slice_set}
use Rattle.std.specs.Ordering.{int_eq}
use Rattle.beat_count.specs.BeatState.{BeatState}
use Rattle.beat_count.specs.Heartbeat.{counted}
use Rattle.stack_marks.specs.Causes.{HoldsMark}
use Rattle.stack_marks.specs.declared.mark.Mark.{Mark}
use Rattle.stack_marks.specs.Stacks.{word_at, with_word, marked, without_oldest}
use Rattle.tpal_syntax.specs.declared.instructions.Alu.{Alu}
use Rattle.tpal_syntax.specs.declared.instructions.Instr.{Instr}
use Rattle.tpal_syntax.specs.declared.instructions.Instr.TheVariants as instr
use Rattle.tpal_syntax.specs.declared.instructions.Term.{Term}
use Rattle.tpal_syntax.specs.declared.instructions.Term.TheVariants as term
use Rattle.tpal_syntax.specs.declared.instructions.Value.{Value}
use Rattle.tpal_syntax.specs.declared.words.Word.{Word}
use Rattle.tpal_syntax.specs.declared.words.Word.TheVariants as word
use Rattle.tpal_syntax.specs.Listing.{Listing}
use Rattle.tpal_machine.specs.Calculation.{calculated}
use Rattle.tpal_machine.specs.Effect.{with_stack, oldest, is_marked_from}
use Rattle.tpal_machine.specs.Reading.{register, operand}
use Rattle.tpal_machine.specs.State.{State}
use Rattle.tpal_machine.proofs.Kit.{Back, IsCalm, on_move, on_calc, on_load, on_store, on_if}
use Rattle.tpal_machine.proofs.Kit.{on_if_not, on_jump}
use Rattle.expr_lower.specs.Leaving.{moved, moved_to}
use Rattle.expr_lower.specs.Standing.{Remains}
use Rattle.expr_lower.proofs.Standing.{next, behind, at_end}
use Rattle.handler_gen.proofs.Marks.{on_prmdrop, on_prmpush}

module _ (code : Listing) (heartbeat : ℕ) (K : Back code heartbeat) (end : Term) (s : State) (words : List Word) (beat : BeatState) (at : ℕ) (more : List Instr) where
  pub moves : (to : ℕ) (v : Value) (w : Word) → Remains code s.block at (instr.Move to v ∷ more) end → operand words v ≡ w
      → (Remains code s.block (at + 1) more end → K.Holds (moved s (slice_set words to w) (counted beat) (at + 1)))
      → K.Holds (moved s words beat at)
  moves to v w stands is go =
      on_move code heartbeat K (moved s words beat at) to v (next code (moved s words beat at) (instr.Move to v) more end stands)
      (subst (λ (u : Word). K.Holds (moved s (slice_set words to u) (counted beat) (at + 1))) (sym is) (go (behind code s.block at (instr.Move to v) more end stands)))

  pub calculates : (to left : ℕ) (o : Alu) (right : Value) (w : Word) → Remains code s.block at (instr.Calc to left o right ∷ more) end → calculated o (register words left) (operand words right) ≡ Ok w
      → (Remains code s.block (at + 1) more end → K.Holds (moved s (slice_set words to w) (counted beat) (at + 1)))
      → K.Holds (moved s words beat at)
  calculates to left o right w stands gives go =
      on_calc code heartbeat K (moved s words beat at) to left o right w (next code (moved s words beat at) (instr.Calc to left o right) more end stands) gives (go (behind code s.block at (instr.Calc to left o right) more end stands))

  pub loads : (to base off : ℕ) (i : ℤ) (w : Word) → Remains code s.block at (instr.Load to base off ∷ more) end → register words base ≡ word.Int i → word_at s.stack (i +ℤ pos off) ≡ Some w
      → (Remains code s.block (at + 1) more end → K.Holds (moved s (slice_set words to w) (counted beat) (at + 1)))
      → K.Holds (moved s words beat at)
  loads to base off i w stands number cell go =
      on_load code heartbeat K (moved s words beat at) to base off i w (next code (moved s words beat at) (instr.Load to base off) more end stands) number cell (go (behind code s.block at (instr.Load to base off) more end stands))

  pub stores : (base off : ℕ) (v : Value) (i : ℤ) (before w : Word) → Remains code s.block at (instr.Store base off v ∷ more) end → register words base ≡ word.Int i → word_at s.stack (i +ℤ pos off) ≡ Some before → operand words v ≡ w
      → (Remains code s.block (at + 1) more end → K.Holds (moved (with_stack s (with_word s.stack (i +ℤ pos off) w)) words (counted beat) (at + 1)))
      → K.Holds (moved s words beat at)
  stores base off v i before w stands number cell is go =
      on_store code heartbeat K (moved s words beat at) base off v i before (next code (moved s words beat at) (instr.Store base off v) more end stands) number cell
      (subst (λ (u : Word). K.Holds (moved (with_stack s (with_word s.stack (i +ℤ pos off) u)) words (counted beat) (at + 1))) (sym is) (go (behind code s.block at (instr.Store base off v) more end stands)))

  -- the same, where the position is written in another way
  pub stores_at : (base off : ℕ) (v : Value) (i a : ℤ) (before w : Word) → Remains code s.block at (instr.Store base off v ∷ more) end → register words base ≡ word.Int i → i +ℤ pos off ≡ a → word_at s.stack a ≡ Some before → operand words v ≡ w
      → (Remains code s.block (at + 1) more end → K.Holds (moved (with_stack s (with_word s.stack a w)) words (counted beat) (at + 1)))
      → K.Holds (moved s words beat at)
  stores_at base off v i a before w stands number same cell is go =
      stores base off v i before w stands number (ap (word_at s.stack) same ∙ cell) is (λ left.
      subst (λ (b : ℤ). K.Holds (moved (with_stack s (with_word s.stack b w)) words (counted beat) (at + 1))) (sym same) (go left))

  pub passes_by : (test l : ℕ) → Remains code s.block at (instr.IfJump test l ∷ more) end → register words test ≡ word.Int (pos 0)
      → (Remains code s.block (at + 1) more end → K.Holds (moved s words (counted beat) (at + 1)))
      → K.Holds (moved s words beat at)
  passes_by test l stands number go =
      on_if_not code heartbeat K (moved s words beat at) test l (next code (moved s words beat at) (instr.IfJump test l) more end stands) number (go (behind code s.block at (instr.IfJump test l) more end stands))

  pub branches : (test l : ℕ) (n : ℤ) → Remains code s.block at (instr.IfJump test l ∷ more) end → register words test ≡ word.Int n → int_eq n (pos 0) ≡ false → IsCalm code l
      → K.Holds (moved_to s words (counted beat) l 0)
      → K.Holds (moved s words beat at)
  branches test l n stands number other calm holds =
      on_if code heartbeat K (moved s words beat at) test l n (next code (moved s words beat at) (instr.IfJump test l) more end stands) number other calm holds

  pub drops : (m : Mark) → Remains code s.block at (instr.PrmDrop ∷ more) end → oldest s.stack ≡ Some m
      → (Remains code s.block (at + 1) more end → K.Holds (moved (with_stack s (without_oldest s.stack)) words (counted beat) (at + 1)))
      → K.Holds (moved s words beat at)
  drops m stands is go = on_prmdrop code heartbeat K (moved s words beat at) m (next code (moved s words beat at) instr.PrmDrop more end stands) is (go (behind code s.block at instr.PrmDrop more end stands))

  pub pushes : (base off cells split z : ℕ) → Remains code s.block at (instr.PrmPush base off cells split ∷ more) end → register words base ≡ word.Int (pos z) → HoldsMark s.stack (record { at = z + off; base = z; cells = cells; split = split }) → is_marked_from s.stack.marks (z + off) ≡ false
      → (Remains code s.block (at + 1) more end → K.Holds (moved (with_stack s (marked s.stack (record { at = z + off; base = z; cells = cells; split = split }))) words (counted beat) (at + 1)))
      → K.Holds (moved s words beat at)
  pushes base off cells split z stands number held free go =
      on_prmpush code heartbeat K (moved s words beat at) base off cells split z (next code (moved s words beat at) (instr.PrmPush base off cells split) more end stands) number held free (go (behind code s.block at (instr.PrmPush base off cells split) more end stands))

module _ (code : Listing) (heartbeat : ℕ) (K : Back code heartbeat) (s : State) (words : List Word) (beat : BeatState) (at : ℕ) where
  pub enters : (v : Value) (l : ℕ) → Remains code s.block at [] (term.Jump v) → operand words v ≡ word.Label l → IsCalm code l
      → K.Holds (moved_to s words (counted beat) l 0)
      → K.Holds (moved s words beat at)
  enters v l stands label calm holds = on_jump code heartbeat K (moved s words beat at) v l (at_end code (moved s words beat at) (term.Jump v) stands) label calm holds
