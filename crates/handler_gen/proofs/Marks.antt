-- One lemma for each instruction on marks and records: what holds of the task after it holds of the task
-- before it, or what its step comes to.
use Rattle.std.proofs.Common.{◌≡◌, ℕ, ◌+◌, ◌≤◌, ◌<◌, Bool, true, false, cond, None, Some, Ok, Err}
use Rattle.std.proofs.Common.{List, refl, ap, ◌∙◌, arith}
use Rattle.std.proofs.lemmas.Bool.Decides.{nat_tests}
use Rattle.std.specs.Prelude.{ℤ, pos, ◌+ℤ◌, ◌==◌, is_some, nat_le, nat_lt}
use Rattle.stack_marks.specs.Causes.{Holds, HoldsMark}
use Rattle.stack_marks.specs.declared.mark.Mark.{Mark}
use Rattle.stack_marks.specs.Stacks.{StackValue, word_at, marked, unmarked, without_oldest}
use Rattle.tp_value.specs.declared.values.Stop.TheVariants.{Done}
use Rattle.tpal_syntax.specs.Conditions.{is_ready}
use Rattle.tpal_syntax.specs.declared.instructions.Instr.{Instr}
use Rattle.tpal_syntax.specs.declared.instructions.Instr.TheVariants as instr
use Rattle.tpal_syntax.specs.declared.instructions.Term.{Term}
use Rattle.tpal_syntax.specs.declared.instructions.Term.TheVariants as term
use Rattle.tpal_syntax.specs.declared.notes.Note.{Note}
use Rattle.tpal_syntax.specs.declared.notes.Note.TheVariants as note
use Rattle.tpal_syntax.specs.declared.words.Word.{Word}
use Rattle.tpal_syntax.specs.declared.words.Word.TheVariants as word
use Rattle.tpal_syntax.specs.Listing.{Listing}
use Rattle.tpal_machine.specs.declared.cut.TableCut.{TableCut}
use Rattle.tpal_machine.specs.declared.ends.Goal.TheVariants as goal
use Rattle.tpal_machine.specs.declared.ends.SideName.{SideName}
use Rattle.tpal_machine.specs.declared.ends.Tie.{Tie}
use Rattle.tpal_machine.specs.declared.faults.Fault.TheVariants as fault
use Rattle.tpal_machine.specs.Calculation.{on_number}
use Rattle.tpal_machine.specs.Cut as cut
use Rattle.tpal_machine.specs.Effect as effect
use Rattle.tpal_machine.specs.Ended.{ended}
use Rattle.tpal_machine.specs.Reading.{register, with_register, block_at, note_of, the_target}
use Rattle.tpal_machine.specs.Reading.{is_target}
use Rattle.tpal_machine.specs.State.{State}
use Rattle.tpal_machine.specs.Step.{Goes, Ends, Asks, Forks, Stuck, step, stepped, asked, forked}
use Rattle.tpal_machine.specs.Step.{at_block, advanced, entered_by, executed, finished, join}
use Rattle.tpal_machine.specs.Step.{joined, join_end, join_met, halting, is_end, enters}
use Rattle.tpal_machine.proofs.Kit.{Back, IsNext, IsAtEnd, IsCalm}
use Rattle.tpal_machine.proofs.Steps.{step_of_instr, step_of_term}

-- ---- tests of numbers

pub le_true : (a b : ℕ) → a ≤ b → nat_le a b ≡ true
le_true a b h = grind (arith, nat_tests)

pub lt_true : (a b : ℕ) → a < b → nat_lt a b ≡ true
lt_true a b h = grind (arith, nat_tests)

pub same_number : (k : ℕ) → (k == k) ≡ true
same_number k = grind (arith, nat_tests)

-- the cells of some work are on the stack
pub holds_cells : (s : StackValue) (base cells : ℕ) → Holds s base cells → effect.holds_cells s base cells ≡ true
holds_cells s base cells h = rw (le_true s.base base h.0) (le_true _ _ h.1)

pub holds_mark : (s : StackValue) (m : Mark) → HoldsMark s m → effect.holds_mark s m ≡ true
holds_mark s m h = rw (holds_cells s m.base m.cells h.0) (rw (le_true m.base m.at h.1) (lt_true m.at (m.base + m.cells) h.2))

module _ (code : Listing) (heartbeat : ℕ) where
  instr_step : (state : State) (i : Instr) → IsNext code state i → (allowed : Bool) → step code heartbeat allowed state ≡ executed code heartbeat allowed i (advanced state)
  instr_step state i at allowed = step_of_instr code heartbeat allowed state at.block i at.found at.is

  pub term_step : (state : State) (t : Term) → IsAtEnd code state t → (allowed : Bool) → step code heartbeat allowed state ≡ finished code heartbeat allowed t (advanced state)
  term_step state t at allowed =
      step_of_term code heartbeat allowed state (advanced state) at.block at.found at.none refl
      ∙ ap (λ u. finished code heartbeat allowed u (advanced state)) at.is

  -- ---- marks

  pub on_prmpush : (K : Back code heartbeat) (state : State) (base off cells split z : ℕ) → IsNext code state (instr.PrmPush base off cells split) → register state.registers base ≡ word.Int (pos z) → HoldsMark state.stack (record { at = z + off; base = z; cells = cells; split = split })
      → effect.is_marked_from state.stack.marks (z + off) ≡ false → K.Holds (effect.with_stack (advanced state) (marked state.stack (record { at = z + off; base = z; cells = cells; split = split }))) → K.Holds state
  on_prmpush K state base off cells split z at number held free holds =
      let mark : Mark = record { at = z + off; base = z; cells = cells; split = split } in
      K.back state _ (λ allowed.
      instr_step state _ at allowed
      ∙ ap (λ w. stepped (on_number w (λ i. effect.with_mark_from (advanced state) i off cells split))) number
      ∙ ap (λ b. stepped (cond b (cond (effect.is_marked_from state.stack.marks (z + off)) (Err fault.MarkOrder) (Ok (effect.with_stack (advanced state) (marked state.stack mark)))) (Err fault.OutOfRange))) (holds_mark state.stack mark held)
      ∙ ap (λ b. stepped (cond b (Err fault.MarkOrder) (Ok (effect.with_stack (advanced state) (marked state.stack mark))))) free) holds

  pub on_prmpop : (K : Back code heartbeat) (state : State) (base off : ℕ) (i : ℤ) (w : Word) → IsNext code state (instr.PrmPop base off) → register state.registers base ≡ word.Int i → word_at state.stack (i +ℤ pos off) ≡ Some w → K.Holds (effect.with_stack (advanced state) (unmarked state.stack (i +ℤ pos off))) → K.Holds state
  on_prmpop K state base off i w at number cell holds =
      K.back state _ (λ allowed.
      instr_step state _ at allowed
      ∙ ap (λ b. stepped (on_number b (λ j. effect.without_mark (j +ℤ pos off) (advanced state)))) number
      ∙ ap (λ o. stepped (effect.on_cell o (λ u. Ok (effect.with_stack (advanced state) (unmarked state.stack (i +ℤ pos off)))))) cell) holds

  pub on_prmdrop : (K : Back code heartbeat) (state : State) (m : Mark) → IsNext code state instr.PrmDrop → effect.oldest state.stack ≡ Some m → K.Holds (effect.with_stack (advanced state) (without_oldest state.stack)) → K.Holds state
  on_prmdrop K state m at is holds =
      K.back state _ (λ allowed.
      instr_step state _ at allowed
      ∙ ap (λ o. stepped (effect.on_oldest o (λ u. Ok (effect.with_stack (advanced state) (without_oldest state.stack))))) is) holds

  pub on_prmsplit : (K : Back code heartbeat) (state : State) (base split : ℕ) (m : Mark) → IsNext code state (instr.PrmSplit base split) → effect.oldest state.stack ≡ Some m → K.Holds (with_register (with_register (advanced state) base (word.Int (pos m.base))) split (word.Label m.split)) → K.Holds state
  on_prmsplit K state base split m at is holds =
      K.back state _ (λ allowed.
      instr_step state _ at allowed
      ∙ ap (λ o. stepped (effect.on_oldest o (λ (u : Mark). Ok (with_register (with_register (advanced state) base (word.Int (pos u.base))) split (word.Label u.split))))) is) holds

  -- ---- records

  -- the step of a task that asks for a record
  pub asks : (state : State) (to target : ℕ) → IsNext code state (instr.JrAlloc to target) → state.pending ≡ None → is_target code target ≡ true → (allowed : Bool) → step code heartbeat allowed state ≡ Asks (record (advanced state) { waiting = Some (record { to = to; target = target }) })
  asks state to target at free is allowed =
      let waits : State = record (advanced state) { waiting = Some (record { to = to; target = target }) } in
      instr_step state _ at allowed
      ∙ ap (λ p. asked (cond (is_some p) (Err fault.Pending) (cond (is_target code target) (Ok waits) (Err fault.BadTarget)))) free
      ∙ ap (λ b. asked (cond b (Ok waits) (Err fault.BadTarget))) is

  -- the step of a task that forks under a record in hand
  pub forks : (state : State) (r child k target : ℕ) (m : Mark) (cuts : List (ℕ × TableCut)) → IsNext code state (instr.Fork r child) → register state.registers r ≡ word.Rec k → state.pending ≡ Some (record { rec = k; target = target }) → state.beat.granted ≡ true → effect.oldest state.stack ≡ Some m
      → Holds state.stack m.base m.cells → cut.carried state.registers (the_target code target).carries ≡ Ok cuts → (allowed : Bool)
      → step code heartbeat allowed state ≡ Forks (cut.parts (the_target code target) child (record { rec = k; target = target }) m cuts (advanced state))
  forks state r child k target m cuts at record_in free granted is held carried allowed =
      let tie : Tie = record { rec = k; target = target } in
      let s : State = advanced state in
      instr_step state _ at allowed
      ∙ ap (λ w. forked (cut.on_record w (λ j. cut.on_pending state.pending j (λ t. cut.fork_under code child t s)))) record_in
      ∙ ap (λ p. forked (cut.on_pending p k (λ t. cut.fork_under code child t s))) free
      ∙ ap (λ b. forked (cond b (cut.fork_under code child tie s) (Err fault.WrongRecord))) (same_number k)
      ∙ ap (λ b. forked (cond b (effect.on_oldest (effect.oldest state.stack) (λ u. cut.forked_at code child tie u s)) (Err fault.NoBeat))) granted
      ∙ ap (λ o. forked (effect.on_oldest o (λ u. cut.forked_at code child tie u s))) is
      ∙ ap (λ b. forked (cond b (cut.on_cuts (cut.carried state.registers (the_target code target).carries) (λ c. Ok (cut.parts (the_target code target) child tie m c s))) (Err fault.OutOfRange))) (holds_cells state.stack m.base m.cells held)
      ∙ ap (λ c. forked (cut.on_cuts c (λ d. Ok (cut.parts (the_target code target) child tie m d s)))) carried

  -- the step of a side that ends by its record
  pub ends_side : (state : State) (r k target : ℕ) (side : SideName) → IsAtEnd code state (term.Join r) → register state.registers r ≡ word.Rec k → state.goal ≡ goal.At k side target → state.met ≡ None → state.pending ≡ None → (allowed : Bool) → step code heartbeat allowed state ≡ Ends (ended code Done (advanced state))
  ends_side state r k target side at record_in own unmet free allowed =
      term_step state _ at allowed
      ∙ ap (λ w. join code heartbeat allowed w (advanced state)) record_in
      ∙ ap (λ t. joined code heartbeat allowed t k (advanced state)) unmet
      ∙ ap (λ g. cond (is_end g k) (halting code (effect.stops state.pending Done (advanced state))) (Stuck fault.WrongRecord)) own
      ∙ ap (λ b. cond b (halting code (effect.stops state.pending Done (advanced state))) (Stuck fault.WrongRecord)) (same_number k)
      ∙ ap (λ p. halting code (effect.stops p Done (advanced state))) free

  -- behind a join whose sides have both ended control enters the join target
  pub on_join : (K : Back code heartbeat) (state : State) (r k target : ℕ) → IsAtEnd code state (term.Join r) → register state.registers r ≡ word.Rec k → state.met ≡ Some (record { rec = k; target = target }) → state.pending ≡ None → IsCalm code target → K.Holds (at_block target (record (advanced state) { met = None })) → K.Holds state
  on_join K state r k target at record_in met free calm holds =
      let s : State = advanced state in
      let tie : Tie = record { rec = k; target = target } in
      K.back state _ (λ allowed.
      term_step state _ at allowed
      ∙ ap (λ w. join code heartbeat allowed w s) record_in
      ∙ ap (λ t. joined code heartbeat allowed t k s) met
      ∙ ap (λ b. cond b (join_met code heartbeat allowed tie s) (join_end code k s)) (same_number k)
      ∙ ap (λ p. cond (is_some p) (Stuck fault.Pending) (enters code heartbeat allowed target (record s { met = None }))) free
      ∙ enters_calm (note_of (block_at code target)) allowed target (record s { met = None }) calm) holds
    where
      enters_calm : (n : Note) (allowed : Bool) (l : ℕ) (t : State) → is_ready n ≡ false → entered_by n heartbeat allowed l t ≡ Goes (at_block l t)
      enters_calm note.Plain allowed l t calm = refl
      enters_calm (note.Ready handler) allowed l t calm = cc
      enters_calm (note.Target target) allowed l t calm = refl
