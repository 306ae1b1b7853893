-- Both handlers ask for a record, and go back where there is none.
use Rattle.std.proofs.Common.{◌≡◌, ℕ, ◌+◌, Bool, true, List, ◌∷◌, ◌++◌, length, None, Some, refl}
use Rattle.std.proofs.Common.{ap}
use Rattle.std.specs.Prelude.{pos, slice_set}
use Rattle.beat_count.specs.Heartbeat.{counted}
use Rattle.tpal_syntax.specs.declared.instructions.Alu.TheVariants as alu
use Rattle.tpal_syntax.specs.declared.instructions.Instr.{Instr}
use Rattle.tpal_syntax.specs.declared.instructions.Instr.TheVariants as instr
use Rattle.tpal_syntax.specs.declared.instructions.Term.{Term}
use Rattle.tpal_syntax.specs.declared.instructions.Value.TheVariants as value
use Rattle.tpal_syntax.specs.declared.words.Word.{Word}
use Rattle.tpal_syntax.specs.declared.words.Word.TheVariants.{Int, Rec, Nil}
use Rattle.tpal_syntax.specs.Listing.{Listing}
use Rattle.beat_count.specs.BeatState.{BeatState}
use Rattle.tpal_machine.specs.Calculation.{calculated}
use Rattle.tpal_machine.specs.Effect.{answered}
use Rattle.tpal_machine.specs.Reading.{register, is_target}
use Rattle.tpal_machine.specs.State.{State}
use Rattle.tpal_machine.specs.Step.{Asks, step}
use Rattle.tpal_machine.proofs.Kit.{Back, IsCalm}
use Rattle.expr_lower.specs.Leaving.{moved}
use Rattle.expr_lower.specs.Standing.{Remains}
use Rattle.expr_lower.proofs.Standing.{next, behind}
use Rattle.handler_gen.specs.Blocks.{ask}
use Rattle.handler_gen.specs.Halves.{asking, GoesBack}
use Rattle.handler_gen.specs.Reaching as reaching
use Rattle.handler_gen.specs.Sites.{back_label, target_label}
use Rattle.handler_gen.proofs.Coming.{going_back}
use Rattle.handler_gen.proofs.Marks.{asks}
use Rattle.handler_gen.proofs.Scratch.{Scratch, unused, set_24, set_27, test_is}
use Rattle.handler_gen.proofs.Straight.{calculates, passes_by, branches}

-- a task with a record in hand
abbrev pub in_hand : ℕ → ℕ → State → State
in_hand label k state = record state { pending = Some (record { rec = k; target = target_label label }); waiting = None }

module _ (code : Listing) (heartbeat label : ℕ) (more : List Instr) (end : Term) (state : State) (stands : Remains code state.block state.at (ask label ++ more) end) (size : length state.registers ≡ 32) where
  pub asks_once : state.pending ≡ None → is_target code (target_label label) ≡ true → (allowed : Bool) → step code heartbeat allowed state ≡ Asks (asking label state)
  asks_once free is allowed = asks code heartbeat state 24 (target_label label) (next code state (instr.JrAlloc 24 (target_label label)) _ end stands) free is allowed

  tested : Remains code state.block (state.at + 1) (instr.Calc 27 24 alu.Eq value.Nil ∷ instr.IfJump 27 (back_label label) ∷ more) end
  tested = behind code state.block state.at (instr.JrAlloc 24 (target_label label)) _ end stands

  -- without a record
  module _ (calm : IsCalm code (back_label label)) where
    abbrev nothing : State
    nothing = record state { waiting = None }

    abbrev answered_words : List Word
    answered_words = slice_set state.registers 24 Nil

    no_record : Scratch state.registers answered_words Nil (register state.registers 25) (register state.registers 26)
    no_record = set_24 state.registers state.registers (register state.registers 24) (register state.registers 25) (register state.registers 26) Nil (unused state.registers size)

    with_test : Scratch state.registers (slice_set answered_words 27 (Int (pos 1))) Nil (register state.registers 25) (register state.registers 26)
    with_test = set_27 state.registers answered_words Nil (register state.registers 25) (register state.registers 26) (Int (pos 1)) no_record

    pub back_without : GoesBack code heartbeat label state (answered None (asking label state))
    back_without =
        calculates code heartbeat (going_back code heartbeat label state) end nothing answered_words (counted state.beat) (state.at + 1) (instr.IfJump 27 (back_label label) ∷ more) 27 24 alu.Eq value.Nil (Int (pos 1)) tested
        (ap (λ w. calculated alu.Eq w Nil) no_record.r24) (λ left.
        branches code heartbeat (going_back code heartbeat label state) end nothing (slice_set answered_words 27 (Int (pos 1))) (counted (counted state.beat)) (state.at + 1 + 1) more 27 (back_label label) (pos 1) left
        (test_is state.registers answered_words Nil (register state.registers 25) (register state.registers 26) (Int (pos 1)) no_record) refl calm
        (record {
          words = slice_set answered_words 27 (Int (pos 1));
          beat = counted (counted (counted state.beat));
          keeps = record { size = with_test.size; high = with_test.high; quiet = refl };
          granted = refl;
          comes = reaching.here _;
        }))

  -- with a record
  module _ (K : Back code heartbeat) (k : ℕ) where
    abbrev recorded : List Word
    recorded = slice_set state.registers 24 (Rec k)

    one_record : Scratch state.registers recorded (Rec k) (register state.registers 25) (register state.registers 26)
    one_record = set_24 state.registers state.registers (register state.registers 24) (register state.registers 25) (register state.registers 26) (Rec k) (unused state.registers size)

    pub on_with : ((words : List Word) (beat : BeatState) (at : ℕ) → Scratch state.registers words (Rec k) (register state.registers 25) (register state.registers 26) → beat.quiet ≡ state.beat.quiet → beat.granted ≡ state.beat.granted
        → Remains code state.block at more end → K.Holds (moved (in_hand label k state) words beat at))
        → K.Holds (answered (Some k) (asking label state))
    on_with go =
        calculates code heartbeat K end (in_hand label k state) recorded (counted state.beat) (state.at + 1) (instr.IfJump 27 (back_label label) ∷ more) 27 24 alu.Eq value.Nil (Int (pos 0)) tested
        (ap (λ w. calculated alu.Eq w Nil) one_record.r24) (λ left.
        passes_by code heartbeat K end (in_hand label k state) (slice_set recorded 27 (Int (pos 0))) (counted (counted state.beat)) (state.at + 1 + 1) more 27 (back_label label) left
        (test_is state.registers recorded (Rec k) (register state.registers 25) (register state.registers 26) (Int (pos 0)) one_record) (λ remains.
        go (slice_set recorded 27 (Int (pos 0))) (counted (counted (counted state.beat))) (state.at + 1 + 1 + 1)
        (set_27 state.registers recorded (Rec k) (register state.registers 25) (register state.registers 26) (Int (pos 0)) one_record) refl refl remains))
