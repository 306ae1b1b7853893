-- The block of `dispatch` goes on at the oldest mark's split label.
use Rattle.std.proofs.Common.{◌≡◌, ℕ, ◌+◌, List, [], ◌∷◌, Some, drop, length, false, refl, ap, ◌∙◌}
use Rattle.std.proofs.Common.{arith}
use Rattle.std.proofs.lemmas.List.{length-set}
use Rattle.std.specs.Prelude.{pos, slice_set}
use Rattle.stack_marks.specs.declared.mark.Mark.{Mark}
use Rattle.tpal_syntax.specs.Conditions.{is_ready}
use Rattle.tpal_syntax.specs.declared.instructions.Instr.TheVariants as instr
use Rattle.tpal_syntax.specs.declared.instructions.Term.TheVariants as term
use Rattle.tpal_syntax.specs.declared.instructions.Value.TheVariants as value
use Rattle.tpal_syntax.specs.declared.words.Word.{Word}
use Rattle.tpal_syntax.specs.declared.words.Word.TheVariants.{Int, Label}
use Rattle.tpal_syntax.specs.Listing.{Listing}
use Rattle.tpal_machine.specs.Effect.{oldest}
use Rattle.tpal_machine.specs.Reading.{block_at, note_of, with_register}
use Rattle.tpal_machine.specs.State.{State}
use Rattle.tpal_machine.specs.Step.{advanced}
use Rattle.tpal_machine.proofs.Kit.{Back, on_jump}
use Rattle.expr_lower.specs.Standing.{Remains}
use Rattle.expr_lower.proofs.Keeping.{register_set}
use Rattle.expr_lower.proofs.Standing.{next, behind, at_end}
use Rattle.handler_gen.specs.Blocks.{dispatch_block}
use Rattle.handler_gen.specs.Dispatching.{dispatched, Dispatches}
use Rattle.handler_gen.specs.Reaching.{Reaches}
use Rattle.handler_gen.specs.Reaching as reaching
use Rattle.handler_gen.proofs.Marks.{on_prmsplit}
use Rattle.handler_gen.proofs.Reaching.{reaching_task}

module _ (code : Listing) (heartbeat label : ℕ) (found : block_at code label ≡ Some (dispatch_block label)) where
  comes_to : (mark : Mark) (state : State) → state.block ≡ label → state.at ≡ 0 → length state.registers ≡ 32 → oldest state.stack ≡ Some mark → is_ready (note_of (block_at code mark.split)) ≡ false → Reaches code heartbeat state (dispatched mark state)
  comes_to mark state at_label at_start size is calm =
      let stands : Remains code state.block state.at (instr.PrmSplit 28 29 ∷ []) (term.Jump (value.Reg 29)) = record {
        block = dispatch_block label;
        found = ap (block_at code) at_label ∙ found;
        rest = ap (λ n. drop n (dispatch_block label).body) at_start;
        ends = refl;
      } in
      let based : List Word = slice_set state.registers 28 (Int (pos mark.base)) in
      let after : State = with_register (with_register (advanced state) 28 (Int (pos mark.base))) 29 (Label mark.split) in
      let left : Remains code state.block (state.at + 1) [] (term.Jump (value.Reg 29)) = behind code state.block state.at (instr.PrmSplit 28 29) [] (term.Jump (value.Reg 29)) stands in
      let K : Back code heartbeat = reaching_task code heartbeat (dispatched mark state) in
      on_prmsplit code heartbeat K state 28 29 mark (next code state (instr.PrmSplit 28 29) [] (term.Jump (value.Reg 29)) stands) is
      (on_jump code heartbeat K after (value.Reg 29) mark.split (at_end code after (term.Jump (value.Reg 29)) left)
      (register_set based 29 (Label mark.split) (omega (arith, length-set state.registers 28 (Int (pos mark.base)), size))) calm (reaching.here (dispatched mark state)))

  pub dispatches : Dispatches code heartbeat label
  dispatches = record { comes = comes_to }
