-- The blocks where the sides of a loop and of a pair of calls end, meet and are combined.
use Rattle.std.specs.Prelude.{ℕ, ◌+◌, pos, List, [], ◌∷◌}
use Rattle.tp_value.specs.declared.limits.TheConstants.{MAX_REDUCTIONS}
use Rattle.expr_lower.specs.Registers.{base_register}
use Rattle.handler_gen.specs.Registers.{record_register}
use Rattle.tp_value.specs.declared.Op.{Op}
use Rattle.tp_value.specs.declared.Op.TheVariants as op
use Rattle.tpal_syntax.specs.declared.blocks.Block.{Block}
use Rattle.tpal_syntax.specs.declared.instructions.Alu.{Alu}
use Rattle.tpal_syntax.specs.declared.instructions.Alu.TheVariants as alu
use Rattle.tpal_syntax.specs.declared.instructions.Instr.{Instr}
use Rattle.tpal_syntax.specs.declared.instructions.Instr.TheVariants as instr
use Rattle.tpal_syntax.specs.declared.instructions.Term.TheVariants as term
use Rattle.tpal_syntax.specs.declared.instructions.Value.TheVariants as value
use Rattle.tpal_syntax.specs.declared.notes.Note.TheVariants as note
use Rattle.tpal_syntax.specs.declared.sites.CallSite.{CallSite}
use Rattle.tpal_syntax.specs.declared.sites.LoopSite.{LoopSite}
use Rattle.handler_gen.specs.Blocks.{block_of, to, loop_target, call_target}
use Rattle.handler_gen.specs.Sites.{target_label, comb_label, side_label, child_end_label}
use Rattle.handler_gen.specs.Sites.{left_end_label, over_label, joined_label}

-- the calculation that an operator is
abbrev pub alu_of : Op → Alu
alu_of op.Add = alu.Add
alu_of op.Mul = alu.Mul
alu_of op.Min = alu.Min
alu_of op.Max = alu.Max
alu_of op.Affine = alu.Affine

-- ---- loops

-- the accumulators, in registers from one on
abbrev pub loads_from : ℕ → List (ℕ × Op) → List Instr
loads_from r [] = []
loads_from r (a ∷ accs) = instr.Load r base_register a.0 ∷ loads_from (r + 1) accs

-- each accumulator of the left with that of the right, the left one first, in its cell
abbrev pub combines_from : ℕ → List (ℕ × Op) → List Instr
combines_from r [] = []
combines_from r (a ∷ accs) =
    instr.Calc r r (alu_of a.1) (value.Reg (MAX_REDUCTIONS + r))
    ∷ instr.Store base_register a.0 (value.Reg r)
    ∷ combines_from (r + 1) accs

-- both sides meet, and go on where no iteration is left
abbrev pub loop_target_block : LoopSite → Block
loop_target_block site =
    block_of (target_label site.label) (note.Target (loop_target site)) []
    (to (over_label site.label))

-- combines the accumulators of both sides, and goes on by the record in r24
abbrev pub loop_comb_block : LoopSite → Block
loop_comb_block site =
    block_of (comb_label site.label) note.Plain (combines_from 0 site.accs)
    (term.Join record_register)

-- ends a side, whose record is in r24
abbrev pub side_block : LoopSite → Block
side_block site =
    block_of (side_label site.label) note.Plain (loads_from 0 site.accs) (term.Join record_register)

abbrev pub loop_join_blocks : LoopSite → List Block
loop_join_blocks site = loop_target_block site ∷ loop_comb_block site ∷ side_block site ∷ []

-- ---- pairs of calls

-- both sides meet, and go on with both values
abbrev pub call_target_block : CallSite → Block
call_target_block site =
    block_of (target_label site.label) (note.Target (call_target site)) []
    (to (joined_label site.label))

-- goes on by the record in r24: there is nothing to combine
abbrev pub call_comb_block : CallSite → Block
call_comb_block site = block_of (comb_label site.label) note.Plain [] (term.Join record_register)

-- ends the child, to which the second function has returned, by the record of its activation
abbrev pub child_end_block : CallSite → Block
child_end_block site =
    block_of (child_end_label site.label) note.Plain
    (instr.Calc base_register base_register alu.Sub (value.Int (pos site.cells))
    ∷ instr.Load record_register base_register site.rec ∷ [])
    (term.Join record_register)

-- ends the left, to which the first function has returned, by the record of that function's
-- activation
abbrev pub left_end_block : CallSite → Block
left_end_block site =
    block_of (left_end_label site.label) note.Plain
    (instr.Load record_register base_register 1 ∷ []) (term.Join record_register)

abbrev pub call_join_blocks : CallSite → List Block
call_join_blocks site =
    call_target_block site ∷ call_comb_block site ∷ child_end_block site ∷ left_end_block site ∷ []
