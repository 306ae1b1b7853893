-- The blocks that cut a loop or a pair of calls in two, and the join targets of both.
use Rattle.std.specs.Prelude.{ℕ, ◌+◌, pos, false, List, [], ◌∷◌, ◌++◌, map}
use Rattle.tp_value.specs.declared.limits.TheConstants.{MAX_REDUCTIONS}
use Rattle.expr_lower.specs.Registers.{base_register}
use Rattle.handler_gen.specs.Registers.{record_register, middle_register, other_record}
use Rattle.handler_gen.specs.Registers.{next_register, test_register, cut_register, split_register}
use Rattle.handler_gen.specs.Registers.{back_register}
use Rattle.expr_lower.specs.Bodies.{name_of}
use Rattle.reduce_ops.specs.Reduction.{unit}
use Rattle.tp_value.specs.declared.Op.{Op}
use Rattle.tpal_syntax.specs.declared.blocks.Block.{Block}
use Rattle.tpal_syntax.specs.declared.instructions.Alu.{Alu}
use Rattle.tpal_syntax.specs.declared.instructions.Alu.TheVariants as alu
use Rattle.tpal_syntax.specs.declared.instructions.Instr.{Instr}
use Rattle.tpal_syntax.specs.declared.instructions.Instr.TheVariants as instr
use Rattle.tpal_syntax.specs.declared.instructions.Term.{Term}
use Rattle.tpal_syntax.specs.declared.instructions.Term.TheVariants as term
use Rattle.tpal_syntax.specs.declared.instructions.Value.{Value}
use Rattle.tpal_syntax.specs.declared.instructions.Value.TheVariants as value
use Rattle.tpal_syntax.specs.declared.notes.CarryAt.{CarryAt}
use Rattle.tpal_syntax.specs.declared.notes.CutKind.TheVariants as kind
use Rattle.tpal_syntax.specs.declared.notes.Note.{Note}
use Rattle.tpal_syntax.specs.declared.notes.Note.TheVariants as note
use Rattle.tpal_syntax.specs.declared.notes.Target.{Target}
use Rattle.tpal_syntax.specs.declared.sites.CallSite.{CallSite}
use Rattle.tpal_syntax.specs.declared.sites.LoopSite.{LoopSite}
use Rattle.handler_gen.specs.Sites.{at_of, back_label, child_label, target_label, comb_label}
use Rattle.handler_gen.specs.Sites.{left_end_label, first_label, none_label, split_label}

-- a block at a label, which is its name too
abbrev pub block_of : ℕ → Note → List Instr → Term → Block
block_of label note instrs end =
    record { name = name_of label; note = note; body = instrs; term = end }

abbrev pub to : ℕ → Term
to label = term.Jump (value.Label label)

-- ---- both handlers

-- A beat comes here: the base of the activation that is cut is in its register, and the handler
-- begins.
abbrev pub dispatch_block : ℕ → Block
dispatch_block label =
    block_of label note.Plain (instr.PrmSplit cut_register split_register ∷ [])
    (term.Jump (value.Reg split_register))

-- asks for a join record, and goes back where there is none
abbrev pub ask : ℕ → List Instr
ask label =
    instr.JrAlloc record_register (target_label label)
    ∷ instr.Calc test_register record_register alu.Eq value.Nil
    ∷ instr.IfJump test_register (back_label label) ∷ []

-- goes back to where the beat came
abbrev pub back_block : ℕ → Block
back_block label = block_of (back_label label) note.Plain [] (term.Jump (value.Reg back_register))

-- ---- loops

-- a calculation on the place of the cut
abbrev pub on_middle : Alu → Value → Instr
on_middle o right = instr.Calc middle_register middle_register o right

-- the place of the cut: the left keeps half of the iterations that aren't begun, rounded down; the
-- next iteration is in a register too
abbrev pub middle : LoopSite → List Instr
middle site =
    instr.Load next_register cut_register site.cursor
    ∷ instr.Load middle_register cut_register site.bound
    ∷ on_middle alu.Sub (value.Reg next_register) ∷ on_middle alu.Div (value.Int (pos 2))
    ∷ on_middle alu.Add (value.Reg next_register) ∷ []

-- the place of the cut, for each table that is carried
abbrev pub cut_places : List CarryAt → List Instr
cut_places carries = map (λ c. instr.Move (at_of c) (value.Reg middle_register)) carries

-- the left has its record and ends at the cut; where no iteration is left to it, its mark goes
abbrev pub left_begins : LoopSite → List Instr
left_begins site =
    instr.Store cut_register site.rec (value.Reg record_register)
    ∷ instr.Store cut_register site.bound (value.Reg middle_register)
    ∷ instr.Calc test_register next_register alu.Lt (value.Reg middle_register)
    ∷ instr.IfJump test_register (back_label site.label)
    ∷ instr.PrmDrop ∷ []

-- cuts the iterations that aren't begun in two
abbrev pub loop_cut_block : LoopSite → Block
loop_cut_block site =
    block_of site.label note.Plain
    (ask site.label
    ++ (middle site
    ++ (cut_places site.carries
    ++ instr.Fork record_register (child_label site.label) ∷ left_begins site)))
    (to (none_label site.label))

-- the accumulators begin with their units
abbrev pub units : List (ℕ × Op) → List Instr
units accs = map (λ (a : ℕ × Op). instr.Store base_register a.0 (value.Int (unit a.1))) accs

-- the child has its record and begins at the cut, with units and a mark of its own
abbrev pub loop_child_block : LoopSite → Block
loop_child_block site =
    block_of (child_label site.label) note.Plain
    (instr.Store base_register site.rec (value.Reg record_register)
    ∷ instr.Store base_register site.cursor (value.Reg middle_register)
    ∷ units site.accs ++ instr.PrmPush base_register site.mark site.cells (split_label site) ∷ [])
    (to (first_label site.label))

abbrev pub loop_handler_blocks : LoopSite → List Block
loop_handler_blocks site =
    loop_cut_block site ∷ back_block site.label ∷ loop_child_block site ∷ []

-- ---- pairs of calls

-- the left returns to where it ends, and has its record: both stand in the activation above the one
-- that is cut
abbrev pub left_returns : CallSite → List Instr
left_returns site =
    instr.Calc cut_register cut_register alu.Add (value.Int (pos site.cells))
    ∷ instr.Store cut_register 0 (value.Label (left_end_label site.label))
    ∷ instr.Store cut_register 1 (value.Reg record_register) ∷ []

-- cuts a pair of calls in two
abbrev pub call_cut_block : CallSite → Block
call_cut_block site =
    block_of site.label note.Plain
    (ask site.label ++ instr.Fork record_register (child_label site.label) ∷ left_returns site)
    (to (back_label site.label))

-- the child has its record and makes the second call
abbrev pub call_child_block : CallSite → Block
call_child_block site =
    block_of (child_label site.label) note.Plain
    (instr.Store base_register site.rec (value.Reg record_register) ∷ [])
    (to site.entry)

abbrev pub call_handler_blocks : CallSite → List Block
call_handler_blocks site =
    call_cut_block site ∷ back_block site.label ∷ call_child_block site ∷ []

-- ---- join targets

-- the registers of so many accumulators, from one on: those of the left, and those in which those
-- of the right are found
abbrev pub renames_from : ℕ → List (ℕ × Op) → List (ℕ × ℕ)
renames_from r [] = []
renames_from r (a ∷ accs) = (r, MAX_REDUCTIONS + r) ∷ renames_from (r + 1) accs

-- the registers that a side of a loop hands over: the accumulators, and the record
abbrev pub loop_renames : LoopSite → List (ℕ × ℕ)
loop_renames site = renames_from 0 site.accs ++ (record_register, other_record) ∷ []

-- where the sides of a loop meet
abbrev pub loop_target : LoopSite → Target
loop_target site = record {
  comm = false;
  renames = loop_renames site;
  comb = comb_label site.label;
  kind = kind.Loop;
  carries = site.carries;
}

-- where the sides of a pair of calls meet: each hands over its value in r0, and the record
abbrev pub call_target : CallSite → Target
call_target site = record {
  comm = false;
  renames = (0, 1) ∷ (record_register, other_record) ∷ [];
  comb = comb_label site.label;
  kind = kind.Call;
  carries = [];
}
