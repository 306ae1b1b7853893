-- Which block stands at a label in a code, and the instructions that stand in most blocks.
use Rattle.std.specs.Prelude.{◌≡◌, ℕ, List, Some}
use Rattle.tpal_syntax.specs.declared.blocks.Block.{Block}
use Rattle.tpal_syntax.specs.declared.instructions.Instr.{Instr}
use Rattle.tpal_syntax.specs.declared.instructions.Instr.TheVariants as instr
use Rattle.tpal_syntax.specs.declared.instructions.Term.{Term}
use Rattle.tpal_syntax.specs.declared.instructions.Term.TheVariants as term
use Rattle.tpal_syntax.specs.declared.instructions.Value.{Value}
use Rattle.tpal_syntax.specs.declared.instructions.Value.TheVariants as value
use Rattle.tpal_syntax.specs.declared.notes.Note.{Note}
use Rattle.tpal_syntax.specs.declared.notes.Note.TheVariants as note
use Rattle.tpal_syntax.specs.Listing.{Listing}
use Rattle.tpal_machine.specs.Reading.{block_at}
use Rattle.expr_lower.specs.Registers.{base_register}

-- the block at a label is marked as this, and has these instructions and this end
pub record OpensAs (code : Listing) (mark : Note) (label : ℕ) (instrs : List Instr) (end : Term)
    : Type 0 where
  pub block : Block
  pub found : block_at code label ≡ Some block
  pub noted : block.note ≡ mark
  pub body : block.body ≡ instrs
  pub ends : block.term ≡ end

-- the block at a label is a plain one, with these instructions and this end
abbrev pub Opens : Listing → ℕ → List Instr → Term → Type 0
Opens code label instrs end = OpensAs code note.Plain label instrs end

abbrev pub to : ℕ → Term
to label = term.Jump (value.Label label)

-- a store to a cell of the activation, and a load
abbrev pub store : ℕ → Value → Instr
store cell v = instr.Store base_register cell v

abbrev pub load : ℕ → ℕ → Instr
load r cell = instr.Load r base_register cell
