-- Where in a code instructions and blocks stand.
use Rattle.std.specs.Prelude.{◌≡◌, ℕ, ◌+◌, ⊤, List, [], ◌∷◌, Some, drop}
use Rattle.tpal_syntax.specs.declared.blocks.Block.{Block}
use Rattle.tpal_syntax.specs.declared.instructions.Instr.{Instr}
use Rattle.tpal_syntax.specs.declared.instructions.Term.{Term}
use Rattle.tpal_syntax.specs.Listing.{Listing}
use Rattle.tpal_machine.specs.Reading.{block_at}

-- what remains of the block at a label from a position on: instructions, and the end
pub record Remains (code : Listing) (label at : ℕ) (instrs : List Instr) (end : Term) : Type 0 where
  pub block : Block
  pub found : block_at code label ≡ Some block
  pub rest : drop at block.body ≡ instrs
  pub ends : block.term ≡ end

-- these blocks stand in a code from a label on
abbrev pub AreAt : Listing → ℕ → List Block → Type 0
AreAt code label [] = ⊤
AreAt code label (block ∷ blocks) =
    (block_at code label ≡ Some block) × AreAt code (label + 1) blocks
