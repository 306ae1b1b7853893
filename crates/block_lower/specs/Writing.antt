-- How far a code that is being written has come, and what of it stands in a whole code.
use Rattle.std.specs.Prelude.{◌≡◌, ℕ, ◌+◌, List, [], ◌∷◌, ◌++◌, length}
use Rattle.tp_value.specs.declared.Place.{Place}
use Rattle.tp_value.specs.declared.TrapKind.{TrapKind}
use Rattle.tpal_syntax.specs.declared.blocks.Block.{Block}
use Rattle.tpal_syntax.specs.declared.instructions.Instr.{Instr}
use Rattle.tpal_syntax.specs.declared.instructions.Term.{Term}
use Rattle.tpal_syntax.specs.declared.notes.Note.TheVariants as note
use Rattle.tpal_syntax.specs.Listing.{Listing}
use Rattle.expr_lower.specs.Bodies.{name_of, trap_block}
use Rattle.expr_lower.specs.Standing.{AreAt}
use Rattle.block_lower.specs.declared.output.Output.{Output}
use Rattle.scene_laws.specs.Code.{OpensAs}

-- the label of the open block
abbrev pub label : Output → ℕ
label out = length out.blocks.items

-- the label of the block that is opened when it is closed
abbrev pub next_label : Output → ℕ
next_label out = length out.blocks.items + 1 + length out.traps.items

-- ---- steps of writing

-- nothing is written in the open block yet
pub record IsEmpty (out : Output) : Type 0 where
  pub body : out.body.items ≡ []
  pub traps : out.traps.items ≡ []

-- nor is it promotion-ready
pub record IsFresh (out : Output) : Type 0 where
  pub body : out.body.items ≡ []
  pub traps : out.traps.items ≡ []
  pub plain : out.note ≡ note.Plain

-- these instructions were appended to the open block
pub record Pushes (instrs : List Instr) (old new : Output) : Type 0 where
  pub blocks : new.blocks.items ≡ old.blocks.items
  pub body : new.body.items ≡ old.body.items ++ instrs
  pub traps : new.traps.items ≡ old.traps.items
  pub noted : new.note ≡ old.note

-- a trap block was appended to those behind the open block
pub record Traps (kind : TrapKind) (place : Place) (old new : Output) : Type 0 where
  pub blocks : new.blocks.items ≡ old.blocks.items
  pub body : new.body.items ≡ old.body.items
  pub traps : new.traps.items ≡ old.traps.items ++ trap_block (next_label old) kind place ∷ []
  pub noted : new.note ≡ old.note

-- the open block was closed with an end, and the next one is open
pub record Closes (end : Term) (old new : Output) : Type 0 where
  pub blocks : new.blocks.items
      ≡ old.blocks.items
      ++ (record
      { name = name_of (label old); note = old.note; body = old.body.items; term = end }
      ∷ old.traps.items)
  pub fresh : IsFresh new

-- closed blocks were appended in the place of the open one, in which nothing was written
pub record Appends (more : List Block) (old new : Output) : Type 0 where
  pub blocks : new.blocks.items ≡ old.blocks.items ++ more
  pub fresh : IsFresh new

-- the open block, in which nothing was written, is promotion-ready
pub record Readies (dispatch : ℕ) (old new : Output) : Type 0 where
  pub blocks : new.blocks.items ≡ old.blocks.items
  pub body : new.body.items ≡ []
  pub traps : new.traps.items ≡ []
  pub noted : new.note ≡ note.Ready dispatch

-- ---- in a whole code

-- the closed blocks stand in a code
abbrev pub Stands : Listing → Output → Type 0
Stands code out = AreAt code 0 out.blocks.items

-- all that is written stands in a code, and the open block goes on with these instructions and this
-- end
pub record Continues (code : Listing) (out : Output) (instrs : List Instr) (end : Term) : Type 0
  where
    pub closed : Stands code out
    pub opens : OpensAs code out.note (label out) (out.body.items ++ instrs) end
    pub traps : AreAt code (label out + 1) out.traps.items

-- the open block goes on with some instructions and an end that are as told
pub record Leads (code : Listing) (out : Output) (are : List Instr → Term → Type 0) : Type 0 where
  pub instrs : List Instr
  pub end : Term
  pub continues : Continues code out instrs end
  pub told : are instrs end
