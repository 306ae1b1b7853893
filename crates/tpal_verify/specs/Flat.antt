-- Flat codes: one activation at the bottom of the stack, with one mark.
use Rattle.std.specs.Prelude.{ℕ, ◌+◌, Bool, true, false, not, ◌&&◌, ◌==◌, nat_lt, List, [], ◌∷◌}
use Rattle.std.specs.Prelude.{Option, Some, None, if◌then◌else◌}
use Rattle.tpal_syntax.specs.declared.blocks.Block.{Block}
use Rattle.tpal_syntax.specs.declared.instructions.Value.{Value}
use Rattle.tpal_syntax.specs.declared.instructions.Value.TheVariants.{Reg, Int, Label, Nil}
use Rattle.tpal_syntax.specs.declared.instructions.Instr.{Instr}
use Rattle.tpal_syntax.specs.declared.instructions.Instr.TheVariants.{Move, Calc, IfJump, Load}
use Rattle.tpal_syntax.specs.declared.instructions.Instr.TheVariants.{Store, Salloc, Sfree, PrmPush}
use Rattle.tpal_syntax.specs.declared.instructions.Instr.TheVariants.{PrmPop, PrmDrop, PrmEmpty}
use Rattle.tpal_syntax.specs.declared.instructions.Instr.TheVariants.{PrmSplit, JrAlloc, Fork}
use Rattle.tpal_syntax.specs.declared.instructions.Instr.TheVariants.{Fetch, Put, Rows, Cols, Make}
use Rattle.tpal_syntax.specs.declared.instructions.Instr.TheVariants.{Tick, Trap, Print, Emit}
use Rattle.tpal_syntax.specs.declared.instructions.Term.{Term}
use Rattle.tpal_syntax.specs.declared.instructions.Term.TheVariants.{Jump, Halt, Join, Leave}
use Rattle.tpal_syntax.specs.declared.notes.CutKind.{CutKind}
use Rattle.tpal_syntax.specs.declared.notes.CutKind.TheVariants as cut
use Rattle.tpal_syntax.specs.declared.notes.Note.{Note}
use Rattle.tpal_syntax.specs.declared.notes.Note.TheVariants as note
use Rattle.tpal_syntax.specs.Listing.{Listing}

-- what the rules ask of a code: its blocks, the number of cells of its activation, and the cell of
-- its mark, where one is named
pub record Ground : Type 0 where
  pub blocks : List Block
  pub cells : ℕ
  pub mark : Option ℕ

-- ---- the activation and the mark

-- the number of a `salloc`
abbrev pub salloc_of : Instr → ℕ
salloc_of (Salloc n) = n
salloc_of _ = 0

-- that of a `salloc` that comes first
abbrev pub first_cells : List Instr → ℕ
first_cells [] = 0
first_cells (instr ∷ body) = salloc_of instr

-- the cells of the activation, which block 0 makes with its first instruction
abbrev pub cells_of : List Block → ℕ
cells_of [] = 0
cells_of (block ∷ blocks) = first_cells block.body

-- the cell that an instruction names as the mark's
abbrev pub mark_named : Instr → Option ℕ
mark_named (PrmPush base off cells split) = Some off
mark_named (PrmPop base off) = Some off
mark_named _ = None

abbrev pub or_else : Option ℕ → Option ℕ → Option ℕ
or_else None other = other
or_else (Some cell) other = Some cell

-- the first one that is named
abbrev pub mark_in : List Instr → Option ℕ
mark_in [] = None
mark_in (instr ∷ body) = or_else (mark_named instr) (mark_in body)

abbrev pub mark_of : List Block → Option ℕ
mark_of [] = None
mark_of (block ∷ blocks) = or_else (mark_in block.body) (mark_of blocks)

abbrev pub ground_of : Listing → Ground
ground_of code = record {
  blocks = code.blocks;
  cells = cells_of code.blocks;
  mark = mark_of code.blocks;
}

abbrev pub is_mark : Option ℕ → ℕ → Bool
is_mark None off = true
is_mark (Some cell) off = cell == off

-- ---- rule 1

-- no label names block 0, in which the activation is made
abbrev pub is_inner : ℕ → Bool
is_inner l = not (l == 0)

-- r31 stays the base of the activation
abbrev pub is_free : ℕ → Bool
is_free r = not (r == 31)

abbrev pub is_flat_value : Value → Bool
is_flat_value (Reg r) = true
is_flat_value (Int z) = true
is_flat_value (Label l) = is_inner l
is_flat_value Nil = true

-- a cell of an activation of so many cells
abbrev pub is_cell : ℕ → ℕ → ℕ → Bool
is_cell cells base off = base == 31 && nat_lt off cells

-- an instruction; `first` tells whether it is the first one of block 0
abbrev pub is_flat : Ground → Bool → Instr → Bool
is_flat whole first (Move to value) = is_free to && is_flat_value value
is_flat whole first (Calc to left alu right) = is_free to && is_flat_value right
is_flat whole first (IfJump test label) = is_inner label
is_flat whole first (Load to base off) = is_free to && is_cell whole.cells base off
is_flat whole first (Store base off value) =
    is_cell whole.cells base off && is_flat_value value
is_flat whole first (Salloc n) = first
is_flat whole first (Sfree n) = false
is_flat whole first (PrmPush base off cells split) =
    is_cell whole.cells base off && cells == whole.cells && is_mark whole.mark off
    && is_inner split
is_flat whole first (PrmPop base off) =
    is_cell whole.cells base off && is_mark whole.mark off
is_flat whole first PrmDrop = true
is_flat whole first (PrmEmpty r) = is_free r
is_flat whole first (PrmSplit base split) = is_free base && is_free split
is_flat whole first (JrAlloc to target) = is_free to && is_inner target
is_flat whole first (Fork rec child) = is_inner child
is_flat whole first (Fetch to table row col) = is_free to
is_flat whole first (Put table row col value) = true
is_flat whole first (Rows to table) = is_free to
is_flat whole first (Cols to table) = is_free to
is_flat whole first (Make table rows cols place) = true
is_flat whole first Tick = true
is_flat whole first (Trap kind place) = true
is_flat whole first (Print r) = true
is_flat whole first (Emit table) = true

-- a block's end: a jump is to a label, or back by r30, and nothing is left
abbrev pub is_flat_term : Term → Bool
is_flat_term (Jump (Reg r)) = r == 30
is_flat_term (Jump (Int z)) = false
is_flat_term (Jump (Label l)) = is_inner l
is_flat_term (Jump Nil) = false
is_flat_term Halt = true
is_flat_term (Join r) = true
is_flat_term (Leave rec value) = false

abbrev pub is_loop : CutKind → Bool
is_loop cut.Loop = true
is_loop cut.Call = false

abbrev pub is_flat_note : Note → Bool
is_flat_note note.Plain = true
is_flat_note (note.Ready handler) = is_inner handler
is_flat_note (note.Target target) = is_loop target.kind && is_inner target.comb

-- The first position from one on at which an instruction or the end isn't flat.
abbrev pub first_unflat : Ground → Bool → ℕ → List Instr → Term → Option ℕ
first_unflat whole first at [] term = if is_flat_term term then None else Some at
first_unflat whole first at (instr ∷ body) term =
    if is_flat whole first instr then first_unflat whole false (at + 1) body term else Some at

-- The first position of a block at which it isn't flat; the note's is 0.
abbrev pub unflat_in : Ground → Bool → Block → Option ℕ
unflat_in whole first block =
    if is_flat_note block.note then first_unflat whole first 0 block.body block.term else Some 0
