-- The blocks that store the registers of a leaf loop where a beat comes, and load them again.
use Rattle.std.specs.Prelude.{ℕ, List, [], ◌∷◌, ◌++◌, map}
use Rattle.tpal_syntax.specs.declared.blocks.Block.{Block}
use Rattle.tpal_syntax.specs.declared.instructions.Instr.{Instr}
use Rattle.tpal_syntax.specs.declared.instructions.Instr.TheVariants as instr
use Rattle.tpal_syntax.specs.declared.instructions.Term.TheVariants as term
use Rattle.tpal_syntax.specs.declared.instructions.Value.TheVariants as value
use Rattle.tpal_syntax.specs.declared.notes.Note.TheVariants as note
use Rattle.expr_lower.specs.Registers.{base_register}
use Rattle.tpal_syntax.specs.declared.sites.LeafSite.{LeafSite}
use Rattle.handler_gen.specs.Blocks.{block_of, to, loop_handler_blocks}
use Rattle.handler_gen.specs.LeafSites.{stored_loop, registers_of}
use Rattle.handler_gen.specs.LeafSites.{reload_label, start_label, head_label}
use Rattle.handler_gen.specs.Registers.{back_register, cut_register, split_register}

-- registers are stored into their cells, and loaded from them
abbrev pub stores_of : List (ℕ × ℕ) → List Instr
stores_of registers = map (λ (p : ℕ × ℕ). instr.Store base_register p.0 (value.Reg p.1)) registers

abbrev pub loads_of : List (ℕ × ℕ) → List Instr
loads_of registers = map (λ (p : ℕ × ℕ). instr.Load p.1 base_register p.0) registers

-- A beat comes here: the registers are stored, whoever goes back will load them again, and the
-- handler of the oldest mark begins, as from the block of `dispatch`.
abbrev pub save_block : LeafSite → Block
save_block site =
    block_of site.label note.Plain
    (stores_of (registers_of site)
    ++ instr.Move back_register (value.Label (reload_label site.label))
    ∷ instr.PrmSplit cut_register split_register ∷ [])
    (term.Jump (value.Reg split_register))

-- loads the registers at a label, and goes on at another
abbrev pub loads_block : LeafSite → ℕ → ℕ → Block
loads_block site label next =
    block_of label note.Plain (loads_of (registers_of site)) (to next)

-- loads the registers again, and goes back to where the beat came
abbrev pub reload_block : LeafSite → Block
reload_block site = loads_block site (reload_label site.label) (head_label site)

abbrev pub leaf_handler_blocks : LeafSite → List Block
leaf_handler_blocks site =
    save_block site ∷ reload_block site ∷ loop_handler_blocks (stored_loop site)

-- The loop begins here, and its child: the registers are loaded, and the first iteration begins at
-- a label.
abbrev pub start_block : LeafSite → ℕ → Block
start_block site first = loads_block site (start_label site) first
