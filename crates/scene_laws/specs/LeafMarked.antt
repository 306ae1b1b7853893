-- The code of a leaf loop: its blocks round its iterations.
use Rattle.std.specs.Prelude.{ℕ, pos, List, [], ◌∷◌, length}
use Rattle.loop_syntax.specs.declared.ParLoop.{ParLoop}
use Rattle.tp_value.specs.declared.TrapKind.TheVariants.{Wide}
use Rattle.tpal_syntax.specs.declared.instructions.Alu.TheVariants.{Add, Lt}
use Rattle.tpal_syntax.specs.declared.instructions.Instr.{Instr}
use Rattle.tpal_syntax.specs.declared.instructions.Instr.TheVariants as instr
use Rattle.tpal_syntax.specs.declared.instructions.Value.TheVariants as value
use Rattle.tpal_syntax.specs.Listing.{Listing}
use Rattle.expr_lower.specs.Bodies.{trap_block}
use Rattle.expr_lower.specs.Standing.{AreAt}
use Rattle.tpal_syntax.specs.declared.sites.LeafSite.{LeafSite}
use Rattle.handler_gen.specs.LeafBlocks.{leaf_handler_blocks, start_block, stores_of}
use Rattle.handler_gen.specs.LeafSites.{IsLeafSite, head_label, registers_of, start_label}
use Rattle.handler_gen.specs.LeafSites.{stored_loop}
use Rattle.handler_gen.specs.Registers.{leaf_bound, leaf_cursor}
use Rattle.handler_gen.specs.Sites.{none_label, over_label, side_label}
use Rattle.scene_laws.specs.Layout.{Activation, value_cell}
use Rattle.scene_laws.specs.Marked.{IsSite, length_test, marked_begin, side_test, unmark}
use Rattle.scene_laws.specs.Opening.{Opens, to}

-- Behind an iteration: the next number, and another iteration where it is below the end. Else the
-- registers are stored, and the piece ends.
abbrev pub leaf_turn : LeafSite → List Instr
leaf_turn site =
    instr.Calc leaf_cursor leaf_cursor Add (value.Int (pos 1))
    ∷ instr.Calc 0 leaf_cursor Lt (value.Reg leaf_bound)
    ∷ instr.IfJump 0 (head_label site) ∷ stores_of (registers_of site)

-- The code of the statements of main, or of a function, that stands on this.
module _ (code : Listing) (act : Activation) where
  -- The blocks of a leaf loop round its iterations, the first of which is at a label: those of the
  -- loop that it is while its registers are stored, in front of which its own handler stands, and
  -- the block that loads them for the first iteration.
  pub record IsLeafAt (names : List (List ℕ)) (l : ParLoop) (depth check first exit : ℕ)
      (site : LeafSite) : Type 0 where
    pub is_site : IsSite code act names l depth (value_cell (length names)) (stored_loop site)
    pub right : IsLeafSite site
    pub handler : AreAt code site.label (leaf_handler_blocks site)
    pub start : AreAt code (start_label site) (start_block site first ∷ [])
    pub wide : ℕ
    pub begins : Opens code check
        (length_test wide (marked_begin (stored_loop site) (start_label site))) (to wide)
    pub too_wide : AreAt code wide (trap_block wide Wide l.place ∷ [])
    pub over : Opens code (over_label (stored_loop site).label)
        (unmark (stored_loop site) ∷ side_test (stored_loop site) exit)
        (to (side_label (stored_loop site).label))
    pub none : Opens code (none_label (stored_loop site).label) []
        (to (over_label (stored_loop site).label))
