-- The code of a `par` that can be cut, in whose body points of promotion may be reached: its blocks
-- round its iterations.
use Rattle.std.specs.Prelude.{ℕ, pos, negsuc, List, [], ◌∷◌, length}
use Rattle.handler_gen.specs.Registers.{back_register}
use Rattle.loop_syntax.specs.declared.ParLoop.{ParLoop}
use Rattle.tp_value.specs.declared.TrapKind.TheVariants.{Wide}
use Rattle.tpal_syntax.specs.declared.instructions.Alu.TheVariants.{Add, Eq, Lt, Sub}
use Rattle.tpal_syntax.specs.declared.instructions.Instr.{Instr}
use Rattle.tpal_syntax.specs.declared.instructions.Instr.TheVariants as instr
use Rattle.tpal_syntax.specs.declared.instructions.Term.TheVariants as term
use Rattle.tpal_syntax.specs.declared.instructions.Value.TheVariants as value
use Rattle.tpal_syntax.specs.declared.notes.Note.TheVariants as note
use Rattle.tpal_syntax.specs.declared.sites.LoopSite.{LoopSite}
use Rattle.tpal_syntax.specs.Listing.{Listing}
use Rattle.expr_lower.specs.Bodies.{trap_block}
use Rattle.expr_lower.specs.Standing.{AreAt}
use Rattle.scene_laws.specs.Layout.{Activation, cursor_cell, value_cell}
use Rattle.scene_laws.specs.Marked.{IsSite, length_test, marked_begin, side_test, unmark}
use Rattle.scene_laws.specs.Opening.{Opens, OpensAs, load, store, to}
use Rattle.handler_gen.specs.Sites.{first_label, none_label, over_label, side_label}

-- The next iteration of a `par` that has a cursor of its own begins. The difference of the cursor
-- and the bound is tested, since the number behind the cursor may be beyond 64 bits.
abbrev pub next_begun : LoopSite → ℕ → ℕ → List Instr
next_begun site level turn =
    load 1 site.cursor ∷ load 0 site.bound ∷ instr.Calc 3 1 Sub (value.Reg 0)
    ∷ store (value_cell level) (value.Reg 1) ∷ instr.Calc 1 1 Add (value.Int (pos 1))
    ∷ store site.cursor (value.Reg 1) ∷ instr.Calc 2 3 Lt (value.Int (negsuc 0))
    ∷ instr.IfJump 2 turn ∷ []

-- where that difference isn't below -1 there is one iteration, before which the mark goes, or none
abbrev pub last_begun : LoopSite → List Instr
last_begun site =
    instr.Calc 2 3 Eq (value.Int (pos 0)) ∷ instr.IfJump 2 (over_label site.label)
    ∷ unmark site ∷ []

-- The code of the statements of main, or of a function, that stands on this; beats go to a block.
module _ (code : Listing) (act : Activation) (dispatch : ℕ) where
  -- The blocks round the iterations of a `par` that may be cut in the middle of one: its cursor has
  -- a cell of its own, its mark goes before the last iteration, and its handler always goes back.
  pub record IsDeepSite (names : List (List ℕ)) (l : ParLoop) (depth check head turn exit : ℕ)
      (site : LoopSite) : Type 0 where
    pub is_site : IsSite code act names l depth (cursor_cell depth) site
    pub wide : ℕ
    pub begins : Opens code check
        (length_test wide
        (store site.cursor (value.Reg 1) ∷ marked_begin site (first_label site.label)))
        (to wide)
    pub too_wide : AreAt code wide (trap_block wide Wide l.place ∷ [])
    pub last : ℕ
    pub first : Opens code (first_label site.label) (next_begun site (length names) turn) (to last)
    pub next : OpensAs code (note.Ready dispatch) head (next_begun site (length names) turn)
        (to last)
    pub ends : Opens code last (last_begun site) (to turn)
    pub over : Opens code (over_label site.label) (side_test site exit) (to (side_label site.label))
    pub none : Opens code (none_label site.label) [] (term.Jump (value.Reg back_register))
