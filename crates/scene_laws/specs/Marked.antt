-- The code of a `par` that can be cut, in whose body no point of promotion can be reached: its
-- blocks round its iterations.
use Rattle.std.specs.Prelude.{◌≡◌, ℕ, pos, true, List, [], ◌∷◌, length}
use Rattle.std.specs.List.{AllByRecursion, list_any}
use Rattle.handler_gen.specs.Registers.{record_register, test_register}
use Rattle.loop_syntax.specs.declared.Carry.{Carry}
use Rattle.loop_syntax.specs.declared.ParLoop.{ParLoop}
use Rattle.loop_syntax.specs.declared.Reduce.{Reduce}
use Rattle.tp_value.specs.declared.limits.TheConstants.{MAX_PAR_LENGTH}
use Rattle.tp_value.specs.declared.TrapKind.TheVariants.{Wide}
use Rattle.tpal_syntax.specs.declared.instructions.Alu.TheVariants.{Eq, Le, Lt, Sub}
use Rattle.tpal_syntax.specs.declared.instructions.Instr.{Instr}
use Rattle.tpal_syntax.specs.declared.instructions.Instr.TheVariants as instr
use Rattle.tpal_syntax.specs.declared.instructions.Value.TheVariants as value
use Rattle.tpal_syntax.specs.declared.sites.LoopSite.{LoopSite}
use Rattle.tpal_syntax.specs.Listing.{Listing}
use Rattle.expr_lower.specs.declared.scope.Scope.{Scope}
use Rattle.expr_lower.specs.Bodies.{trap_block}
use Rattle.expr_lower.specs.Scopes.{HasTable, HasCell}
use Rattle.expr_lower.specs.Standing.{AreAt}
use Rattle.expr_lower.specs.Registers.{base_register}
use Rattle.scene_laws.specs.Layout.{Activation, value_cell}
use Rattle.scene_laws.specs.Names.{Sees}
use Rattle.scene_laws.specs.Opening.{Opens, load, store, to}
use Rattle.scene_laws.specs.Sites.{carried_table, loop_site, rows_from}
use Rattle.handler_gen.specs.Blocks.{loop_handler_blocks}
use Rattle.handler_gen.specs.Sites.{IsLoopSite, first_label, is_of_cells, none_label, over_label}
use Rattle.handler_gen.specs.Sites.{prep_label, side_label, split_label, target_label}
use Rattle.join_gen.specs.Blocks.{loop_join_blocks}

-- The test of a `par` whose first number is in register 1 and whose bound, above it, is in register
-- 0: their difference is negative where it is above the numbers of 64 bits.
abbrev pub length_test : ℕ → List Instr → List Instr
length_test wide more =
    instr.Calc 2 0 Sub (value.Reg 1) ∷ instr.Calc 3 2 Lt (value.Int (pos 0)) ∷ instr.IfJump 3 wide
    ∷ instr.Calc 3 2 Le (value.Int (pos MAX_PAR_LENGTH)) ∷ more

-- behind that test a `par` is marked: no side has a record yet, its mark is set, and its first
-- iteration begins where it isn't too wide
abbrev pub marked_begin : LoopSite → ℕ → List Instr
marked_begin site first =
    store site.rec value.Nil ∷ instr.PrmPush base_register site.mark site.cells (split_label site)
    ∷ instr.IfJump 3 first ∷ []

-- the mark goes, where it still stands
abbrev pub unmark : LoopSite → Instr
unmark site = instr.PrmPop base_register site.mark

-- the end of a piece of a `par`: behind the whole loop where the activation has no record, else
-- that of a side
abbrev pub side_test : LoopSite → ℕ → List Instr
side_test site exit =
    load record_register site.rec ∷ instr.Calc test_register record_register Eq value.Nil
    ∷ instr.IfJump test_register exit ∷ []

-- The code of the statements of main, or of a function, that stands on this.
module _ (code : Listing) (act : Activation) where
  -- The blocks round the iterations of a `par` that can be cut: its handler and its join, and where
  -- carries have rows the block that loads them first.
  pub record IsSite (names : List (List ℕ)) (l : ParLoop) (depth cursor : ℕ) (site : LoopSite)
      : Type 0 where
    pub scope : Scope
    pub sees : Sees scope names act.tables
    pub reduced : AllByRecursion (λ (r : Reduce). HasCell scope r.target.text.items)
        l.reduces.items
    pub carried : AllByRecursion (λ (c : Carry). HasTable scope (carried_table c)) l.carries.items
    pub is : site ≡ loop_site scope l act.size depth (length names) cursor site.label
    pub right : IsLoopSite site
    pub handler : AreAt code site.label (loop_handler_blocks site)
    pub join : AreAt code (target_label site.label) (loop_join_blocks site)
    pub rows : list_any is_of_cells site.carries ≡ true
        → Opens code (prep_label site.label) (rows_from scope 0 l.carries.items) (to site.label)

  -- The same of a quiet one, in whose body no point of promotion can be reached, with the block
  -- where it begins. Its cursor is its variable. It is cut between two iterations alone, so its
  -- handler ends it where no iteration is left.
  pub record IsQuietSite (names : List (List ℕ)) (l : ParLoop) (depth check first exit : ℕ)
      (site : LoopSite) : Type 0 where
    pub is_site : IsSite names l depth (value_cell (length names)) site
    pub wide : ℕ
    pub begins : Opens code check (length_test wide (marked_begin site first)) (to wide)
    pub too_wide : AreAt code wide (trap_block wide Wide l.place ∷ [])
    pub child : Opens code (first_label site.label) [] (to first)
    pub over : Opens code (over_label site.label) (unmark site ∷ side_test site exit)
        (to (side_label site.label))
    pub none : Opens code (none_label site.label) [] (to (over_label site.label))
