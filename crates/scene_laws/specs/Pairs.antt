-- The code of two calls that can be cut: the second one goes to a child where a beat comes while
-- the first one runs.
use Rattle.std.specs.Prelude.{◌≡◌, ℕ, zero, suc, ◌+◌, pos, cond, nat_eq, List, [], ◌∷◌, ◌++◌}
use Rattle.tp_value.specs.declared.Place.{Place}
use Rattle.tp_value.specs.declared.TrapKind.TheVariants.{Deep}
use Rattle.tpal_syntax.specs.declared.instructions.Alu.TheVariants.{Add, Sub}
use Rattle.tpal_syntax.specs.declared.instructions.Instr.{Instr}
use Rattle.tpal_syntax.specs.declared.instructions.Instr.TheVariants as instr
use Rattle.tpal_syntax.specs.declared.instructions.Term.{Term}
use Rattle.tpal_syntax.specs.declared.instructions.Term.TheVariants as term
use Rattle.tpal_syntax.specs.declared.instructions.Value.TheVariants as value
use Rattle.tpal_syntax.specs.declared.notes.Note.TheVariants as note
use Rattle.tpal_syntax.specs.declared.sites.CallSite.{CallSite}
use Rattle.tpal_syntax.specs.Listing.{Listing}
use Rattle.expr_lower.specs.Standing.{AreAt}
use Rattle.expr_lower.specs.Registers.{base_register}
use Rattle.scene_laws.specs.Calling.{call_exit, passed}
use Rattle.scene_laws.specs.Layout.{Activation, Entry, kept_argument, kept_cell, kept_mark}
use Rattle.scene_laws.specs.Layout.{kept_record, levels_cell, return_cell}
use Rattle.scene_laws.specs.Opening.{Opens, OpensAs, load, store, to}
use Rattle.handler_gen.specs.Blocks.{call_handler_blocks}
use Rattle.handler_gen.specs.Sites.{IsCallSite, child_end_label, joined_label, target_label}
use Rattle.join_gen.specs.Blocks.{call_join_blocks}

-- the kept cells of so many arguments, from one on
abbrev pub kept_from : Activation → ℕ → ℕ → List ℕ
kept_from act zero i = []
kept_from act (suc n) i = kept_argument act i ∷ kept_from act n (suc i)

-- the callee's levels, one less than register 0 has, and its label to return to
abbrev pub call_given : ℕ → ℕ → ℕ → List Instr → List Instr
call_given by size back more =
    instr.Calc by 0 Sub (value.Int (pos 1)) ∷ store (size + levels_cell) (value.Reg by)
    ∷ store (size + return_cell) (value.Label back) ∷ more

-- the callee's activation is the one that runs
abbrev pub call_enters : ℕ → List Instr
call_enters size = instr.Calc base_register base_register Add (value.Int (pos size)) ∷ []

-- behind the first call, where the second wasn't cut off: the caller's activation, of so many
-- cells, runs again, the mark in a cell goes, and the value goes to one; the callee's cells stay
abbrev pub first_exit : ℕ → ℕ → ℕ → List Instr → List Instr
first_exit size mark cell more =
    instr.Calc base_register base_register Sub (value.Int (pos size))
    ∷ instr.PrmPop base_register mark ∷ store cell (value.Reg 0) ∷ more

-- The activation of a function that returned becomes that of another. Where both have as many cells
-- these stay: nobody reads a cell of an activation before it is set.
abbrev pub fitted : ℕ → ℕ → List Instr
fitted size other = cond (nat_eq size other) [] (instr.Sfree size ∷ instr.Salloc other ∷ [])

-- The code of the statements of main, or of a function, that stands on this.
module _ (code : Listing) (act : Activation) where
  -- The first call of a pair, whose arguments stand in its activation: a tick, its levels and its
  -- label to return to, the mark, and a trap where no level is left.
  abbrev pub pair_begins : CallSite → Place → ℕ → ℕ → List Instr
  pair_begins site place back go =
      instr.Tick ∷ load 0 levels_cell
      ∷ call_given 1 act.size back
      (instr.PrmPush base_register site.mark site.cells site.label ∷ instr.IfJump 0 go
      ∷ instr.Trap Deep place ∷ [])

  -- the second call of a pair, whose so many arguments are kept, where the cells of its activation
  -- are there; a level is left, as one was before
  abbrev pub passed_call : ℕ → ℕ → List Instr
  passed_call many back =
      passed code act many 0
      (instr.Tick ∷ load 0 levels_cell ∷ call_given 0 act.size back (call_enters act.size))

  -- the same, where its activation is made first
  abbrev pub second_call : ℕ → ℕ → ℕ → List Instr
  second_call many size back = instr.Salloc size ∷ passed_call many back

  -- behind the join of both sides, whose values are in registers 0 and 1, the first one goes to a
  -- cell, and all is as it is where the second call returns
  abbrev pub pair_joined : ℕ → ℕ → List Instr
  pair_joined cell size =
      store cell (value.Reg 0) ∷ instr.Move 0 (value.Reg 1)
      ∷ instr.Salloc size ∷ call_enters act.size

  -- the site of a pair of calls at a label, the second of which has so many arguments
  abbrev pub call_site : ℕ → ℕ → ℕ → CallSite
  call_site many entry label =
      record {
        label = label;
        cells = act.size;
        rec = kept_cell act kept_record;
        mark = kept_cell act kept_mark;
        entry = entry;
        args = kept_from act many 0;
      }

  -- Two calls, from the first one's tick on, and what stands behind the second. The first one's
  -- value goes to a cell. The second one can be cut off as soon as the first is entered, at a block
  -- from which beats go to `dispatch`.
  pub record IsPair (dispatch : ℕ) (place : Place) (cell many : ℕ) (first second : Entry)
      (site : CallSite) (instrs : List Instr) (end : Term) (more : List Instr) (last : Term)
      : Type 0 where
    pub go : ℕ
    pub between : ℕ
    pub return : ℕ
    pub is : site ≡ call_site many site.entry site.label
    pub right : IsCallSite site
    pub begins : instrs ≡ pair_begins site place between go
    pub stops : end ≡ term.Halt
    pub enters : OpensAs code (note.Ready dispatch) go (call_enters act.size) (to first.label)
    pub handler : AreAt code site.label (call_handler_blocks site)
    pub join : AreAt code (target_label site.label) (call_join_blocks site)
    pub joined : Opens code (joined_label site.label) (pair_joined cell second.size) (to return)
    pub child : Opens code site.entry
        (second_call many second.size (child_end_label site.label))
        (to second.label)
    pub after : Opens code between
        (first_exit act.size site.mark cell
        (fitted first.size second.size ++ passed_call many return))
        (to second.label)
    pub behind : Opens code return (call_exit second.size act.size more) last
