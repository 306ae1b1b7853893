-- The blocks of handlers meet the conditions on blocks of a code.
use Rattle.std.proofs.Common.{◌≡◌, ℕ, suc, ◌+◌, ◌<◌, ◌≤◌, Bool, true, All, List, [], ◌∷◌}
use Rattle.std.proofs.Common.{◌++◌, length, refl, ◌∙◌, arith}
use Rattle.std.proofs.lemmas.List.Elements.{All-head, All-tail}
use Rattle.std.proofs.lemmas.List.Folds.{list_all-append}
use Rattle.std.specs.List.{AllByRecursion, list_all}
use Rattle.std.specs.Prelude.{pos, ◌&&◌, nat_lt, nat_le}
use Rattle.reduce_ops.specs.Reduction.{unit}
use Rattle.tp_value.specs.declared.Op.{Op}
use Rattle.tp_value.specs.declared.Op.TheVariants as op
use Rattle.tpal_syntax.specs.Conditions.{IsBlock}
use Rattle.tpal_syntax.specs.declared.blocks.Block.{Block}
use Rattle.tpal_syntax.specs.declared.blocks.CodeTable.{CodeTable}
use Rattle.tpal_syntax.specs.declared.instructions.Instr.{Instr}
use Rattle.tpal_syntax.specs.declared.instructions.Instr.TheVariants as instr
use Rattle.tpal_syntax.specs.declared.instructions.Value.TheVariants as value
use Rattle.tpal_syntax.specs.declared.notes.CarryAt.{CarryAt}
use Rattle.tpal_syntax.specs.declared.notes.CarryAt.TheVariants as carry
use Rattle.tpal_syntax.specs.declared.sites.CallSite.{CallSite}
use Rattle.tpal_syntax.specs.declared.sites.LoopSite.{LoopSite}
use Rattle.tpal_syntax.specs.Parts.{is_instr, is_number}
use Rattle.expr_lower.proofs.FittingBlocks.{name_is}
use Rattle.handler_gen.specs.Blocks.{ask, middle, cut_places, left_begins, units, left_returns}
use Rattle.handler_gen.specs.Blocks.{dispatch_block, loop_cut_block, back_block, loop_child_block}
use Rattle.handler_gen.specs.Blocks.{loop_handler_blocks, call_cut_block, call_child_block}
use Rattle.handler_gen.specs.Blocks.{call_handler_blocks}
use Rattle.tpal_syntax.specs.declared.sites.LeafSite.{LeafSite}
use Rattle.expr_lower.specs.Fitting.{AreBlocksOf}
use Rattle.handler_gen.specs.Fitting.{HasLoopPlaces, HasLeafPlaces, HasCallPlaces}
use Rattle.handler_gen.specs.LeafBlocks.{leaf_handler_blocks, loads_of, start_block, stores_of}
use Rattle.handler_gen.specs.LeafSites.{IsLeafSite, head_label, registers_from, registers_of}
use Rattle.handler_gen.specs.LeafSites.{reload_label, start_label, stored_loop}
use Rattle.handler_gen.specs.Sites.{at_of, IsLowCarry, IsLoopSite, IsCallSite, back_label}
use Rattle.handler_gen.specs.Sites.{child_label, target_label, left_end_label, first_label}
use Rattle.handler_gen.specs.Sites.{none_label, split_label}
use Rattle.handler_gen.proofs.Marks.{le_true, lt_true}
use Rattle.handler_gen.proofs.Offsets.{cells_of, mark_in, cursor_in, bound_in, rec_in, accs_in}

-- ---- tests that hold

pub both : (a b : Bool) → a ≡ true → b ≡ true → (a && b) ≡ true
both a b h k = rw h k

pub joined_all : {A : Type 0} (p : A → Bool) (xs ys : List A) → list_all p xs ≡ true → list_all p ys ≡ true → list_all p (xs ++ ys) ≡ true
joined_all p xs ys h k = list_all-append p xs ys ∙ both (list_all p xs) (list_all p ys) h k

-- an offset of an activation
pub offset_is : (off cells : ℕ) → off < cells → cells ≤ 512 → nat_le off 511 ≡ true
offset_is off cells inside few = le_true off 511 (omega (arith, inside, few))

-- ---- instructions

number_is : (o : Op) → is_number (unit o) ≡ true
number_is op.Add = refl
number_is op.Mul = refl
number_is op.Min = refl
number_is op.Max = refl
number_is op.Affine = refl

low_register : (c : CarryAt) → IsLowCarry c → nat_lt (at_of c) 32 ≡ true
low_register (carry.Rows table at) low = lt_true at 32 (omega (arith, low.1))
low_register (carry.Cells table row at) low = lt_true at 32 (omega (arith, low.2))

module _ (tables : List CodeTable) (all : List Block) where
  abbrev fits : Instr → Bool
  fits i = is_instr (length tables) (length all) i

  abbrev blocks : ℕ
  blocks = length all

  ask_fits : (label : ℕ) → label + 3 < blocks → list_all fits (ask label) ≡ true
  ask_fits label few =
      both (nat_lt (target_label label) blocks) (nat_lt (back_label label) blocks && true) (lt_true (target_label label) blocks (omega (arith, few)))
      (both (nat_lt (back_label label) blocks) true (lt_true (back_label label) blocks (omega (arith, few))) refl)

  places_fit : (carries : List CarryAt) → All IsLowCarry carries → list_all fits (cut_places carries) ≡ true
  places_fit [] low = refl
  places_fit (c ∷ carries) low =
      both (nat_lt (at_of c) 32 && true) (list_all fits (cut_places carries)) (both (nat_lt (at_of c) 32) true (low_register c (All-head IsLowCarry c carries low)) refl)
      (places_fit carries (All-tail IsLowCarry c carries low))

  units_fit : (accs : List (ℕ × Op)) (cells : ℕ) → cells ≤ 512 → All (λ off. off < cells) (cells_of accs) → list_all fits (units accs) ≡ true
  units_fit [] cells few inside = refl
  units_fit (a ∷ accs) cells few inside =
      both (nat_le a.0 511 && is_number (unit a.1)) (list_all fits (units accs))
      (both (nat_le a.0 511) (is_number (unit a.1)) (offset_is a.0 cells (All-head (λ (off : ℕ). off < cells) a.0 (cells_of accs) inside) few) (number_is a.1))
      (units_fit accs cells few (All-tail (λ (off : ℕ). off < cells) a.0 (cells_of accs) inside))

  -- ---- blocks

  back_fits : (label : ℕ) → label < 65538 → IsBlock tables all (back_block label)
  back_fits label small = record { name = name_is (back_label label) (omega (arith, small)); note = tt; body = refl; term = refl }

  pub dispatch_fits : (label : ℕ) → label < 65538 → IsBlock tables all (dispatch_block label)
  dispatch_fits label small = record { name = name_is label (omega (arith, small)); note = tt; body = refl; term = refl }

  module _ (site : LoopSite) (right : IsLoopSite site) (places : HasLoopPlaces site tables all) where
    middle_fits : list_all fits (middle site) ≡ true
    middle_fits =
        both (nat_le site.cursor 511) (nat_le site.bound 511 && true) (offset_is site.cursor site.cells (cursor_in site right) right.cells)
        (both (nat_le site.bound 511) true (offset_is site.bound site.cells (bound_in site right) right.cells) refl)

    left_fits : list_all fits (left_begins site) ≡ true
    left_fits =
        both (nat_le site.rec 511 && true) ((nat_le site.bound 511 && true) && (nat_lt (back_label site.label) blocks && true)) (both (nat_le site.rec 511) true (offset_is site.rec site.cells (rec_in site right) right.cells) refl)
        (both (nat_le site.bound 511 && true) (nat_lt (back_label site.label) blocks && true) (both (nat_le site.bound 511) true (offset_is site.bound site.cells (bound_in site right) right.cells) refl)
        (both (nat_lt (back_label site.label) blocks) true (lt_true (back_label site.label) blocks (omega (arith, places.none))) refl))

    fork_fits : list_all fits (instr.Fork 24 (child_label site.label) ∷ left_begins site) ≡ true
    fork_fits = both (nat_lt (child_label site.label) blocks) (list_all fits (left_begins site)) (lt_true (child_label site.label) blocks (omega (arith, places.none))) left_fits

    cut_body_fits : list_all fits (loop_cut_block site).body ≡ true
    cut_body_fits =
        joined_all fits (ask site.label) (middle site ++ (cut_places site.carries ++ instr.Fork 24 (child_label site.label) ∷ left_begins site)) (ask_fits site.label (omega (arith, places.none)))
        (joined_all fits (middle site) (cut_places site.carries ++ instr.Fork 24 (child_label site.label) ∷ left_begins site) middle_fits
        (joined_all fits (cut_places site.carries) (instr.Fork 24 (child_label site.label) ∷ left_begins site) (places_fit site.carries right.carries) fork_fits))

    child_body_fits : list_all fits (loop_child_block site).body ≡ true
    child_body_fits =
        both (nat_le site.rec 511 && true) _ (both (nat_le site.rec 511) true (offset_is site.rec site.cells (rec_in site right) right.cells) refl)
        (both (nat_le site.cursor 511 && true) _ (both (nat_le site.cursor 511) true (offset_is site.cursor site.cells (cursor_in site right) right.cells) refl)
        (joined_all fits (units site.accs) _ (units_fit site.accs site.cells right.cells (accs_in site right))
        (both ((nat_le site.mark 511 && nat_le site.cells 512) && nat_lt (split_label site) blocks) true
        (both (nat_le site.mark 511 && nat_le site.cells 512) (nat_lt (split_label site) blocks)
        (both (nat_le site.mark 511) (nat_le site.cells 512) (offset_is site.mark site.cells (mark_in site right) right.cells) (le_true site.cells 512 right.cells)) (lt_true (split_label site) blocks places.split)) refl)))

    pub loop_handler_fits : AreBlocksOf tables all (loop_handler_blocks site)
    loop_handler_fits = (
      record { name = name_is site.label (omega (arith, right.label)); note = tt; body = cut_body_fits; term = lt_true (none_label site.label) blocks places.none },
      (
        back_fits site.label right.label,
        (record { name = name_is (child_label site.label) (omega (arith, right.label)); note = tt; body = child_body_fits; term = lt_true (first_label site.label) blocks (omega (arith, places.none)) }, tt),
      ),
    )

  -- registers that a code has, with cells of an activation
  abbrev AreRight : ℕ → List (ℕ × ℕ) → Type 0
  AreRight cells ps = AllByRecursion (λ (p : ℕ × ℕ). (p.0 < cells) × (p.1 < 32)) ps

  accs_right : (accs : List (ℕ × Op)) (r cells : ℕ) → r + length accs ≤ 32
      → All (λ off. off < cells) (cells_of accs) → AreRight cells (registers_from r accs)
  accs_right [] r cells low inside = tt
  accs_right (a ∷ accs) r cells low inside =
      let many : r + suc (length accs) ≤ 32 = low in (
        (All-head (λ (off : ℕ). off < cells) a.0 (cells_of accs) inside, omega (arith, many)),
        accs_right accs (r + 1) cells (omega (arith, many))
            (All-tail (λ (off : ℕ). off < cells) a.0 (cells_of accs) inside),
      )

  stores_fit : (ps : List (ℕ × ℕ)) (cells : ℕ) → cells ≤ 512 → AreRight cells ps
      → list_all fits (stores_of ps) ≡ true
  stores_fit [] cells few right = refl
  stores_fit (p ∷ ps) cells few right =
      both (nat_le p.0 511 && nat_lt p.1 32) (list_all fits (stores_of ps))
      (both (nat_le p.0 511) (nat_lt p.1 32) (offset_is p.0 cells right.0.0 few)
      (lt_true p.1 32 right.0.1)) (stores_fit ps cells few right.1)

  loads_fit : (ps : List (ℕ × ℕ)) (cells : ℕ) → cells ≤ 512 → AreRight cells ps
      → list_all fits (loads_of ps) ≡ true
  loads_fit [] cells few right = refl
  loads_fit (p ∷ ps) cells few right =
      both (is_instr (length tables) (length all) (instr.Load p.1 31 p.0))
      (list_all fits (loads_of ps)) (load_fits p.1 p.0 (lt_true p.1 32 right.0.1)
      (offset_is p.0 cells right.0.0 few)) (loads_fit ps cells few right.1)
    where
      load_fits : (r off : ℕ) → nat_lt r 32 ≡ true → nat_le off 511 ≡ true
          → fits (instr.Load r 31 off) ≡ true
      load_fits r off first second = rw first second

  module _ (site : LeafSite) (right : IsLeafSite site) where
    are_right : AreRight site.cells (registers_of site)
    are_right = (
      (cursor_in (stored_loop site) right.loop, omega arith),
      (
        (bound_in (stored_loop site) right.loop, omega arith),
        accs_right site.accs 26 site.cells (omega (arith, right.few_accs))
            (accs_in (stored_loop site) right.loop),
      ),
    )

    pub leaf_stores_fit : list_all fits (stores_of (registers_of site)) ≡ true
    leaf_stores_fit = stores_fit (registers_of site) site.cells right.loop.cells are_right

    pub leaf_start_fits : (first : ℕ) → first < blocks → IsBlock tables all (start_block site first)
    leaf_start_fits first known = record {
      name = name_is (start_label site) (omega (arith, right.loop.label));
      note = tt;
      body = loads_fit (registers_of site) site.cells right.loop.cells are_right;
      term = lt_true first blocks known;
    }

    module _ (places : HasLeafPlaces site tables all) where
      abbrev stored : LoopSite
      stored = stored_loop site

      leaving_fit : list_all fits (instr.Move 30 (value.Label (reload_label site.label))
          ∷ instr.PrmSplit 28 29 ∷ []) ≡ true
      leaving_fit =
          both (nat_lt (reload_label site.label) blocks) true
          (lt_true (reload_label site.label) blocks (omega (arith, places.loop.none))) refl

      pub leaf_handler_fits : AreBlocksOf tables all (leaf_handler_blocks site)
      leaf_handler_fits = (
        record {
          name = name_is site.label (omega (arith, right.loop.label));
          note = tt;
          body = joined_all fits (stores_of (registers_of site))
              (instr.Move 30 (value.Label (reload_label site.label)) ∷ instr.PrmSplit 28 29 ∷ [])
              leaf_stores_fit leaving_fit;
          term = refl;
        },
        (
          record {
            name = name_is (reload_label site.label) (omega (arith, right.loop.label));
            note = tt;
            body = loads_fit (registers_of site) site.cells right.loop.cells are_right;
            term = lt_true (head_label site) blocks places.head;
          },
          loop_handler_fits stored right.loop places.loop,
        ),
      )

  module _ (site : CallSite) (right : IsCallSite site) (places : HasCallPlaces site all) where
    rec_512 : site.rec < site.cells
    rec_512 = All-head (λ (off : ℕ). off < site.cells) site.rec site.args (All-tail (λ (off : ℕ). off < site.cells) site.mark (site.rec ∷ site.args) right.offsets)

    returns_fit : list_all fits (left_returns site) ≡ true
    returns_fit =
        both (is_number (pos site.cells)) _ (lt_true site.cells 9223372036854775808 (omega (arith, right.cells)))
        (both (nat_lt (left_end_label site.label) blocks) true (lt_true (left_end_label site.label) blocks (omega (arith, places.joined))) refl)

    call_body_fits : list_all fits (call_cut_block site).body ≡ true
    call_body_fits =
        joined_all fits (ask site.label) (instr.Fork 24 (child_label site.label) ∷ left_returns site) (ask_fits site.label (omega (arith, places.joined)))
        (both (nat_lt (child_label site.label) blocks) (list_all fits (left_returns site)) (lt_true (child_label site.label) blocks (omega (arith, places.joined))) returns_fit)

    call_child_fits : list_all fits (call_child_block site).body ≡ true
    call_child_fits = both (nat_le site.rec 511 && true) true (both (nat_le site.rec 511) true (offset_is site.rec site.cells rec_512 right.cells) refl) refl

    pub call_handler_fits : AreBlocksOf tables all (call_handler_blocks site)
    call_handler_fits = (
      record { name = name_is site.label (omega (arith, right.label)); note = tt; body = call_body_fits; term = lt_true (back_label site.label) blocks (omega (arith, places.joined)) },
      (
        back_fits site.label (omega (arith, right.label)),
        (record { name = name_is (child_label site.label) (omega (arith, right.label)); note = tt; body = call_child_fits; term = lt_true site.entry blocks places.entry }, tt),
      ),
    )
