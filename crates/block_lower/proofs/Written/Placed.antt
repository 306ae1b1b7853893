-- The blocks that are made from a site may stand in the code that is written.
use Rattle.std.proofs.Common.{◌≡◌, ℕ, zero, suc, ◌+◌, ◌<◌, ◌≤◌, Bool, true, false, All, List, []}
use Rattle.std.proofs.Common.{◌∷◌, ◌++◌}
use Rattle.std.proofs.Common.{Option, Some, length, get_or, refl, sym, subst, ap, ◌∙◌, arith, lt-ltb}
use Rattle.std.proofs.lemmas.List.Elements.{All-cons, All-head, All-nil}
use Rattle.std.specs.List.{AllByRecursion, list_all, list_any}
use Rattle.std.specs.Prelude.{IsTrue, ◌&&◌, if◌then◌else◌, slice_get}
use Rattle.loop_syntax.specs.declared.Carry.{Carry}
use Rattle.loop_syntax.specs.declared.Carry.TheVariants as carry
use Rattle.loop_syntax.specs.declared.ParLoop.{ParLoop}
use Rattle.loop_syntax.specs.declared.Stmt.TheVariants.{Par}
use Rattle.tp_value.specs.declared.limits.TheConstants.{MAX_ACTIVATION_CELLS}
use Rattle.tpal_syntax.specs.Conditions.{IsHandler}
use Rattle.tpal_syntax.specs.Listing.{Listing}
use Rattle.tpal_syntax.specs.Parts.{is_instr, is_term, table_of}
use Rattle.tpal_syntax.specs.declared.blocks.Block.{Block}
use Rattle.tpal_syntax.specs.declared.blocks.CodeTable.{CodeTable}
use Rattle.tpal_syntax.specs.declared.instructions.Instr.TheVariants as instr
use Rattle.tpal_syntax.specs.declared.instructions.Term.TheVariants as term
use Rattle.tpal_syntax.specs.declared.instructions.Value.TheVariants as value
use Rattle.tpal_syntax.specs.declared.sites.CallSite.{CallSite}
use Rattle.tpal_syntax.specs.declared.sites.LeafSite.{LeafSite}
use Rattle.tpal_syntax.specs.declared.sites.LoopSite.{LoopSite}
use Rattle.tpal_syntax.specs.declared.notes.CarryAt.{CarryAt}
use Rattle.expr_lower.specs.declared.scope.Scope.{Scope}
use Rattle.expr_lower.specs.Bodies.{name_of}
use Rattle.expr_lower.specs.Fitting.{CanBeNamed}
use Rattle.expr_lower.specs.Scopes.{HasTable}
use Rattle.expr_lower.proofs.Fitting.{number_low}
use Rattle.expr_lower.specs.Fitting.{AreBlocksOf}
use Rattle.expr_lower.proofs.FittingBlocks.{joined_blocks}
use Rattle.handler_gen.specs.Blocks.{call_handler_blocks, dispatch_block, loop_handler_blocks}
use Rattle.handler_gen.specs.Fitting.{HasCallPlaces, HasLeafPlaces, HasLoopPlaces}
use Rattle.handler_gen.specs.LeafBlocks.{leaf_handler_blocks, start_block, stores_of}
use Rattle.handler_gen.specs.LeafSites.{IsLeafSite, registers_of, start_label, stored_loop}
use Rattle.handler_gen.specs.Sites.{IsCallSite, IsLoopSite, call_cells, is_of_cells, prep_label}
use Rattle.handler_gen.specs.Sites.{split_label}
use Rattle.handler_gen.proofs.Fits.{leaf_start_fits, leaf_stores_fit}
use Rattle.handler_gen.proofs.Offsets.{bound_in, cursor_in, mark_in, rec_in}
use Rattle.join_gen.specs.Blocks.{call_join_blocks, loop_join_blocks}
use Rattle.block_lower.specs.declared.body.Body.{Body}
use Rattle.block_lower.specs.declared.lowering.Lowering.{Lowering}
use Rattle.block_lower.specs.declared.round.Round as told
use Rattle.block_lower.specs.Lowering.{FitsIn}
use Rattle.scene_laws.specs.Names.{Sees}
use Rattle.loop_rules.specs.Names.{is_in}
use Rattle.scene_laws.specs.Sites.{carried_table, carries_from, carry_at, loop_site}
use Rattle.scene_laws.specs.Sizes.{has_row, site_blocks}
use Rattle.scene_laws.proofs.Scenes.Seeing.{seen_table}
use Rattle.block_lower.specs.Conforming.{AreBlocksRound, AreInstrs, AreNamed, Conforms}
use Rattle.block_lower.specs.Conforming.{HasLoopCells, IsAround, IsCallPlaced, IsLeafPlaced}
use Rattle.block_lower.specs.Conforming.{IsLoopPlaced, blocks_of}
use Rattle.block_lower.specs.Writing.{label, Appends, Pushes}
use Rattle.block_lower.proofs.Written.Conforming.{appends_proper, kept_conforms, pushed_conforms}

-- ---- what a code has

-- what all of a list are, each of it is
pub all_at : {X : Type 0} (P : X → Type 0) (xs : List X) (i : ℕ) (d : X) → i < length xs
    → AllByRecursion P xs → P (get_or xs i d)
all_at P [] i d below are = absurd (omega arith)
all_at P (x ∷ xs) zero d below are = are.0
all_at P (x ∷ xs) (suc i) d below are = all_at P xs i d (omega arith) are.1

-- a label stays one of the code while it is written
pub known_still : (on new : Body) (to : ℕ) → new ≡ on → to < blocks_of on → to < blocks_of new
known_still on new to same known = subst (λ (x : Body). to < blocks_of x) (sym same) known

pub jump_known : (on new : Body) (to : ℕ) → new ≡ on → to < blocks_of on
    → IsTrue (is_term (blocks_of new) (term.Jump (value.Label to)))
jump_known on new to same known =
    lt-ltb to (blocks_of new) (known_still on new to same known)

-- the block to which each beat goes isn't promotion-ready
pub dispatched : (on : Body) (closed : List Block) (code : Listing) → IsAround on closed code
    → IsHandler (slice_get code.blocks on.dispatch)
dispatched on closed code around =
    subst (λ (b : Option Block). IsHandler b) (sym around.dispatch) refl

-- ---- cells

pub loop_cells_low : (site : LoopSite) → IsLoopSite site → HasLoopCells site
loop_cells_low site right = record {
  cursor = omega (arith, cursor_in site right, right.cells);
  bound = omega (arith, bound_in site right, right.cells);
  rec = omega (arith, rec_in site right, right.cells);
  mark = omega (arith, mark_in site right, right.cells);
}

pub call_mark_low : (site : CallSite) → IsCallSite site → site.mark < MAX_ACTIVATION_CELLS
call_mark_low site right =
    let inside : site.mark < site.cells =
    All-head (λ (off : ℕ). off < site.cells) site.mark (call_cells site) right.offsets in
    omega (arith, inside, right.cells)

-- ---- blocks

blocks_conform : (old new : Lowering) (blocks : List Block) → AreNamed (label old.out) blocks
    → AreBlocksRound old.on (old.out.blocks.items ++ blocks) blocks
    → Appends blocks old.out new.out → new.on ≡ old.on → new.scope ≡ old.scope → Conforms old
    → Conforms new
blocks_conform old new blocks named are code on scope before =
    kept_conforms old new on scope
    (appends_proper old.on old.out new.out blocks named are code before.written) before

named_at : (old : Lowering) (blocks : List Block) (at : ℕ) → at ≡ label old.out
    → AreNamed at blocks → AreNamed (label old.out) blocks
named_at old blocks at here named = subst (λ (n : ℕ). AreNamed n blocks) here named

loop_places : (on : Body) (site : LoopSite) (closed : List Block) (code : Listing)
    → IsLoopPlaced on site → IsAround on closed code
    → HasLoopPlaces site code.tables code.blocks
loop_places on site closed code placed around = record {
  none = omega (arith, placed.none, around.blocks);
  split = omega (arith, placed.split, around.blocks);
  carried = subst (λ (n : ℕ). All (λ c. table_of c < n) site.carries) (sym around.tables)
      placed.carried;
}

-- blocks that are made from a site are of each code that has its places
abbrev AreOfLoop : LoopSite → List Block → Type 0
AreOfLoop site blocks =
    (tables : List CodeTable) (all : List Block) → HasLoopPlaces site tables all
    → AreBlocksOf tables all blocks

abbrev AreOfLeaf : LeafSite → List Block → Type 0
AreOfLeaf site blocks =
    (tables : List CodeTable) (all : List Block) → HasLeafPlaces site tables all
    → AreBlocksOf tables all blocks

abbrev AreOfCalls : CallSite → List Block → Type 0
AreOfCalls site blocks =
    (tables : List CodeTable) (all : List Block) → HasCallPlaces site all
    → AreBlocksOf tables all blocks

pub handler_conforms : (old new : Lowering) (site : LoopSite)
    → AreOfLoop site (loop_handler_blocks site) → AreOfLoop site (loop_join_blocks site)
    → Appends (loop_handler_blocks site ++ loop_join_blocks site) old.out new.out
    → new.on ≡ old.on → new.scope ≡ old.scope → site.label ≡ label old.out
    → IsLoopPlaced old.on site → Conforms old → Conforms new
handler_conforms old new site handles joins code on scope here placed =
    let blocks : List Block = loop_handler_blocks site ++ loop_join_blocks site in
    let named : AreNamed site.label blocks = (
      refl,
      (
        refl,
        (
          ap name_of (omega arith),
          (
            ap name_of (omega arith),
            (ap name_of (omega arith), (ap name_of (omega arith), tt)),
          ),
        ),
      ),
    ) in
    blocks_conform old new blocks (named_at old blocks site.label here named)
    (λ its around.
    let places : HasLoopPlaces site its.tables its.blocks =
    loop_places old.on site (old.out.blocks.items ++ blocks) its placed around in
    joined_blocks its.tables its.blocks (loop_handler_blocks site) (loop_join_blocks site)
    (handles its.tables its.blocks places) (joins its.tables its.blocks places)) code on scope

pub leaf_handler_conforms : (old new : Lowering) (site : LeafSite)
    → AreOfLeaf site (leaf_handler_blocks site)
    → AreOfLeaf site (loop_join_blocks (stored_loop site))
    → Appends (leaf_handler_blocks site ++ loop_join_blocks (stored_loop site)) old.out new.out
    → new.on ≡ old.on → new.scope ≡ old.scope → site.label ≡ label old.out
    → IsLeafPlaced old.on site → Conforms old → Conforms new
leaf_handler_conforms old new site handles joins code on scope here placed =
    let blocks : List Block = leaf_handler_blocks site ++ loop_join_blocks (stored_loop site) in
    let named : AreNamed site.label blocks = (
      refl,
      (
        refl,
        (
          ap name_of (omega arith),
          (
            ap name_of (omega arith),
            (
              ap name_of (omega arith),
              (
                ap name_of (omega arith),
                (ap name_of (omega arith), (ap name_of (omega arith), tt)),
              ),
            ),
          ),
        ),
      ),
    ) in
    blocks_conform old new blocks (named_at old blocks site.label here named)
    (λ its around.
    let places : HasLeafPlaces site its.tables its.blocks = record {
      loop = loop_places old.on (stored_loop site) (old.out.blocks.items ++ blocks) its placed.loop
          around;
      head = omega (arith, placed.head, around.blocks);
    } in
    joined_blocks its.tables its.blocks (leaf_handler_blocks site)
    (loop_join_blocks (stored_loop site)) (handles its.tables its.blocks places)
    (joins its.tables its.blocks places)) code on scope

pub leaf_start_conforms : (old new : Lowering) (site : LeafSite) (first : ℕ) → IsLeafSite site
    → Appends (start_block site first ∷ []) old.out new.out
    → new.on ≡ old.on → new.scope ≡ old.scope → start_label site ≡ label old.out
    → first < blocks_of old.on → Conforms old → Conforms new
leaf_start_conforms old new site first right code on scope here known =
    let blocks : List Block = start_block site first ∷ [] in
    blocks_conform old new blocks (named_at old blocks (start_label site) here (refl, tt))
    (λ its around. (
      leaf_start_fits its.tables its.blocks site right first (omega (arith, known, around.blocks)),
      tt,
    )) code on scope

pub call_handler_conforms : (old new : Lowering) (site : CallSite)
    → AreOfCalls site (call_handler_blocks site) → AreOfCalls site (call_join_blocks site)
    → Appends (call_handler_blocks site ++ call_join_blocks site) old.out new.out
    → new.on ≡ old.on → new.scope ≡ old.scope → site.label ≡ label old.out
    → IsCallPlaced old.on site → Conforms old → Conforms new
call_handler_conforms old new site handles joins code on scope here placed =
    let blocks : List Block = call_handler_blocks site ++ call_join_blocks site in
    let named : AreNamed site.label blocks = (
      refl,
      (
        refl,
        (
          ap name_of (omega arith),
          (
            ap name_of (omega arith),
            (
              ap name_of (omega arith),
              (ap name_of (omega arith), (ap name_of (omega arith), tt)),
            ),
          ),
        ),
      ),
    ) in
    blocks_conform old new blocks (named_at old blocks site.label here named)
    (λ its around.
    let places : HasCallPlaces site its.blocks = record {
      joined = omega (arith, placed.joined, around.blocks);
      entry = omega (arith, placed.entry, around.blocks);
    } in
    joined_blocks its.tables its.blocks (call_handler_blocks site) (call_join_blocks site)
    (handles its.tables its.blocks places) (joins its.tables its.blocks places)) code on scope

-- ---- the registers of a leaf loop

-- whether stores of registers are ones of a code depends on neither its tables nor its blocks
stores_alike : (tables blocks : ℕ) (ps : List (ℕ × ℕ)) → list_all (is_instr tables blocks) (stores_of ps)
    ≡ list_all (is_instr 0 0) (stores_of ps)
stores_alike tables blocks [] = refl
stores_alike tables blocks (p ∷ ps) =
    ap (λ (more : Bool). is_instr 0 0 (instr.Store 31 p.0 (value.Reg p.1)) && more) (stores_alike tables blocks ps)

pub stores_conform : (old new : Lowering) (site : LeafSite) → IsLeafSite site
    → Pushes (stores_of (registers_of site)) old.out new.out → new.on ≡ old.on
    → new.scope ≡ old.scope → Conforms old → Conforms new
stores_conform old new site right pushed on scope =
    pushed_conforms old new (stores_of (registers_of site))
    (stores_alike old.on.tables (blocks_of old.on) (registers_of site)
    ∙ leaf_stores_fit [] [] site right) pushed on scope

-- ---- the site of a `par`

-- it has at least so many blocks round it
pub many_site_blocks : (carries : List Carry) → 9 ≤ site_blocks carries
many_site_blocks carries = by_rows (list_any has_row carries)
  where
    by_rows : (row : Bool) → 9 ≤ (if row then 10 else 9)
    by_rows true = omega arith
    by_rows false = omega arith

split_low : (site : LoopSite) (n : ℕ) → site.label + 9 < n → split_label site < n
split_low site n below = by_rows (list_any is_of_cells site.carries)
  where
    by_rows : (row : Bool) → (if row then prep_label site.label else site.label) < n
    by_rows true = below
    by_rows false = omega (arith, below)

-- its carries are of tables of the code
named_carry : (tables : ℕ) (scope : Scope) (before : ℕ) (c : Carry)
    → length scope.tables.items ≤ tables → HasTable scope (carried_table c)
    → table_of (carry_at scope before c) < tables
named_carry tables scope before (carry.Rows t i) few has =
    omega (arith, number_low scope.tables.items t.text.items has, few)
named_carry tables scope before (carry.Cells t k j) few has =
    omega (arith, number_low scope.tables.items t.text.items has, few)

named_carries : (tables : ℕ) (scope : Scope) (names known : List (List ℕ)) (before : ℕ)
    (cs : List Carry) → Sees scope names known → length scope.tables.items ≤ tables
    → AllByRecursion (λ c. IsTrue (is_in known (carried_table c))) cs
    → All (λ c. table_of c < tables) (carries_from scope before cs)
named_carries tables scope names known before [] sees few seen =
    All-nil (λ (c : CarryAt). table_of c < tables)
named_carries tables scope names known before (c ∷ cs) sees few seen =
    All-cons (λ (d : CarryAt). table_of d < tables) (carry_at scope before c)
    (carries_from scope (suc before) cs)
    (named_carry tables scope before c few
    (seen_table scope names known sees (carried_table c) seen.0))
    (named_carries tables scope names known (suc before) cs sees few seen.1)

-- where a `par` fits, its site is one of the code, if there are enough blocks
pub site_placed : (on : Body) (scope : Scope) (as_told : told.Round) (l : ParLoop) (site : LoopSite)
    → FitsIn on scope as_told (Par l ∷ []) → CanBeNamed on.tables scope
    → site.carries ≡ carries_from scope 0 l.carries.items → site.label + 9 < blocks_of on
    → IsLoopPlaced on site
site_placed on scope as_told l site f named same below = record {
  none = omega (arith, below);
  split = split_low site (blocks_of on) below;
  carried = subst (λ (cs : List CarryAt). All (λ c. table_of c < on.tables) cs) (sym same)
      (named_carries on.tables scope f.names f.tables 0 l.carries.items f.sees named.few_tables
      f.fits.0.5.carried_seen);
}
