-- The handler of a leaf loop stores its registers, loads them again, and cuts what the cells show.
use Rattle.std.proofs.Common.{◌≡◌, ℕ, ◌+◌, ◌<◌, ◌≤◌, List, [], ◌∷◌, ◌++◌, drop, length, Some}
use Rattle.std.proofs.Common.{false, refl, ap, sym, subst, ◌∙◌, arith}
use Rattle.std.proofs.lemmas.List.{append-nil, length-set}
use Rattle.std.specs.Prelude.{pos, slice_get, slice_set}
use Rattle.beat_count.specs.BeatState.{BeatState}
use Rattle.beat_count.specs.Heartbeat.{counted}
use Rattle.stack_marks.specs.declared.mark.Mark.{Mark}
use Rattle.tpal_syntax.specs.Conditions.{is_ready}
use Rattle.tpal_syntax.specs.declared.instructions.Instr.{Instr}
use Rattle.tpal_syntax.specs.declared.instructions.Instr.TheVariants as instr
use Rattle.tpal_syntax.specs.declared.instructions.Term.{Term}
use Rattle.tpal_syntax.specs.declared.instructions.Term.TheVariants as term
use Rattle.tpal_syntax.specs.declared.instructions.Value.TheVariants as value
use Rattle.tpal_syntax.specs.declared.words.Word.{Word}
use Rattle.tpal_syntax.specs.declared.words.Word.TheVariants.{Int, Label}
use Rattle.tpal_syntax.specs.Listing.{Listing}
use Rattle.tpal_machine.specs.Effect.{oldest, with_stack}
use Rattle.tpal_machine.specs.Reading.{register, block_at, note_of}
use Rattle.tpal_machine.specs.State.{State}
use Rattle.tpal_machine.proofs.Kit.{Back}
use Rattle.expr_lower.specs.Leaving.{moved}
use Rattle.expr_lower.specs.Standing.{Remains, AreAt}
use Rattle.expr_lower.proofs.Keeping.{register_set}
use Rattle.expr_lower.proofs.Standing.{next, behind}
use Rattle.tpal_syntax.specs.declared.sites.LeafSite.{LeafSite}
use Rattle.handler_gen.specs.Blocks.{to, loop_handler_blocks}
use Rattle.handler_gen.specs.Dispatching.{dispatched}
use Rattle.handler_gen.specs.LeafBlocks.{leaf_handler_blocks, loads_block, loads_of, save_block}
use Rattle.handler_gen.specs.LeafBlocks.{stores_of}
use Rattle.handler_gen.specs.LeafCuts.{CutsLeaf, HaveRegisters, IsAtLeaf, IsAtLoads, IsLoaded}
use Rattle.handler_gen.specs.LeafCuts.{IsStored, StartsLeaf, stored_task, with_registers}
use Rattle.handler_gen.specs.LeafSites.{IsLeafSite, registers_of, stored_loop, reload_label}
use Rattle.handler_gen.specs.LeafSites.{start_label, head_label}
use Rattle.handler_gen.specs.LoopCuts.{IsRoundLoop}
use Rattle.handler_gen.specs.Reaching.{Reaches}
use Rattle.handler_gen.specs.Reaching as reaching
use Rattle.handler_gen.proofs.Cells.{Has}
use Rattle.handler_gen.proofs.LeafLoads.{loads_leaf}
use Rattle.handler_gen.proofs.LeafStores.{have_stored, marks_registers, registers_differ}
use Rattle.handler_gen.proofs.LeafStores.{registers_in, stores_all}
use Rattle.handler_gen.proofs.LoopCutting.{cuts_loop}
use Rattle.handler_gen.proofs.Marks.{on_prmsplit}
use Rattle.handler_gen.proofs.Reaching.{reached, reaching_task}
use Rattle.handler_gen.proofs.Straight.{enters, moves}

-- ---- what a task comes to, told of each task on the way

record Stored (code : Listing) (heartbeat : ℕ) (site : LeafSite) (z : ℕ) (state u : State)
    : Type 0 where
  beat : BeatState
  at : ℕ
  quiet : beat.quiet ≡ state.beat.quiet
  granted : beat.granted ≡ state.beat.granted
  comes : Reaches code heartbeat u (record (stored_task site z state beat) { at = at })
  goes_on : Remains code state.block at (instr.PrmSplit 28 29 ∷ []) (term.Jump (value.Reg 29))

abbrev storing : (code : Listing) (heartbeat : ℕ) → LeafSite → ℕ → State → Back code heartbeat
storing code heartbeat site z state = record {
  Holds = λ u. Stored code heartbeat site z state u;
  back = λ from after is s. record {
    beat = s.beat;
    at = s.at;
    quiet = s.quiet;
    granted = s.granted;
    comes = reaching.goes_on from after (record (stored_task site z state s.beat) { at = s.at }) is
        s.comes;
    goes_on = s.goes_on;
  };
}

record Loaded (code : Listing) (heartbeat : ℕ) (site : LeafSite) (z label : ℕ)
    (state u : State) : Type 0 where
  words : List Word
  beat : BeatState
  at : ℕ
  size : length words ≡ 32
  have : HaveRegisters (registers_of site) z words state.stack
  low : (r : ℕ) → r < 24 → register words r ≡ register state.registers r
  high : (r : ℕ) → 30 ≤ r → register words r ≡ register state.registers r
  quiet : beat.quiet ≡ state.beat.quiet
  granted : beat.granted ≡ state.beat.granted
  comes : Reaches code heartbeat u (moved state words beat at)
  goes_on : Remains code state.block at [] (to label)

abbrev loading : (code : Listing) (heartbeat : ℕ) → LeafSite → ℕ → ℕ → State → Back code heartbeat
loading code heartbeat site z label state = record {
  Holds = λ u. Loaded code heartbeat site z label state u;
  back = λ from after is l. record {
    words = l.words;
    beat = l.beat;
    at = l.at;
    size = l.size;
    have = l.have;
    low = l.low;
    high = l.high;
    quiet = l.quiet;
    granted = l.granted;
    comes = reaching.goes_on from after (moved state l.words l.beat l.at) is l.comes;
    goes_on = l.goes_on;
  };
}

-- ---- a block that loads

module _ (code : Listing) (heartbeat : ℕ) (site : LeafSite) (right : IsLeafSite site)
    (label next : ℕ) (found : block_at code label ≡ Some (loads_block site label next)) where
  is_loaded : (z : ℕ) (state : State) → IsAtLoads site label z state
      → IsLoaded code heartbeat site z next state
  is_loaded z state at =
      let has : Has state.stack z site.cells = record { low = at.held.0; high = at.held.1 } in
      let starts : Remains code state.block state.at (loads_of (registers_of site) ++ [])
      (to next) = record {
        block = loads_block site label next;
        found = ap (block_at code) at.block ∙ found;
        rest = ap (λ n. drop n (loads_of (registers_of site))) at.at
            ∙ sym (append-nil (loads_of (registers_of site)));
        ends = refl;
      } in
      let K : Back code heartbeat = loading code heartbeat site z next state in
      let l : Loaded code heartbeat site z next state state =
      loads_leaf code heartbeat K (to next) state z [] site right has state.registers state.beat
      state.at at.size at.base starts
      (λ others later there size have low high quiet granted left.
      record {
        words = others;
        beat = later;
        at = there;
        size = size;
        have = have;
        low = low;
        high = high;
        quiet = quiet;
        granted = granted;
        comes = reaching.here (moved state others later there);
        goes_on = left;
      }) in
      record {
        words = l.words;
        beat = l.beat;
        at = l.at;
        size = l.size;
        have = l.have;
        low = l.low;
        high = l.high;
        quiet = l.quiet;
        granted = l.granted;
        comes = l.comes;
        goes_on = l.goes_on;
      }

-- ---- the block that stores

module _ (code : Listing) (heartbeat : ℕ) (site : LeafSite) (right : IsLeafSite site)
    (found : block_at code site.label ≡ Some (save_block site)) where
  abbrev end : Term
  end = term.Jump (value.Reg 29)

  abbrev splitting : List Instr
  splitting = instr.PrmSplit 28 29 ∷ []

  abbrev leaving : List Instr
  leaving = instr.Move 30 (value.Label (reload_label site.label)) ∷ splitting

  abbrev kept : List (ℕ × ℕ)
  kept = registers_of site

  module _ (z : ℕ) (mark : Mark) (state : State) (at : IsAtLeaf site z mark state) where
    starts : Remains code state.block state.at (stores_of kept ++ leaving) end
    starts = record {
      block = save_block site;
      found = ap (block_at code) at.block ∙ found;
      rest = ap (λ n. drop n (save_block site).body) at.at;
      ends = refl;
    }

    has : Has state.stack z site.cells
    has = record { low = at.held.0; high = at.held.1 }

    abbrev old : List Word
    old = state.registers

    abbrev filled : State
    filled = with_stack state (with_registers kept z old state.stack)

    abbrev back_set : List Word
    back_set = slice_set old 30 (Label (reload_label site.label))

    stored : Stored code heartbeat site z state state
    stored =
        let K : Back code heartbeat = storing code heartbeat site z state in
        stores_all code heartbeat K end old z site.cells at.base leaving kept state state.beat
        state.at (registers_in site right) has starts (λ later there quiet granted left.
        moves code heartbeat K end filled old later there splitting 30
        (value.Label (reload_label site.label)) (Label (reload_label site.label)) left refl
        (λ left.
        record {
          beat = counted later;
          at = there + 1;
          quiet = quiet;
          granted = granted;
          comes = reaching.here (record (stored_task site z state (counted later))
              { at = there + 1 });
          goes_on = left;
        }))

    abbrev there : State
    there = record (stored_task site z state stored.beat) { at = stored.at }

    still_marked : oldest there.stack ≡ Some mark
    still_marked = ap (λ marks. slice_get marks 0) (marks_registers kept old state.stack z)
        ∙ at.marked

    -- what the block of `dispatch` does
    handled : is_ready (note_of (block_at code mark.split)) ≡ false
        → Reaches code heartbeat state (dispatched mark (stored_task site z state stored.beat))
    handled calm =
        let last : State = dispatched mark (stored_task site z state stored.beat) in
        let K : Back code heartbeat = reaching_task code heartbeat last in
        let based : List Word = slice_set back_set 28 (Int (pos mark.base)) in
        let size : length based ≡ 32 =
        length-set back_set 28 (Int (pos mark.base))
        ∙ (length-set old 30 (Label (reload_label site.label)) ∙ at.size) in
        reached code heartbeat K state there stored.comes
        (on_prmsplit code heartbeat K there 28 29 mark
        (next code there (instr.PrmSplit 28 29) [] end stored.goes_on) still_marked
        (enters code heartbeat K there (slice_set based 29 (Label mark.split)) (counted stored.beat)
        (stored.at + 1) (value.Reg 29) mark.split
        (behind code state.block stored.at (instr.PrmSplit 28 29) [] end stored.goes_on)
        (register_set based 29 (Label mark.split) (omega (arith, size))) calm
        (reaching.here last)))

    is_stored : IsStored code heartbeat site z mark state
    is_stored = record {
      beat = stored.beat;
      at = stored.at;
      quiet = stored.quiet;
      granted = stored.granted;
      have = have_stored kept old state.stack z site.cells has (registers_in site right)
          (registers_differ site right);
      comes = stored.comes;
      goes_on = stored.goes_on;
      handled = handled;
    }

-- ---- the handler, and the block where the loop begins

module _ (code : Listing) (heartbeat : ℕ) (site : LeafSite) (right : IsLeafSite site) where
  pub cuts_leaf : AreAt code site.label (leaf_handler_blocks site)
      → IsRoundLoop code (stored_loop site) → CutsLeaf code heartbeat site
  cuts_leaf stands round =
      let same : site.label + 1 + 1 ≡ (stored_loop site).label = omega arith in
      let cutting : AreAt code (stored_loop site).label (loop_handler_blocks (stored_loop site)) =
      subst (λ (l : ℕ). AreAt code l (loop_handler_blocks (stored_loop site))) same
      stands.1.1 in
      record {
        stores = λ z mark state at. is_stored code heartbeat site right stands.0 z mark state at;
        loads = λ z state at. is_loaded code heartbeat site right (reload_label site.label)
            (head_label site) stands.1.0 z state at;
        cuts = cuts_loop code heartbeat (stored_loop site) right.loop cutting round;
      }

  pub starts_leaf : (first : ℕ) → block_at code (start_label site)
      ≡ Some (loads_block site (start_label site) first) → StartsLeaf code heartbeat site first
  starts_leaf first found =
      record {
        loads = λ z state at. is_loaded code heartbeat site right (start_label site) first
            found z state at;
      }
