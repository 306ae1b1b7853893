-- The child of a loop begins: it has its record, the place of the cut, units and a mark of its own.
use Rattle.std.proofs.Common.{◌≡◌, ℕ, ◌+◌, ◌<◌, Bool, false, All, List, [], ◌∷◌, ◌++◌, length, None}
use Rattle.std.proofs.Common.{Some, refl, ap, ◌∙◌, arith}
use Rattle.std.proofs.lemmas.List.{length-set}
use Rattle.std.proofs.lemmas.List.Elements.{All-head, All-tail}
use Rattle.std.specs.Prelude.{ℤ, pos, slice_set}
use Rattle.beat_count.specs.BeatState.{BeatState}
use Rattle.beat_count.specs.Heartbeat.{counted, no_beat}
use Rattle.reduce_ops.specs.Reduction.{unit}
use Rattle.stack_marks.specs.Causes.{Holds, HoldsMark}
use Rattle.stack_marks.specs.Stacks.{StackValue, with_word, child_of}
use Rattle.tp_value.specs.declared.Op.{Op}
use Rattle.tpal_syntax.specs.declared.instructions.Instr.{Instr}
use Rattle.tpal_syntax.specs.declared.instructions.Instr.TheVariants as instr
use Rattle.tpal_syntax.specs.declared.instructions.Term.{Term}
use Rattle.tpal_syntax.specs.declared.instructions.Value.TheVariants as value
use Rattle.tpal_syntax.specs.declared.sites.LoopSite.{LoopSite}
use Rattle.tpal_syntax.specs.declared.words.Word.{Word}
use Rattle.tpal_syntax.specs.declared.words.Word.TheVariants.{Int, Rec}
use Rattle.tpal_syntax.specs.Listing.{Listing}
use Rattle.tpal_machine.specs.Cut as cut
use Rattle.tpal_machine.specs.Cut.{each_part}
use Rattle.tpal_machine.specs.declared.ends.Goal.TheVariants as goal
use Rattle.tpal_machine.specs.declared.ends.SideName.TheVariants.{Right}
use Rattle.tpal_machine.specs.Effect.{with_stack, is_marked_from}
use Rattle.tpal_machine.specs.Reading.{register, block_at}
use Rattle.tpal_machine.specs.State.{State}
use Rattle.tpal_machine.proofs.Kit.{Back, IsCalm}
use Rattle.expr_lower.specs.Leaving.{moved}
use Rattle.expr_lower.specs.Standing.{Remains}
use Rattle.expr_lower.proofs.Keeping.{register_set, register_other}
use Rattle.handler_gen.specs.Blocks.{loop_child_block, units, to}
use Rattle.handler_gen.specs.Halves.{ChildGoesOn}
use Rattle.handler_gen.specs.LoopCuts.{loop_work, loop_halves, loop_mark, table_cuts, with_units}
use Rattle.handler_gen.specs.LoopCuts.{child_cells}
use Rattle.handler_gen.specs.Reaching as reaching
use Rattle.handler_gen.specs.Sites.{IsLoopSite, child_label, first_label, target_label, split_label}
use Rattle.handler_gen.proofs.Cells.{Has, some_word, has_set, has_child, has_units, marks_units}
use Rattle.handler_gen.proofs.Coming.{child_going}
use Rattle.handler_gen.proofs.Offsets.{cells_of, mark_in, cursor_in, rec_in, accs_in}
use Rattle.handler_gen.proofs.Straight.{stores, pushes, enters}

-- ---- units

module _ (code : Listing) (heartbeat : ℕ) (K : Back code heartbeat) (end : Term) (words : List Word) (z cells : ℕ) (base : register words 31 ≡ Int (pos z)) (more : List Instr) where
  -- the stores of units, one after another
  pub stores_units : (accs : List (ℕ × Op)) (s : State) (beat : BeatState) (at : ℕ) → All (λ off. off < cells) (cells_of accs) → Has s.stack z cells → Remains code s.block at (units accs ++ more) end
      → ((later : BeatState) (there : ℕ) → later.quiet ≡ beat.quiet → later.granted ≡ beat.granted → Remains code s.block there more end → K.Holds (moved (with_stack s (with_units accs z s.stack)) words later there))
      → K.Holds (moved s words beat at)
  stores_units [] s beat at inside has stands go = go beat at refl refl stands
  stores_units (a ∷ accs) s beat at inside has stands go =
      let own : a.0 < cells = All-head (λ (off : ℕ). off < cells) a.0 (cells_of accs) inside in
      let after : StackValue = with_word s.stack (pos (z + a.0)) (Int (unit a.1)) in
      stores code heartbeat K end s words beat at (units accs ++ more) 31 a.0 (value.Int (unit a.1)) (pos z) _ (Int (unit a.1)) stands base (some_word s.stack z cells a.0 has own) refl (λ left.
      stores_units accs (with_stack s after) (counted beat) (at + 1) (All-tail (λ (off : ℕ). off < cells) a.0 (cells_of accs) inside) (has_set s.stack z cells (z + a.0) (Int (unit a.1)) has) left go)

-- ---- the block

module _ (code : Listing) (heartbeat : ℕ) (site : LoopSite) (right : IsLoopSite site) (found : block_at code (child_label site.label) ≡ Some (loop_child_block site)) (calm : IsCalm code (first_label site.label)) where
  abbrev end : Term
  end = to (first_label site.label)

  abbrev marking : List Instr
  marking = instr.PrmPush 31 site.mark site.cells (split_label site) ∷ []

  module _ (z : ℕ) (state : State) (place : ℤ) (k : ℕ) (some : Bool) (words : List Word) (size : length words ≡ 32) (r24 : register words 24 ≡ Rec k) (r25 : register words 25 ≡ Int place) (held : Holds state.stack z site.cells) where
    abbrev based : List Word
    based = slice_set words 31 (Int (pos z))

    base : register based 31 ≡ Int (pos z)
    base = register_set words 31 (Int (pos z)) (omega (arith, size))

    -- the child, as the fork makes it
    abbrev begun : State
    begun = record {
      registers = based;
      stack = child_of state.stack z site.cells;
      tables = each_part cut.child_of (table_cuts state.registers place site.carries) 0 state.tables;
      made = state.made;
      fuel = record { limit = state.fuel.limit; ticks = 0 };
      beat = no_beat;
      output = [];
      goal = goal.At k Right (target_label site.label);
      block = child_label site.label;
      at = 0;
      pending = None;
      met = None;
      waiting = None;
    }

    abbrev goes : Back code heartbeat
    goes = child_going code heartbeat (loop_work site z place k state) (loop_halves site z place k state.stack some) state

    starts : Remains code (child_label site.label) 0 (instr.Store 31 site.rec (value.Reg 24) ∷ instr.Store 31 site.cursor (value.Reg 25) ∷ units site.accs ++ marking) end
    starts = record { block = loop_child_block site; found = found; rest = refl; ends = refl }

    abbrev stack_1 : StackValue
    stack_1 = with_word (child_of state.stack z site.cells) (pos (z + site.rec)) (Rec k)

    abbrev stack_2 : StackValue
    stack_2 = with_word stack_1 (pos (z + site.cursor)) (Int place)

    has_0 : Has (child_of state.stack z site.cells) z site.cells
    has_0 = has_child state.stack z site.cells held

    has_1 : Has stack_1 z site.cells
    has_1 = has_set (child_of state.stack z site.cells) z site.cells (z + site.rec) (Rec k) has_0

    has_2 : Has stack_2 z site.cells
    has_2 = has_set stack_1 z site.cells (z + site.cursor) (Int place) has_1

    abbrev stack_3 : StackValue
    stack_3 = with_units site.accs z stack_2

    has_3 : Has stack_3 z site.cells
    has_3 = has_units site.accs stack_2 z site.cells has_2

    marked_in : HoldsMark stack_3 (loop_mark site z)
    marked_in = ((has_3.low, has_3.high), omega arith, omega (arith, mark_in site right))

    free : is_marked_from stack_3.marks (z + site.mark) ≡ false
    free = ap (λ marks. is_marked_from marks (z + site.mark)) (marks_units site.accs stack_2 z)

    pub child_goes : ChildGoesOn code heartbeat (loop_work site z place k state) (loop_halves site z place k state.stack some) state begun
    child_goes =
        stores code heartbeat goes end begun based no_beat 0 (instr.Store 31 site.cursor (value.Reg 25) ∷ units site.accs ++ marking) 31 site.rec (value.Reg 24) (pos z) _ (Rec k) starts base
        (some_word (child_of state.stack z site.cells) z site.cells site.rec has_0 (rec_in site right)) (register_other words 31 24 (Int (pos z)) (λ e. absurd (omega (arith, e))) ∙ r24) (λ left.
        stores code heartbeat goes end (with_stack begun stack_1) based (counted no_beat) (0 + 1) (units site.accs ++ marking) 31 site.cursor (value.Reg 25) (pos z) _ (Int place) left base
        (some_word stack_1 z site.cells site.cursor has_1 (cursor_in site right)) (register_other words 31 25 (Int (pos z)) (λ e. absurd (omega (arith, e))) ∙ r25) (λ left.
        stores_units code heartbeat goes end based z site.cells base marking site.accs (with_stack begun stack_2) (counted (counted no_beat)) (0 + 1 + 1) (accs_in site right) has_2 left (λ later there quiet granted left.
        pushes code heartbeat goes end (with_stack begun stack_3) based later there [] 31 site.mark site.cells (split_label site) z left base marked_in free (λ left.
        enters code heartbeat goes (with_stack begun (child_cells site z place k state.stack)) based (counted later) (there + 1) (value.Label (first_label site.label)) (first_label site.label) left refl calm
        (record {
          words = based;
          beat = counted (counted later);
          size = length-set words 31 (Int (pos z)) ∙ size;
          base = base;
          loud = quiet;
          granted = granted;
          comes = reaching.here _;
        })))))
