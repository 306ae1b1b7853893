-- The end of a piece of a `par` that may be cut in the middle of an iteration: the whole goes on, a
-- side joins.
use Rattle.std.proofs.Common.{◌≡◌, ℕ, suc, ◌+◌, true, false, List, [], ◌∷◌, ◌++◌}
use Rattle.std.proofs.Common.{length, refl, sym, ap, subst, ◌∙◌, arith}
use Rattle.std.specs.Prelude.{ℤ, pos, drop, map, slice_set}
use Rattle.std.specs.List.{AllByRecursion}
use Rattle.std.proofs.lemmas.Bool.{true≢false}
use Rattle.std.proofs.lemmas.List.{length-set}
use Rattle.beat_count.specs.BeatState.{BeatState}
use Rattle.beat_count.specs.Heartbeat.{counted}
use Rattle.slices.specs.Holding.{Holding, own}
use Rattle.stack_marks.specs.declared.mark.Mark.{Mark}
use Rattle.tp_value.specs.declared.Stop.TheVariants.{Done}
use Rattle.tp_value.specs.declared.Op.{Op}
use Rattle.loop_syntax.specs.declared.Carry.{Carry}
use Rattle.loop_syntax.specs.declared.Carry.TheVariants as carry
use Rattle.loop_syntax.specs.declared.Reduce.{Reduce}
use Rattle.loop_meaning.specs.State as meaning
use Rattle.loop_meaning.specs.State.{table_of}
use Rattle.tpal_syntax.specs.declared.instructions.Alu.TheVariants as alu
use Rattle.tpal_syntax.specs.declared.instructions.Instr.{Instr}
use Rattle.tpal_syntax.specs.declared.instructions.Instr.TheVariants as instr
use Rattle.tpal_syntax.specs.declared.instructions.Term.{Term}
use Rattle.tpal_syntax.specs.declared.instructions.Value.TheVariants as value
use Rattle.tpal_syntax.specs.declared.notes.CarryAt.{CarryAt}
use Rattle.tpal_syntax.specs.declared.sites.LoopSite.{LoopSite}
use Rattle.tpal_syntax.specs.declared.words.Word.{Word}
use Rattle.tpal_syntax.specs.declared.words.Word.TheVariants as word
use Rattle.tpal_syntax.specs.Listing.{Listing}
use Rattle.tpal_machine.specs.declared.ends.Ending.{Ending}
use Rattle.tpal_machine.specs.declared.ends.Ending.TheVariants as ending
use Rattle.tpal_machine.specs.declared.ends.Side.{Side}
use Rattle.tpal_machine.specs.Ended.{slices_of}
use Rattle.tpal_machine.specs.Owes.{Bound}
use Rattle.tpal_machine.specs.Owes as owes
use Rattle.tpal_machine.specs.Reading.{register, table_at, with_register}
use Rattle.tpal_machine.specs.State as machine
use Rattle.tpal_machine.specs.Step.{advanced}
use Rattle.tpal_machine.proofs.Kit.{Back, on_load, owing}
use Rattle.expr_lower.specs.Scopes.{HasTable, HasCell, table_number}
use Rattle.expr_lower.specs.Standing.{Remains}
use Rattle.expr_lower.proofs.Keeping.{register_other, register_set}
use Rattle.expr_lower.proofs.Standing.{behind, next}
use Rattle.handler_gen.proofs.Reaching.{reached}
use Rattle.handler_gen.specs.Sites.{over_label, side_label}
use Rattle.join_gen.specs.LoopJoins.{ComesToEnd, HoldWords, IsAtSide, JoinsLoop, handed, loop_side}
use Rattle.scene_laws.specs.Code.{Opens, to}
use Rattle.scene_laws.specs.Layout.{Activation}
use Rattle.scene_laws.specs.Marked.{side_test}
use Rattle.scene_laws.specs.Sites.{accs_of, carried_table, carries_from}
use Rattle.form_laws.proofs.Forms.Choices.{enters}
use Rattle.par_laws.proofs.DeepPars.DeepScenes.{Deep, ended_pieces, ends_apart, enough_of}
use Rattle.par_laws.proofs.DeepPars.DeepScenes.{pieces, rec_of}
use Rattle.scene_laws.proofs.Scenes.Moves.{calm, jumps, opened}
use Rattle.par_laws.proofs.QuietPars.Pars.{tests_in}
use Rattle.scene_laws.proofs.Cuts.Parts.{IsKnown, part_of_table, shown_is}
use Rattle.scene_laws.proofs.Scenes.Pieces.{Apart, Host, Piece}
use Rattle.scene_laws.proofs.Scenes.Regions.{AreShown, Region, shown_at}
use Rattle.scene_laws.proofs.Scenes.Results.{Fin, fin}
use Rattle.scene_laws.proofs.Scenes.Scene.{Owed, Scene, ShowsIn}
use Rattle.scene_laws.proofs.Cuts.Sides.{Part, carried, numbers_in, parts_in, side_by}
use Rattle.scene_laws.proofs.Scenes.Tables.{table_names}
use Rattle.par_laws.proofs.QuietPars.Turning.{drop_front}
use Rattle.scene_laws.proofs.Scenes.Variables.{AreHeld, held_lookup, var_names}

module _ {code : Listing} {heartbeat z : ℕ} {act : Activation} (d : Deep code heartbeat z act)
    (st : meaning.State) (state : machine.State) where
  abbrev level : ℕ
  level = length d.q.names

  abbrev Ended : Scene code heartbeat z
  Ended = ended_pieces d

  -- the task with other registers, at another place
  abbrev behind_it : List Word → BeatState → ℕ → ℕ → machine.State
  behind_it words beat label at = record state {
    registers = words;
    beat = beat;
    block = label;
    at = at;
  }

  marks_alone : (ms : List Mark) → ms ++ [] ≡ ms
  marks_alone [] = refl
  marks_alone (m ∷ ms) = ap (λ (rest : List Mark). m ∷ rest) (marks_alone ms)

  -- behind the whole loop its world goes on
  shows_host : (w : d.S.World) →
      ShowsIn code heartbeat z act d.fuel Ended (Host w) d.q.names st state
      → (words : List Word) (beat : BeatState) (label at : ℕ) → length words ≡ 32
      → register words 31 ≡ word.Int (pos z)
      → ShowsIn code heartbeat z act d.fuel d.S w d.q.names st (behind_it words beat label at)
  shows_host w h words beat label at size base = record {
    size = size;
    base = base;
    limit = h.limit;
    limited = h.limited;
    tall = h.tall;
    ticks = h.ticks;
    within = h.within;
    begun = h.begun;
    printed = h.printed;
    ends = h.ends;
    free = h.free;
    unmet = h.unmet;
    marked = h.marked ∙ marks_alone (d.S.marks w);
    named = h.named;
    few = h.few;
    tabled = h.tabled;
    held = h.held;
    can = h.can;
    ranged = h.ranged;
    levels = h.levels;
    unmarked = h.unmarked;
    top = h.top;
    low = h.low;
    room = h.room;
    vars = h.vars;
    keeps = h.keeps.outer;
  }

  -- ---- a side

  hold_words : (reduces : List Reduce)
      → AllByRecursion (λ (r : Reduce). HasCell d.q.is_deep.is_site.scope r.target.text.items)
      reduces → var_names st.vars ≡ d.q.names → AreHeld state.stack z 0 st.vars
      → HoldWords state.stack z (accs_of d.q.is_deep.is_site.scope reduces)
      (map (λ (n : ℤ). word.Int n) (numbers_in reduces st.vars))
  hold_words [] has names held = tt
  hold_words (r ∷ rs) has names held = (
    held_lookup state.stack z d.q.is_deep.is_site.scope.cells.items 0 st.vars r.target.text.items
        d.q.is_deep.is_site.sees.laid (d.q.is_deep.is_site.sees.named ∙ sym names) has.0 held,
    hold_words rs has.1 names held,
  )

  one_slice : (region : Region) (t : List ℕ) → HasTable d.q.is_deep.is_site.scope t
      → IsKnown (region t) → AreShown region state.tables st.tables
      → table_names st.tables ≡ act.tables
      → own (table_at state.tables (table_number d.q.is_deep.is_site.scope t))
      ≡ part_of_table (region t) (table_of st.tables t)
  one_slice region t has known shown tabled =
      shown_is (table_of st.tables t) (region t)
      (table_at state.tables (table_number d.q.is_deep.is_site.scope t)) known
      (shown_at region state.tables st.tables d.q.is_deep.is_site.scope.tables.items t shown
      (d.q.is_deep.is_site.sees.listed ∙ sym tabled) has)

  slices_are : (region : Region) (before : ℕ) (carries : List Carry)
      → AllByRecursion (λ (c : Carry). HasTable d.q.is_deep.is_site.scope (carried_table c)) carries
      → AllByRecursion (λ (c : Carry). IsKnown (region (carried c))) carries
      → AreShown region state.tables st.tables → table_names st.tables ≡ act.tables
      → slices_of state.tables (carries_from d.q.is_deep.is_site.scope before carries)
      ≡ parts_in d.q.is_deep.is_site.scope region st.tables carries
  slices_are region before [] has known shown tabled = refl
  slices_are region before (carry.Rows t n ∷ cs) has known shown tabled =
      rw (one_slice region t.text.items has.0 known.0 shown tabled)
      (rw (slices_are region (suc before) cs has.1 known.1 shown tabled) refl)
  slices_are region before (carry.Cells t c n ∷ cs) has known shown tabled =
      rw (one_slice region t.text.items has.0 known.0 shown tabled)
      (rw (slices_are region (suc before) cs has.1 known.1 shown tabled) refl)

  module _ (joins : JoinsLoop code heartbeat d.q.site) (m j : ℤ) (p : Part)
      (h : ShowsIn code heartbeat z act d.fuel Ended (Apart p) d.q.names st state)
      (enough : enough_of d (Apart p) st.vars m j) (words : List Word) (beat : BeatState)
      (size : length words ≡ 32) (base : register words 31 ≡ word.Int (pos z))
      (rec : register words 24 ≡ word.Rec p.rec) where
    abbrev u : machine.State
    u = behind_it words beat (side_label d.q.site.label) 0

    abbrev reduces : List Reduce
    reduces = d.q.loop.reduces.items

    values : List Word
    values = map (λ (n : ℤ). word.Int n) (numbers_in reduces st.vars)

    accs_are : d.q.site.accs ≡ accs_of d.q.is_deep.is_site.scope reduces
    accs_are = ap (λ (s : LoopSite). s.accs) d.q.is_deep.is_site.is

    carries_are : d.q.site.carries
        ≡ carries_from d.q.is_deep.is_site.scope 0 d.q.loop.carries.items
    carries_are = ap (λ (s : LoopSite). s.carries) d.q.is_deep.is_site.is

    abbrev side_with : ℕ → List ℕ → List (ℕ × Holding) → Side
    side_with ticks output slices = record {
      stop = Done;
      ticks = ticks;
      output = output;
      words = handed (numbers_in reduces st.vars) p.rec;
      slices = slices;
    }

    side_is : loop_side d.q.site values p.rec u
        ≡ side_by d.q.is_deep.is_site.scope d.q.loop p (Fin st)
    unfolding values
    side_is =
        ap (λ (n : ℕ). side_with n state.output (slices_of state.tables d.q.site.carries)) h.ticks
        ∙ (ap (λ (bytes : List ℕ). side_with st.ticks bytes
        (slices_of state.tables d.q.site.carries))
        (sym (drop_front p.before state.output)
        ∙ ap (λ (bytes : List ℕ). drop (length p.before) bytes) (sym h.printed))
        ∙ ap (λ (parts : List (ℕ × Holding)).
        side_with st.ticks (drop (length p.before) st.output) parts)
        (ap (λ (cs : List CarryAt). slices_of state.tables cs) carries_are
        ∙ slices_are p.region 0 d.q.loop.carries.items d.q.is_deep.is_site.carried
        enough.enough.known h.held h.tabled))

    is_at_side : IsAtSide d.q.site z p.rec p.which values u
    unfolding values
    is_at_side = record {
      block = refl;
      at = refl;
      size = size;
      base = base;
      rec = rec;
      goal = h.ends;
      free = h.free;
      unmet = h.unmet;
      accs = subst (λ (accs : List (ℕ × Op)). HoldWords state.stack z accs values) (sym accs_are)
          (hold_words reduces d.q.is_deep.is_site.reduced h.named h.vars);
    }

    comes : ComesToEnd code heartbeat
        (ending.At p.rec p.which (loop_side d.q.site values p.rec u)) u
    comes = joins.ends z p.rec p.which values u is_at_side

    apart_ends : ((pieces d).owing (Apart p) (fin st)).Holds u
    apart_ends = λ given can.
        subst (λ (e : Ending). Bound code heartbeat false 0 u e)
        (ap (λ (side : Side). ending.At p.rec p.which side) side_is
        ∙ sym (ends_apart d p (Fin st) state.output h.printed))
        (reached code heartbeat
        (owing code heartbeat false 0
        (ending.At p.rec p.which (loop_side d.q.site values p.rec u)))
        u comes.last comes.comes
        (owes.ends comes.last (ending.At p.rec p.which (loop_side d.q.site values p.rec u))
        (comes.ends true)))

  -- ---- the block where no iteration is left

  abbrev tests : List Instr
  tests = instr.Calc 27 24 alu.Eq value.Nil ∷ instr.IfJump 27 d.q.exit ∷ []

  -- the record is in its register
  loads_record : (i : Piece d.S.World) (K : Back code heartbeat)
      → ShowsIn code heartbeat z act d.fuel Ended i d.q.names st state
      → state.block ≡ over_label d.q.site.label → state.at ≡ 0
      → ((words : List Word) (beat : BeatState) (at : ℕ) → length words ≡ 32
      → register words 31 ≡ word.Int (pos z) → register words 24 ≡ rec_of d i
      → Remains code state.block at tests (to (side_label d.q.site.label))
      → K.Holds (behind_it words beat state.block at))
      → K.Holds state
  loads_record i K h at_label at_begin go =
      on_load code heartbeat K state 24 31 d.q.site.rec (pos z) (rec_of d i)
      (next code state _ _ end here) h.base h.keeps.rec
      (go (slice_set state.registers 24 (rec_of d i)) (counted state.beat) (state.at + 1)
      (length-set state.registers 24 _ ∙ h.size)
      (register_other state.registers 24 31 _ (λ (e : 31 ≡ 24). absurd (omega (arith, e)))
      ∙ h.base)
      (register_set state.registers 24 _ (omega (arith, h.size)))
      (behind code state.block state.at _ tests end here))
    where
      end : Term
      end = to (side_label d.q.site.label)

      here : Remains code state.block state.at (side_test d.q.site d.q.exit) end
      here =
          let begun : Remains code (over_label d.q.site.label) 0 (side_test d.q.site d.q.exit) end =
          opened code _ _ end d.q.is_deep.over in
          rw (at_label, at_begin) begun

  module _ (more : List Instr) (last : Term) (ends : Opens code d.q.exit more last)
      (post : Owed code heartbeat z act d.fuel d.S d.q.names more last d.k)
      (joins : JoinsLoop code heartbeat d.q.site) (instrs : List Instr) (side_end : Term)
      (side : Opens code (side_label d.q.site.label) instrs side_end) (m j : ℤ) where
    -- what is owed where no iteration is left
    pub at_over : (i : Piece d.S.World)
        → ShowsIn code heartbeat z act d.fuel Ended i d.q.names st state
        → enough_of d i st.vars m j → state.block ≡ over_label d.q.site.label → state.at ≡ 0
        → ((pieces d).owing i (fin st)).Holds state
    at_over (Host w) h enough at_label at_begin =
        loads_record (Host w) K h at_label at_begin
        (λ words beat at size base rec left.
        let here : machine.State = behind_it words beat state.block at in
        tests_in code heartbeat K here 27 24 alu.Eq value.Nil true d.q.exit []
        (to (side_label d.q.site.label)) (omega (arith, size)) left (rw rec refl)
        (calm code d.q.exit more last ends)
        (λ is.
        enters code heartbeat z act d.fuel d.S d.q.names d.q.exit more last d.k ends post w
        st
        _
        (shows_host w h (slice_set words 27 (word.Int (pos 1)))
        (counted (counted beat)) d.q.exit 0 (length-set words 27 _ ∙ size)
        (register_other words 27 31 _ (λ (e : 31 ≡ 27). absurd (omega (arith, e))) ∙ base))
        refl refl)
        (λ is left_here. absurd (true≢false is)))
      where
        K : Back code heartbeat
        K = (pieces d).owing (Host w) (fin st)
    at_over (Apart p) h enough at_label at_begin =
        loads_record (Apart p) K h at_label at_begin
        (λ words beat at size base rec left.
        let here : machine.State = behind_it words beat state.block at in
        let others : List Word = slice_set words 27 (word.Int (pos 0)) in
        tests_in code heartbeat K here 27 24 alu.Eq value.Nil false d.q.exit []
        (to (side_label d.q.site.label)) (omega (arith, size)) left (rw rec refl)
        (calm code d.q.exit more last ends)
        (λ is. absurd (true≢false (sym is)))
        (λ is left_here.
        jumps code heartbeat K (advanced (with_register (advanced here) 27 (word.Int (pos 0))))
        (side_label d.q.site.label) instrs side_end left_here side
        (apart_ends joins m j p h enough others (counted (counted (counted beat)))
        (length-set words 27 _ ∙ size)
        (register_other words 27 31 _ (λ (e : 31 ≡ 27). absurd (omega (arith, e))) ∙ base)
        (register_other words 27 24 _ (λ (e : 24 ≡ 27). absurd (omega (arith, e))) ∙ rec))))
      where
        K : Back code heartbeat
        K = (pieces d).owing (Apart p) (fin st)
