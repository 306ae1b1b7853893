-- The sides of a `par` that is cut in the middle of an iteration, or between two: what is known
-- where it is cut, and what the child shows.
use Rattle.std.proofs.Common.{◌≡◌, ℕ, suc, ◌+◌, ◌≤◌, true, All, List, [], ◌∷◌}
use Rattle.std.proofs.Common.{◌++◌, length, None, Some, refl, sym, ap, subst, ◌∙◌, arith}
use Rattle.std.specs.Prelude.{ℤ, pos, ◌+ℤ◌, ◌≤ℤ◌}
use Rattle.std.specs.List.{AllByRecursion}
use Rattle.std.proofs.lemmas.Int.{ints}
use Rattle.beat_count.specs.BeatState.{BeatState}
use Rattle.stack_marks.specs.declared.mark.Mark.{Mark}
use Rattle.stack_marks.specs.Stacks.{word_at}
use Rattle.tp_value.specs.declared.limits.TheConstants.{MAX_PAR_LENGTH}
use Rattle.loop_meaning.specs.InRange.{InRange, StateInRange, TableInRange}
use Rattle.loop_meaning.specs.State as meaning
use Rattle.loop_meaning.specs.State.{Chance}
use Rattle.loop_meaning.specs.declared.value.Variable.{Variable}
use Rattle.tpal_syntax.specs.declared.instructions.Term.TheVariants as term
use Rattle.tpal_syntax.specs.declared.instructions.Value.TheVariants as value
use Rattle.tpal_syntax.specs.declared.words.Word.{Word}
use Rattle.tpal_syntax.specs.declared.words.Word.TheVariants as word
use Rattle.tpal_syntax.specs.Listing.{Listing}
use Rattle.tpal_machine.specs.Effect.{is_marked_from}
use Rattle.tpal_machine.specs.Reading.{register}
use Rattle.tpal_machine.specs.State as machine
use Rattle.frame_machine.specs.Iterating.{CutLoop, LoopCut}
use Rattle.frame_machine.specs.Joins.{SameRound, upper_start}
use Rattle.frame_machine.specs.Lawful.{Distinct, Lawful, modes_in}
use Rattle.frame_machine.specs.Modes as mode
use Rattle.frame_machine.specs.Modes.{Mode}
use Rattle.frame_machine.specs.Parts.{Below, From, Outside, Seen, SeenAt, Written, WrittenAt}
use Rattle.frame_machine.specs.Splitting.{cut_of}
use Rattle.frame_machine.proofs.Tables.{agree_sym}
use Rattle.handler_gen.specs.LoopCuts.{loop_mark}
use Rattle.scene_laws.specs.Code.{to}
use Rattle.scene_laws.specs.DeepMarked.{next_begun}
use Rattle.scene_laws.specs.Layout.{Activation, cursor_cell, levels_cell, value_cell}
use Rattle.scene_laws.proofs.Scenes.Activations.{StandsFrom, clear_above}
use Rattle.scene_laws.proofs.Scenes.Changing.{Changed, agree_fewer}
use Rattle.scene_laws.proofs.Cuts.CutGaps.{is_short}
use Rattle.scene_laws.proofs.Cuts.CutTables.{child_tables}
use Rattle.par_laws.proofs.DeepPars.DeepScenes.{Deep, between, before_of, can_of, cells_are}
use Rattle.par_laws.proofs.DeepPars.DeepScenes.{clear_of}
use Rattle.par_laws.proofs.DeepPars.DeepScenes.{enough_of, goal_of, marks_of, outer_of}
use Rattle.par_laws.proofs.DeepPars.DeepScenes.{own_marks}
use Rattle.par_laws.proofs.DeepPars.DeepScenes.{rec_of, region_of, since_of}
use Rattle.scene_laws.proofs.Scenes.Fixed.{AreFixed}
use Rattle.scene_laws.proofs.Merges.JoinsModes.{Serves, serves_round, upper_serves}
use Rattle.scene_laws.proofs.Merges.JoinsRuns.{accs_round}
use Rattle.scene_laws.proofs.Merges.JoinsSides.{child_side, left_side}
use Rattle.scene_laws.proofs.Scenes.Moves.{calm}
use Rattle.scene_laws.proofs.Cuts.OldestCuts.{IsOldestCut}
use Rattle.scene_laws.proofs.Cuts.OldestStacks.{HasLoop, child_has, child_header, child_top}
use Rattle.scene_laws.proofs.Cuts.OwnWork.{IsCutSite, OwnCut, own_child}
use Rattle.scene_laws.proofs.Scenes.Pieces.{Apart, Host, Piece}
use Rattle.scene_laws.proofs.Scenes.Regions.{AreShown, Region}
use Rattle.scene_laws.proofs.Scenes.Scene.{IsDiverted, ShowsIn}
use Rattle.scene_laws.proofs.Cuts.Sides.{Part, child_region}
use Rattle.scene_laws.proofs.Scenes.Tables.{listed_names, table_names}
use Rattle.scene_laws.proofs.Scenes.Variables.{var_names}

-- what iterations may write, more of them may
pub written_more : (P Q : ℤ → Type 0) → ((n : ℤ) → P n → Q n) → (vs : List Variable) (md : Mode)
    (i j : ℤ) → WrittenAt P vs md i j → WrittenAt Q vs md i j
written_more P Q more vs mode.Whole i j written = written
written_more P Q more vs mode.Closed i j written = written
written_more P Q more vs (mode.OwnRow x) i j written = more i written
written_more P Q more vs (mode.OwnCell k x) i j written = (written.0, more j written.1)

-- what the iterations from one number on may read, those below it don't write
seen_unwritten : (low high : ℤ) → low ≤ℤ high → (vs : List Variable) (md : Mode) (i j : ℤ)
    → SeenAt (From high) vs md i j → WrittenAt (Below low) vs md i j → ⊥
seen_unwritten low high le vs mode.Whole i j seen written = written
seen_unwritten low high le vs mode.Closed i j seen written = written
seen_unwritten low high le vs (mode.OwnRow x) i j seen written =
    absurd (omega (arith, ints, le, seen, written))
seen_unwritten low high le vs (mode.OwnCell k x) i j seen written =
    absurd (omega (arith, ints, le, seen.1, written.1))

module _ {code : Listing} {heartbeat z : ℕ} {act : Activation} (d : Deep code heartbeat z act) where
  abbrev level : ℕ
  level = length d.q.names

  -- A diverted task of a piece whose own mark is the oldest. From a first state on so many
  -- iterations began: none, or the one that runs. One and so many more aren't begun, and so many of
  -- these stay below the cut.
  pub record IsSplit (i : Piece d.S.World) (marks : List Mark) (state : machine.State) : Type 0
    where
      pub start : meaning.State
      pub st : meaning.State
      pub first : ℤ
      pub begun : ℕ
      pub to : ℤ
      pub n : ℕ
      pub below : ℕ
      pub above : ℕ
      pub far : to ≡ (first +ℤ pos begun) +ℤ pos (suc n)
      pub all : below + suc above ≡ suc n
      pub cuts : cut_of (first +ℤ pos begun) to ≡ Some (first +ℤ pos (begun + below))
      pub short : suc n ≤ MAX_PAR_LENGTH
      pub in_first : InRange first
      pub in_to : InRange to
      -- the first state
      pub named : var_names start.vars ≡ d.q.names
      pub tabled : table_names start.tables ≡ act.tables
      pub ranged : StateInRange start
      pub within : start.ticks ≤ d.fuel
      -- the task
      pub turned : IsDiverted d.S.dispatch state
      pub size : length state.registers ≡ 32
      pub limit : state.fuel.limit ≡ d.fuel
      pub begins : since_of d i ≤ start.ticks
      pub free : state.pending ≡ None
      pub unmet : state.met ≡ None
      pub ends : state.goal ≡ goal_of d i
      pub oldest : marks_of d true i ≡ loop_mark d.q.site z ∷ []
      pub marked : state.stack.marks ≡ loop_mark d.q.site z ∷ marks
      pub high : AllByRecursion (StandsFrom z) marks
      pub low : state.stack.base ≤ z
      pub tall : z + act.size ≤ state.stack.base + length state.stack.cells
      pub printed : st.output ≡ before_of d i ++ state.output
      pub held : AreShown (region_of d i) state.tables st.tables
      pub now_ranged : All TableInRange st.tables
      pub now_tabled : table_names st.tables ≡ act.tables
      pub can : can_of d i st.tables
      pub differ : Changed (Written (Below (first +ℤ pos begun)) start.vars
          (modes_in d.q.modes d.q.loop)) start.tables st.tables
      -- its stack
      pub outer : outer_of d i state.stack
      pub levels : word_at state.stack (pos (z + levels_cell))
          ≡ Some (word.Int (pos d.S.levels))
      pub rec : word_at state.stack (pos (z + d.q.site.rec)) ≡ Some (rec_of d i)
      pub cursor : word_at state.stack (pos (z + d.q.site.cursor))
          ≡ Some (word.Int (first +ℤ pos begun))
      pub bound : word_at state.stack (pos (z + d.q.site.bound)) ≡ Some (word.Int to)
      pub fixed : AreFixed d.q.loop.reduces.items state.stack z 0 start.vars
      pub enough : enough_of d i start.vars first to

  module _ (i : Piece d.S.World) (marks : List Mark) (state : machine.State)
      (h : IsSplit i marks state) where
    abbrev pub middle : ℤ
    middle = h.first +ℤ pos (h.begun + h.below)

    -- what is cut
    abbrev pub own_cut : OwnCut
    own_cut = record {
      scope = d.q.is_deep.is_site.scope;
      loop = d.q.loop;
      site = d.q.site;
      z = z;
      next = h.first +ℤ pos h.begun;
      middle = middle;
      end = h.to;
      vars = h.start.vars;
    }

    pub place : IsCutSite code act d.q.names d.q.depth (cursor_cell d.q.depth) d.S.dispatch own_cut
    place = record {
      is_site = d.q.is_deep.is_site;
      scoped = refl;
      dispatches = d.dispatches;
      first = calm code _ (next_begun d.q.site (length d.q.names) d.q.turn) (to d.q.is_deep.last)
          d.q.is_deep.first;
      none = calm code _ [] (term.Jump (value.Reg 30)) d.q.is_deep.none;
      rows = d.rules.rows;
      named = h.named;
      inside = d.q.nested;
      cursor_apart = λ x low e. absurd (omega (arith, e, d.q.nested));
      cursor_high = omega arith;
      room = omega (arith, d.space, d.q.fits);
    }

    pub at : IsOldestCut d.S.dispatch own_cut marks state
    at = record {
      diverted = h.turned;
      size = h.size;
      free = h.free;
      unmet = h.unmet;
      marked = h.marked;
      above = h.high;
      held = (h.low, omega (arith, cells_are d, h.tall));
      cursor = h.cursor;
      bound = h.bound;
      next_in_range = omega (arith, ints, h.in_first, h.in_to, h.far);
      end_in_range = h.in_to;
      short = is_short h.n (h.first +ℤ pos h.begun) h.to h.far h.short;
      cut = h.cuts;
      fixed = h.fixed;
      ranged = h.ranged.vars;
    }

    -- the left of the cut, before which it was printed what was printed there
    abbrev pub lower_part : ℕ → Part
    lower_part c = record (left_side d.q.loop c (region_of d i) middle h.start) {
      before = h.st.output;
    }

    -- ---- what is held serves

    abbrev pub region : Region
    region = region_of d i

    serves_by : (o : Piece d.S.World) → outer_of d o state.stack
        → enough_of d o h.start.vars h.first h.to
        → Serves d.q.modes d.q.loop h.start.vars h.first h.to (region_of d o)
    serves_by (Host w) outer enough =
        d.serves w state.stack h.start.vars h.named outer h.fixed h.first h.to
    serves_by (Apart part) outer enough = enough

    pub serves : Serves d.q.modes d.q.loop h.start.vars h.first h.to region
    serves = serves_by i h.outer h.enough

    pub rules : Lawful d.p d.q.modes (var_names h.start.vars) d.q.loop
    rules =
        subst (λ (names : List (List ℕ)). Lawful d.p d.q.modes names d.q.loop) (sym h.named)
        d.rules

    pub listed : listed_names d.q.is_deep.is_site.scope.tables.items ≡ table_names h.st.tables
    listed = d.q.is_deep.is_site.sees.listed ∙ sym h.now_tabled

    pub now_distinct : Distinct (table_names h.st.tables)
    now_distinct = subst Distinct (sym h.now_tabled) d.distinct

    -- ---- the cut on the meaning alone

    -- from the first state on; the child has the tables of the cut
    abbrev pub cutting : CutLoop
    cutting = record {
      room = d.room;
      first = h.first;
      below = h.begun + h.below;
      above = suc h.above;
      state = h.start;
      begin = [];
      again = Chance ∷ [];
      upper_begin = [];
      upper_again = Chance ∷ [];
      vars = h.start.vars;
      tables = h.st.tables;
    }

    pub loop_cut : LoopCut d.p d.q.modes d.q.loop d.fuel cutting
    loop_cut = record {
      calls = d.calls;
      range = record {
        funcs = d.funcs;
        par = d.par;
        state = h.ranged;
        begins = h.in_first;
        ends = omega (arith, ints, h.in_first, h.in_to, h.far, h.all);
      };
      within = h.within;
      round = record { names = refl; values = λ x none_reduced. refl };
      given = agree_sym (Seen (From middle) h.start.vars (modes_in d.q.modes d.q.loop))
          h.start.tables h.st.tables
          (agree_fewer
          (Outside (Written (Below (h.first +ℤ pos h.begun)) h.start.vars
          (modes_in d.q.modes d.q.loop)))
          (Seen (From middle) h.start.vars (modes_in d.q.modes d.q.loop)) h.start.tables
          h.st.tables
          (λ t a b seen written. seen_unwritten (h.first +ℤ pos h.begun) middle
          (omega (arith, ints)) h.start.vars (modes_in d.q.modes d.q.loop t) a b seen written)
          h.differ.agree);
    }

    -- ---- the child

    -- the state in which it begins
    abbrev pub upper_state : meaning.State
    upper_state = upper_start d.q.loop.reduces.items h.start.vars h.st.tables

    pub upper_round : SameRound d.q.loop.reduces.items h.start.vars upper_state.vars
    upper_round =
        accs_round d.q.loop.reduces.items _ h.start.vars h.start.vars
        (record { names = refl; values = λ x none_reduced. refl })

    pub child_holds : Serves d.q.modes d.q.loop upper_state.vars middle h.to
        (child_region h.start.vars middle d.q.loop.carries.items region)
    child_holds =
        serves_round d.q.modes d.q.loop d.q.names h.start.vars upper_state.vars middle h.to
        (child_region h.start.vars middle d.q.loop.carries.items region) d.rules.rows upper_round
        (upper_serves d.q.modes d.q.loop h.start.vars h.first h.to region serves middle
        (omega (arith, ints)))

    module _ (c : ℕ) (words : List Word) (beat : BeatState) (size : length words ≡ 32)
        (base : register words 31 ≡ word.Int (pos z)) where
      abbrev pub upper_part : Part
      upper_part = child_side d.q.loop c region middle h.start

      abbrev child : machine.State
      child = own_child own_cut c state words beat

      has_child : HasLoop own_cut c middle h.to upper_state.vars (loop_mark d.q.site z ∷ [])
          state.stack child.stack
      has_child = child_has place c state at d.rules.distinct

      top_child : child.stack.base + length child.stack.cells ≡ z + act.size
      top_child = child_top place c state at d.rules.distinct ∙ ap (λ n. z + n) (cells_are d)

      pub shows_child : ShowsIn code heartbeat z act d.fuel (between d true middle h.to)
          (Apart upper_part) d.q.names upper_state child
      shows_child = record {
        size = size;
        base = base;
        limit = h.limit;
        limited = d.limited;
        tall = d.tall;
        ticks = refl;
        within = omega arith;
        begun = omega arith;
        printed = refl;
        ends = refl;
        free = refl;
        unmet = refl;
        marked = has_child.marked;
        named = upper_round.names ∙ h.named;
        few = omega (arith, d.q.fits);
        tabled = h.now_tabled;
        held = child_tables d.q.is_deep.is_site.scope h.start.vars middle d.q.loop.carries.items
            region state.tables h.st.tables listed now_distinct h.held;
        can = tt;
        ranged = h.now_ranged;
        levels = child_header place c state at d.rules.distinct levels_cell (omega arith)
            ∙ h.levels;
        unmarked =
            ap (λ (ms : List Mark). is_marked_from ms (z + act.size)) has_child.marked
            ∙ clear_above (own_marks d true) (z + value_cell (suc level)) (z + act.size)
            (omega (arith, d.space, d.q.fits)) (clear_of d true (Apart upper_part));
        top = top_child;
        low = omega (arith, has_child.base);
        room = omega (arith, top_child, d.space);
        vars = has_child.vars;
        keeps = record {
          outer = tt;
          rec = has_child.rec;
          cursor = has_child.cursor;
          bound = has_child.bound;
        };
      }
