-- The sides of a cut between two iterations of a `par`: each shows the iterations that it has.
use Rattle.std.proofs.Common.{◌≡◌, ℕ, suc, ◌+◌, ◌≤◌, Bool, true, false, List, [], ◌∷◌, length, Some}
use Rattle.std.proofs.Common.{bytes_eq, refl, sym, ap, append-nil, subst, ◌∙◌, arith}
use Rattle.std.specs.Prelude.{ℤ, pos, ◌+ℤ◌, ◌≤ℤ◌}
use Rattle.std.specs.List.{All, IsDistinct}
use Rattle.std.proofs.lemmas.Int.{ints}
use Rattle.beat_count.specs.BeatState.{BeatState}
use Rattle.stack_marks.specs.declared.mark.Mark.{Mark}
use Rattle.stack_marks.specs.Stacks.{StackValue, word_at}
use Rattle.tp_value.specs.declared.limits.TheConstants.{MAX_CALL_DEPTH, MAX_PAR_LENGTH}
use Rattle.loop_syntax.specs.declared.Program.{Program}
use Rattle.loop_syntax.specs.declared.Stmt.TheVariants.{Par}
use Rattle.loop_meaning.specs.declared.value.Variable.{Variable}
use Rattle.loop_meaning.specs.InRange.{FuncInRange, InRange, StmtInRange}
use Rattle.loop_meaning.specs.Only.{IsNeverLeft, LeavesNothing}
use Rattle.loop_meaning.specs.State as meaning
use Rattle.tpal_syntax.specs.declared.sites.LoopSite.{LoopSite}
use Rattle.tpal_syntax.specs.declared.words.Word.{Word}
use Rattle.tpal_syntax.specs.declared.words.Word.TheVariants as word
use Rattle.tpal_syntax.specs.Listing.{Listing}
use Rattle.tpal_machine.specs.Effect.{is_marked_from}
use Rattle.tpal_machine.specs.Reading.{register}
use Rattle.tpal_machine.specs.State as machine
use Rattle.tpal_machine.proofs.Kit.{IsCalm}
use Rattle.expr_lower.specs.Standing.{AreAt}
use Rattle.frame_machine.specs.Joins.{SameRound, names_of, units_for, upper_start}
use Rattle.frame_machine.specs.Lawful.{Distinct, Lawful}
use Rattle.frame_machine.specs.Splitting.{cut_of}
use Rattle.handler_gen.specs.Blocks.{dispatch_block}
use Rattle.handler_gen.specs.Halves.{KeepsPlace}
use Rattle.handler_gen.proofs.Offsets.{cells_of}
use Rattle.handler_gen.specs.LoopCuts.{loop_mark}
use Rattle.handler_gen.specs.Sites.{first_label, none_label, over_label}
use Rattle.scene_laws.specs.Code.{Opens, to}
use Rattle.scene_laws.specs.Layout.{Activation, bound_cell, levels_cell, value_cell}
use Rattle.scene_laws.proofs.Scenes.Activations.{clear_above}
use Rattle.scene_laws.proofs.Cuts.CutTables.{child_tables, left_tables}
use Rattle.scene_laws.proofs.Scenes.Fixed.{AreFixed, fixed_round, held_fixed, round_back}
use Rattle.scene_laws.proofs.Scenes.Fixed.{round_fixed}
use Rattle.scene_laws.proofs.Cuts.Gaps.{IsGap}
use Rattle.scene_laws.proofs.Cuts.CutGaps.{is_short}
use Rattle.scene_laws.proofs.Merges.JoinsModes.{Serves, left_serves, serves_round, upper_serves}
use Rattle.scene_laws.proofs.Merges.JoinsRuns.{accs_round}
use Rattle.scene_laws.proofs.Merges.JoinsSides.{child_side, left_side}
use Rattle.scene_laws.proofs.Scenes.Moves.{calm}
use Rattle.scene_laws.proofs.Cuts.OldestCuts.{IsOldestCut}
use Rattle.scene_laws.proofs.Cuts.OldestStacks.{HasLeft, HasLoop, child_has, child_header}
use Rattle.scene_laws.proofs.Cuts.OldestStacks.{child_top}
use Rattle.scene_laws.proofs.Cuts.OldestStacks.{left_cursor, left_has, left_header, left_vars}
use Rattle.scene_laws.proofs.Cuts.OldestStacks.{marks_behind}
use Rattle.scene_laws.proofs.Cuts.OwnWork.{IsCutSite, OwnCut, has_iteration, own_child}
use Rattle.scene_laws.proofs.Cuts.OwnWork.{own_left}
use Rattle.scene_laws.proofs.Scenes.Pieces.{Apart, Host, Piece}
use Rattle.scene_laws.proofs.Scenes.Regions.{Region}
use Rattle.scene_laws.proofs.Scenes.Scene.{IsDiverted, Scene, ShowsIn}
use Rattle.scene_laws.proofs.Scenes.Results.{Result}
use Rattle.scene_laws.proofs.Cuts.Sides.{Part, child_region, left_region}
use Rattle.scene_laws.proofs.Scenes.Tables.{listed_names, table_names}
use Rattle.par_laws.proofs.QuietPars.Turned.{T}
use Rattle.par_laws.proofs.QuietPars.Turning.{FixedIn, ParAt, clear_of, enough_of, marks_of}
use Rattle.par_laws.proofs.QuietPars.Turning.{outer_of}
use Rattle.par_laws.proofs.QuietPars.Turning.{own_marks, region_of}
use Rattle.scene_laws.proofs.Scenes.Variables.{AreHeld, held_in_range, var_names}

-- What the rules of a program say of a `par` where it stands: it may be cut, its numbers are in
-- range, none of its iterations is left, and no two tables have one name.
pub record MayBeCut (code : Listing) (act : Activation) (p : Program) (room : ℕ)
    (q : ParAt code act) : Type 0 where
  pub calls : room ≤ MAX_CALL_DEPTH
  pub rules : Lawful p q.modes q.names q.loop
  pub funcs : All FuncInRange p.funcs.items
  pub par : StmtInRange (Par q.loop)
  pub never : All IsNeverLeft p.funcs.items
  pub stays : LeavesNothing q.loop.body.items
  pub differ : IsDistinct bytes_eq act.tables
  pub distinct : Distinct act.tables

-- what stands in a code where beats go, and where the parts of a cut begin
pub record CutBlocks (code : Listing) (act : Activation) (q : ParAt code act)
    (dispatch : ℕ) : Type 0 where
  pub dispatches : AreAt code dispatch (dispatch_block dispatch ∷ [])
  pub child : IsCalm code (first_label q.site.label)
  pub none : Opens code (none_label q.site.label) [] (to (over_label q.site.label))

-- What goes on round a `par` that may be cut, and the code round it: what a world holds of tables
-- serves the iterations, and the cells of the record and of the variables that are reduced may
-- change.
pub record AllowsCuts (code : Listing) (heartbeat z : ℕ) (act : Activation) (q : ParAt code act)
    (S : Scene code heartbeat z) (p : Program) (room : ℕ) : Type 0 where
  pub may : MayBeCut code act p room q
  pub blocks : CutBlocks code act q S.dispatch
  pub opened : S.is_open ≡ true
  pub serves : (w : S.World) (s : StackValue) (vs : List Variable) → var_names vs ≡ q.names
      → S.kept w s → AreFixed q.loop.reduces.items s z 0 vs → (m j : ℤ)
      → Serves q.modes q.loop vs m j (S.region w)
  pub free_rec : S.may q.site.rec
  pub free_accs : All S.may (cells_of q.site.accs)

module _ (code : Listing) (heartbeat z : ℕ) (act : Activation) (q : ParAt code act)
    (S : Scene code heartbeat z) (lowest : S.lowest ≤ length q.names) (k : meaning.State → Result)
    (vs : List Variable) (named : var_names vs ≡ q.names) (fuel : ℕ) (p : Program)
    (room : ℕ) (allows : AllowsCuts code heartbeat z act q S p room) where
  abbrev level : ℕ
  level = length q.names

  abbrev Turning : Bool → ℤ → ℤ → Scene code heartbeat z
  Turning marked m j = T code heartbeat z act q S lowest k vs named marked m j

  serves_of : (m j : ℤ) (i : Piece S.World) (s : StackValue)
      → outer_of code heartbeat z act q S lowest i s → FixedIn code heartbeat z act q S lowest vs s
      → enough_of code heartbeat z act q S lowest vs i m j
      → Serves q.modes q.loop vs m j (region_of code heartbeat z act q S lowest i)
  serves_of m j (Host w) s outer fixed enough = allows.serves w s vs named outer fixed m j
  serves_of m j (Apart p) s outer fixed enough = enough

  -- A diverted task of a piece whose own mark is the oldest: one iteration and so many more aren't
  -- begun, and so many of them stay below the cut.
  pub record IsSplit (m j : ℤ) (i : Piece S.World) (st : meaning.State) (state : machine.State)
      : Type 0 where
    pub shows : ShowsIn code heartbeat z act fuel (Turning true m j) i q.names st state
    pub turned : IsDiverted S.dispatch state
    pub oldest : marks_of code heartbeat z act q S lowest true i ≡ loop_mark q.site z ∷ []
    pub n : ℕ
    pub gap : IsGap (suc n) m j
    pub short : suc n ≤ MAX_PAR_LENGTH
    pub in_m : InRange m
    pub in_j : InRange j
    pub below : ℕ
    pub above : ℕ
    pub all : below + suc above ≡ suc n
    pub cuts : cut_of m j ≡ Some (m +ℤ pos below)

  module _ (m j : ℤ) (i : Piece S.World) (st : meaning.State) (state : machine.State)
      (h : IsSplit m j i st state) where
    abbrev middle : ℤ
    middle = m +ℤ pos h.below

    -- what is cut
    abbrev pub own_cut : OwnCut
    own_cut = record {
      scope = q.is_site.scope;
      loop = q.loop;
      site = q.site;
      z = z;
      next = m;
      middle = middle;
      end = j;
      vars = st.vars;
    }

    many : value_cell level ≤ act.size
    many = omega (arith, h.shows.top, h.shows.room, q.fits)

    pub place : IsCutSite code act q.names q.depth (value_cell level) S.dispatch own_cut
    place = record {
      is_site = q.is_site;
      scoped = refl;
      dispatches = allows.blocks.dispatches;
      first = allows.blocks.child;
      none = calm code _ [] (to (over_label q.site.label)) allows.blocks.none;
      rows = allows.may.rules.rows;
      named = h.shows.named;
      inside = q.nested;
      cursor_apart = λ x low e. absurd (omega (arith, low, e));
      cursor_high = omega arith;
      room = many;
    }

    cells_are : q.site.cells ≡ act.size
    cells_are = ap (λ (s : LoopSite). s.cells) q.is_site.is

    cursor_is : q.site.cursor ≡ value_cell level
    cursor_is = ap (λ (s : LoopSite). s.cursor) q.is_site.is

    bound_is : q.site.bound ≡ bound_cell level
    bound_is = ap (λ (s : LoopSite). s.bound) q.is_site.is

    pub at : IsOldestCut S.dispatch own_cut [] state
    at = record {
      diverted = h.turned;
      size = h.shows.size;
      free = h.shows.free;
      unmet = h.shows.unmet;
      marked = h.shows.marked ∙ h.oldest;
      above = tt;
      held = (h.shows.low, omega (arith, cells_are, h.shows.top));
      cursor = ap (λ o. word_at state.stack (pos (z + o))) cursor_is ∙ h.shows.keeps.next;
      bound = ap (λ o. word_at state.stack (pos (z + o))) bound_is ∙ h.shows.keeps.bound;
      next_in_range = h.in_m;
      end_in_range = h.in_j;
      short = is_short h.n m j h.gap h.short;
      cut = h.cuts;
      fixed = held_fixed q.loop.reduces.items state.stack z 0 st.vars h.shows.vars;
      ranged = held_in_range state.stack z 0 st.vars h.shows.vars;
    }

    names_distinct : Distinct q.names
    names_distinct = allows.may.rules.distinct

    -- ---- what is held serves

    pub round : SameRound q.loop.reduces.items vs st.vars
    round =
        fixed_round q.loop.reduces.items state.stack z vs st.vars (h.shows.named ∙ sym named)
        h.shows.keeps.fixed h.shows.vars

    pub distinct : Distinct (names_of vs)
    distinct = subst Distinct (sym named) allows.may.rules.distinct

    abbrev region : Region
    region = region_of code heartbeat z act q S lowest i

    serves : Serves q.modes q.loop vs m j region
    serves = serves_of m j i state.stack h.shows.keeps.outer h.shows.keeps.fixed
        h.shows.keeps.enough

    pub serves_here : Serves q.modes q.loop st.vars m j region
    serves_here =
        serves_round q.modes q.loop q.names vs st.vars m j region allows.may.rules.rows round serves

    listed : listed_names q.is_site.scope.tables.items ≡ table_names st.tables
    listed = q.is_site.sees.listed ∙ sym h.shows.tabled

    distinct_tables : Distinct (table_names st.tables)
    distinct_tables = subst Distinct (sym h.shows.tabled) allows.may.distinct

    ordered : middle ≤ℤ j
    ordered = omega (arith, ints, h.gap, h.all)

    first_low : m ≤ℤ middle
    first_low = omega (arith, ints)

    pub left_holds : Serves q.modes q.loop st.vars m middle
        (left_region st.vars middle q.loop.carries.items region)
    left_holds = left_serves q.modes q.loop st.vars m j region serves_here middle ordered

    -- ---- the left

    module _ (c : ℕ) (words : List Word) (beat : BeatState) where
      -- the iterations that it has, and what it holds
      abbrev pub lower_part : Part
      lower_part = left_side q.loop c region middle st

      abbrev left : machine.State
      left = own_left own_cut c state words beat

      module _ (keeps : KeepsPlace state words beat) (marked : Bool)
          (is : has_iteration own_cut ≡ marked) where
        has : HasLeft own_cut c (marks_behind own_cut []) state.stack left.stack
        has = left_has place c state at names_distinct

        top_left : left.stack.base + length left.stack.cells ≡ z + act.size
        top_left = has.top ∙ h.shows.top

        vars_left : AreHeld left.stack z 0 st.vars
        vars_left = left_vars place c state at names_distinct st.vars h.shows.vars

        by_mark : (b : Bool) → has_iteration own_cut ≡ b
            → marks_behind own_cut [] ≡ own_marks code heartbeat z act q S lowest b
        by_mark true e = rw e refl
        by_mark false e = rw e refl

        pub shows_left : ShowsIn code heartbeat z act fuel (Turning marked m middle)
            (Apart lower_part) q.names st left
        shows_left = record {
          size = keeps.size;
          base = keeps.high 31 (omega arith) ∙ h.shows.base;
          limit = h.shows.limit;
          limited = h.shows.limited;
          tall = h.shows.tall;
          ticks = h.shows.ticks;
          within = h.shows.within;
          begun = omega arith;
          printed = sym (append-nil st.output);
          ends = refl;
          free = refl;
          unmet = refl;
          marked = has.marked ∙ by_mark marked is;
          named = h.shows.named;
          few = h.shows.few;
          tabled = h.shows.tabled;
          held = left_tables q.is_site.scope st.vars middle q.loop.carries.items region state.tables
              st.tables listed distinct_tables h.shows.held;
          can = tt;
          ranged = h.shows.ranged;
          levels = left_header place c state at names_distinct levels_cell (omega arith)
              ∙ h.shows.levels;
          unmarked =
              ap (λ (ms : List Mark). is_marked_from ms (z + act.size))
              (has.marked ∙ by_mark marked is)
              ∙ clear_above (own_marks code heartbeat z act q S lowest marked)
              (z + value_cell (suc level)) (z + act.size)
              (omega (arith, h.shows.top, h.shows.room, q.fits))
              (clear_of code heartbeat z act q S lowest marked (Apart lower_part));
          top = top_left;
          low = omega (arith, has.base);
          room = omega (arith, top_left, h.shows.top, h.shows.room);
          vars = vars_left;
          keeps = record {
            outer = tt;
            rec = has.rec;
            next = ap (λ o. word_at left.stack (pos (z + o))) (sym cursor_is)
                ∙ left_cursor place c state at names_distinct;
            bound = ap (λ o. word_at left.stack (pos (z + o))) (sym bound_is) ∙ has.bound;
            fixed = round_fixed q.loop.reduces.items left.stack z vs st.vars distinct round
                vars_left;
            enough = serves_round q.modes q.loop q.names st.vars vs m middle
                (left_region st.vars middle q.loop.carries.items region) allows.may.rules.rows
                (round_back q.loop.reduces.items vs st.vars round)
                left_holds;
          };
        }

    -- ---- the child

    -- the state in which it begins
    abbrev pub upper_state : meaning.State
    upper_state = upper_start q.loop.reduces.items st.vars st.tables

    pub upper_round : SameRound q.loop.reduces.items st.vars upper_state.vars
    upper_round =
        accs_round q.loop.reduces.items (units_for q.loop.reduces.items) st.vars st.vars
        (record { names = refl; values = λ x none. refl })

    round_upper : SameRound q.loop.reduces.items vs upper_state.vars
    round_upper =
        accs_round q.loop.reduces.items (units_for q.loop.reduces.items) vs st.vars round

    pub child_holds : Serves q.modes q.loop upper_state.vars middle j
        (child_region st.vars middle q.loop.carries.items region)
    child_holds =
        serves_round q.modes q.loop q.names st.vars upper_state.vars middle j
        (child_region st.vars middle q.loop.carries.items region) allows.may.rules.rows upper_round
        (upper_serves q.modes q.loop st.vars m j region serves_here middle first_low)

    module _ (c : ℕ) (words : List Word) (beat : BeatState) where
      abbrev pub upper_part : Part
      upper_part = child_side q.loop c region middle st

      abbrev child : machine.State
      child = own_child own_cut c state words beat

      module _ (size : length words ≡ 32) (base : register words 31 ≡ word.Int (pos z)) where
        has_child : HasLoop own_cut c middle j upper_state.vars (loop_mark q.site z ∷ [])
            state.stack child.stack
        has_child = child_has place c state at names_distinct

        top_child : child.stack.base + length child.stack.cells ≡ z + act.size
        top_child = child_top place c state at names_distinct ∙ ap (λ n. z + n) cells_are

        pub shows_child : ShowsIn code heartbeat z act fuel (Turning true middle j)
            (Apart upper_part) q.names upper_state child
        shows_child = record {
          size = size;
          base = base;
          limit = h.shows.limit;
          limited = h.shows.limited;
          tall = h.shows.tall;
          ticks = refl;
          within = omega arith;
          begun = omega arith;
          printed = refl;
          ends = refl;
          free = refl;
          unmet = refl;
          marked = has_child.marked;
          named = upper_round.names ∙ h.shows.named;
          few = h.shows.few;
          tabled = h.shows.tabled;
          held = child_tables q.is_site.scope st.vars middle q.loop.carries.items region
              state.tables
              st.tables listed distinct_tables h.shows.held;
          can = tt;
          ranged = h.shows.ranged;
          levels = child_header place c state at names_distinct levels_cell (omega arith)
              ∙ h.shows.levels;
          unmarked =
              ap (λ (ms : List Mark). is_marked_from ms (z + act.size)) has_child.marked
              ∙ clear_above (own_marks code heartbeat z act q S lowest true)
              (z + value_cell (suc level)) (z + act.size)
              (omega (arith, h.shows.top, h.shows.room, q.fits))
              (clear_of code heartbeat z act q S lowest true (Apart upper_part));
          top = top_child;
          low = omega (arith, has_child.base);
          room = omega (arith, top_child, h.shows.top, h.shows.room);
          vars = has_child.vars;
          keeps = record {
            outer = tt;
            rec = has_child.rec;
            next = ap (λ o. word_at child.stack (pos (z + o))) (sym cursor_is) ∙ has_child.cursor;
            bound = ap (λ o. word_at child.stack (pos (z + o))) (sym bound_is) ∙ has_child.bound;
            fixed = round_fixed q.loop.reduces.items child.stack z vs upper_state.vars distinct
                round_upper has_child.vars;
            enough = serves_round q.modes q.loop q.names upper_state.vars vs middle j
                (child_region st.vars middle q.loop.carries.items region) allows.may.rules.rows
                (round_back q.loop.reduces.items vs upper_state.vars round_upper) child_holds;
          };
        }
