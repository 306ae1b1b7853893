-- A task that was diverted between two iterations of a `par` that may be cut in the middle of one:
-- what goes on round the loop is cut, or the iterations that aren't begun, and it goes back.
use Rattle.std.proofs.Common.{◌≡◌, ◌≢◌, ◌⊎◌, inl, inr, ℕ, zero, suc, ◌+◌, ◌<◌, ◌≤◌, Bool, true}
use Rattle.std.proofs.Common.{false}
use Rattle.std.proofs.Common.{List, [], ◌∷◌, append-nil, length, Some, refl, sym, ap, subst, ◌∙◌}
use Rattle.std.proofs.Common.{arith}
use Rattle.std.specs.Prelude.{ℤ, pos, ◌+ℤ◌}
use Rattle.std.specs.List.{AllByRecursion}
use Rattle.std.proofs.lemmas.Bool.{cases_lt, true≢false}
use Rattle.std.proofs.lemmas.Int.{ints}
use Rattle.std.proofs.lemmas.List.{length-set}
use Rattle.beat_count.specs.BeatState.{BeatState}
use Rattle.beat_count.specs.Heartbeat.{is_diverted}
use Rattle.stack_marks.specs.declared.mark.Mark.{Mark}
use Rattle.stack_marks.specs.Stacks.{word_at}
use Rattle.loop_meaning.specs.State as meaning
use Rattle.loop_meaning.specs.State.{Chance}
use Rattle.loop_meaning.specs.Statements.{iterate}
use Rattle.tpal_syntax.specs.declared.instructions.Term.TheVariants as term
use Rattle.tpal_syntax.specs.declared.instructions.Value.TheVariants as value
use Rattle.tpal_syntax.specs.declared.words.Word.{Word}
use Rattle.tpal_syntax.specs.declared.words.Word.TheVariants as word
use Rattle.tpal_syntax.specs.Listing.{Listing}
use Rattle.tpal_machine.specs.Effect.{has_mark, is_marked_from}
use Rattle.tpal_machine.specs.Owes.{Bound}
use Rattle.tpal_machine.specs.Reading.{register}
use Rattle.tpal_machine.specs.State as machine
use Rattle.tpal_machine.specs.Step.{advanced}
use Rattle.tpal_machine.proofs.Kit.{Back}
use Rattle.expr_lower.proofs.Keeping.{register_other, register_set}
use Rattle.expr_lower.proofs.Standing.{at_end}
use Rattle.handler_gen.specs.Halves.{KeepsPlace}
use Rattle.handler_gen.specs.LoopCuts.{loop_mark}
use Rattle.handler_gen.proofs.Ready.{beat_is, diverted_to, goes_in, mark_stands}
use Rattle.join_gen.specs.LoopJoins.{JoinsLoop}
use Rattle.scene_laws.specs.Layout.{Activation, levels_cell, value_cell}
use Rattle.scene_laws.proofs.Scenes.Activations.{StandsFrom, clear_above}
use Rattle.scene_laws.proofs.Scenes.Changing.{changed_refl}
use Rattle.scene_laws.proofs.Cuts.CutGaps.{Halved, halved}
use Rattle.par_laws.proofs.DeepPars.DeepCuts as cuts
use Rattle.par_laws.proofs.DeepPars.DeepCuts.{LeftOwed, split_owed}
use Rattle.par_laws.proofs.DeepPars.DeepPoints.{DivertedOwed, IsAhead, NextOwed, ahead_in}
use Rattle.par_laws.proofs.DeepPars.DeepPoints.{next_result}
use Rattle.par_laws.proofs.DeepPars.DeepPoints.{opens_head}
use Rattle.par_laws.proofs.DeepPars.DeepPoints.{ready}
use Rattle.par_laws.proofs.DeepPars.DeepRunning.{are_any}
use Rattle.par_laws.proofs.DeepPars.DeepScenes.{Deep, FirstOwed, OverOwed, between, body}
use Rattle.par_laws.proofs.DeepPars.DeepScenes.{bound_is}
use Rattle.par_laws.proofs.DeepPars.DeepScenes.{clear_of}
use Rattle.par_laws.proofs.DeepPars.DeepScenes.{cursor_is, mark_is, marks_of, own_marks, pieces}
use Rattle.par_laws.proofs.DeepPars.DeepScenes.{rec_is}
use Rattle.par_laws.proofs.DeepPars.DeepScenes.{region_of}
use Rattle.par_laws.proofs.DeepPars.DeepScenes.{apart_ending, variable}
use Rattle.par_laws.proofs.DeepPars.DeepSides.{IsSplit, lower_part, middle, rules, serves}
use Rattle.form_laws.proofs.Entering.{goes_back_in}
use Rattle.scene_laws.proofs.Scenes.Fixed.{held_fixed}
use Rattle.scene_laws.proofs.Merges.JoinsModes.{Serves, covered, left_serves}
use Rattle.scene_laws.proofs.Scenes.Pieces.{Apart, Host, Piece}
use Rattle.scene_laws.proofs.Scenes.Regions.{Covers}
use Rattle.scene_laws.proofs.Scenes.Results.{result, then}
use Rattle.scene_laws.proofs.Scenes.Scene.{GoesBack, IsDiverted, IsUncut, Near, RunsIn, ShowsIn}
use Rattle.scene_laws.proofs.Scenes.Scene.{facts}
use Rattle.scene_laws.proofs.Scenes.Showing.{as_many, shows_words}
use Rattle.scene_laws.proofs.Cuts.Sides.{left_region}
use Rattle.scene_laws.proofs.Scenes.Variables.{held_in_range, held_same}

module _ {code : Listing} {heartbeat z : ℕ} {act : Activation} (d : Deep code heartbeat z act) where
  abbrev level : ℕ
  level = length d.q.names

  -- what is owed at the promotion point is owed where a task goes back to it
  goes_back_to : (K : Back code heartbeat) (other u : machine.State)
      → register other.registers 30 ≡ word.Label d.q.head → GoesBack code other u
      → K.Holds (goes_in heartbeat d.q.head u) → K.Holds u
  goes_back_to K other u label gone holds =
      goes_back_in code heartbeat K u d.q.head d.S.dispatch
      (at_end code u (term.Jump (value.Reg 30)) gone.stands) (gone.label ∙ label) (ready d)
      gone.quiet holds

  module _ (n : ℕ) (m j : ℤ) (st : meaning.State) (state : machine.State)
      (size : length state.registers ≡ 32)
      (beats : is_diverted heartbeat (has_mark state.stack) true (advanced state).beat ≡ true)
    where
      -- the task that was diverted
      abbrev other : machine.State
      other = diverted_to heartbeat d.q.head d.S.dispatch state

      is_turned : IsDiverted d.S.dispatch other
      is_turned =
          let is = beat_is heartbeat (has_mark state.stack) (advanced state).beat beats in
          record {
            block = refl;
            at = refl;
            quiet = ap (λ (b : BeatState). b.quiet) is;
            granted = ap (λ (b : BeatState). b.granted) is;
          }

      many : length other.registers ≡ 32
      many = length-set state.registers 30 (word.Label d.q.head) ∙ size

      base_kept : register other.registers 31 ≡ register state.registers 31
      base_kept =
          register_other state.registers 30 31 (word.Label d.q.head)
          (λ (e : 31 ≡ 30). absurd (omega (arith, e)))

      label_there : register other.registers 30 ≡ word.Label d.q.head
      label_there = register_set state.registers 30 (word.Label d.q.head) (omega (arith, size))

      -- where it shows the iterations again, the next one begins
      goes_on : (c : ℕ) → NextOwed d c → (first last : ℤ) (o : Piece d.S.World) (u : machine.State)
          → GoesBack code other u → IsAhead d c first last o st u
          → ((pieces d).owing o (next_result d c first st)).Holds u
      goes_on c owed first last o u gone ahead =
          goes_back_to ((pieces d).owing o (next_result d c first st)) other u label_there gone
          (owed first last o st (goes_in heartbeat d.q.head u) (ahead_in d c first last o st u ahead)
          (opens_head d))

      -- ---- it goes back as it was

      module _ (i : Piece d.S.World) (h : IsAhead d n m j i st state) where
        uncut_ahead : (u : machine.State) → GoesBack code other u → IsUncut other u
            → IsAhead d n m j i st u
        uncut_ahead u gone uncut = record {
          shows = shows_u;
          enough = h.enough;
          far = h.far;
          in_m = h.in_m;
          in_j = h.in_j;
          short = h.short;
        }
          where
            free : u.pending ≡ state.pending
            free = uncut.free ∙ sym h.shows.free

            unmet : u.met ≡ state.met
            unmet = uncut.unmet ∙ sym h.shows.unmet

            shows_u : ShowsIn code heartbeat z act d.fuel (between d (are_any n) m j) i d.q.names st u
            shows_u =
                rw (uncut.stack, uncut.tables, uncut.fuel, uncut.output, uncut.goal, free, unmet)
                (shows_words code heartbeat z act d.fuel (between d (are_any n) m j) i h.shows
                u.registers (gone.size ∙ sym size) (gone.base ∙ base_kept))

      -- ---- what goes on round the loop is cut

      module _ (w : d.S.World) (h : IsAhead d n m j (Host w) st state)
          (outer : d.S.marks w ≡ [] → ⊥) (owed : NextOwed d n) where
        abbrev own : List Mark
        own = own_marks d (are_any n)

        runs : RunsIn z d.S.size d.S.fuel (facts d.S.around w) own st other
        runs = record {
          many = many;
          limit = h.shows.limit ∙ sym h.shows.limited;
          ticks = h.shows.ticks;
          within = omega (arith, h.shows.within, h.shows.limited);
          begun = h.shows.begun;
          printed = h.shows.printed;
          ends = h.shows.ends;
          free = h.shows.free;
          unmet = h.shows.unmet;
          marked = h.shows.marked;
          held = h.shows.held;
          can = h.shows.can;
          ranged = h.shows.ranged;
          low = h.shows.low;
          tall = omega (arith, h.shows.top, h.shows.tall);
          keeps = h.shows.keeps.outer;
        }

        own_from : (b : Bool)
            → AllByRecursion (StandsFrom (z + value_cell d.S.lowest)) (own_marks d b)
        own_from true = (omega (arith, d.lowest, mark_is d), tt)
        own_from false = tt

        -- behind a cut of its world the loop goes on
        module _ (c : ℕ) (u : machine.State) (gone : GoesBack code other u)
            (near : Near z d.S.may d.S.lowest state.stack u.stack)
            (runs_u : RunsIn z d.S.size d.S.fuel (facts d.S.around (d.S.cut w c st.output)) own st u)
          where
            abbrev cut_world : Piece d.S.World
            cut_world = Host (d.S.cut w c st.output)

            -- the cells of the variables, and those behind them, are as they were
            cell_kept : (x : ℕ)
                → word_at u.stack (pos (z + value_cell x))
                ≡ word_at state.stack (pos (z + value_cell x))
            cell_kept x = by_level (cases_lt x d.S.lowest)
              where
                by_level : (x < d.S.lowest) ⊎ (d.S.lowest ≤ x)
                    → word_at u.stack (pos (z + value_cell x))
                    ≡ word_at state.stack (pos (z + value_cell x))
                by_level (inl below) = near.vars x below
                by_level (inr above) = near.above (z + value_cell x) (omega (arith, above))

            shows_cut : ShowsIn code heartbeat z act d.fuel (between d (are_any n) m j) cut_world
                d.q.names st u
            shows_cut = record {
              size = gone.size;
              base = gone.base ∙ (base_kept ∙ h.shows.base);
              limit = runs_u.limit ∙ h.shows.limited;
              limited = h.shows.limited;
              tall = h.shows.tall;
              ticks = runs_u.ticks;
              within = h.shows.within;
              begun = runs_u.begun;
              printed = runs_u.printed;
              ends = runs_u.ends;
              free = runs_u.free;
              unmet = runs_u.unmet;
              marked = runs_u.marked;
              named = h.shows.named;
              few = h.shows.few;
              tabled = h.shows.tabled;
              held = runs_u.held;
              can = runs_u.can;
              ranged = h.shows.ranged;
              levels = near.levels ∙ h.shows.levels;
              unmarked =
                  ap (λ (ms : List Mark). is_marked_from ms (z + act.size)) runs_u.marked
                  ∙ clear_above (marks_of d (are_any n) cut_world) (z + value_cell (suc level))
                  (z + act.size) (omega (arith, d.space, d.q.fits)) (clear_of d (are_any n) cut_world);
              top = near.top ∙ h.shows.top;
              low = near.low;
              room = omega (arith, near.top, h.shows.room);
              vars = held_same state.stack u.stack z 0 st.vars (λ x low high. cell_kept x)
                  h.shows.vars;
              keeps = record {
                outer = runs_u.keeps;
                rec = near.own d.q.site.rec d.free_rec ∙ h.shows.keeps.rec;
                cursor = near.own d.q.site.cursor d.free_cursor ∙ h.shows.keeps.cursor;
                bound = near.above (z + d.q.site.bound) (omega (arith, bound_is d, d.lowest))
                    ∙ h.shows.keeps.bound;
              };
            }

            ahead_cut : IsAhead d n m j cut_world st u
            ahead_cut = record {
              shows = shows_cut;
              enough = tt;
              far = h.far;
              in_m = h.in_m;
              in_j = h.in_j;
              short = h.short;
            }

        -- what is owed where the mark of another loop, or of a pair of calls, is the oldest
        outer_handles : (d.S.diverted w (then (next_result d n m st) d.k)).Holds other
        outer_handles =
            d.S.handles d.opened w own (then (next_result d n m st) d.k) st other outer
            (own_from (are_any n)) is_turned runs
            (λ u gone uncut. goes_on n owed m j (Host w) u gone (uncut_ahead (Host w) h u gone uncut))
            (λ c u gone near runs_u.
            goes_on n owed m j (Host (d.S.cut w c st.output)) u gone (ahead_cut c u gone near runs_u))

  -- ---- the iterations that aren't begun are cut

  module _ (joins : JoinsLoop code heartbeat d.q.site) (over_owed : OverOwed d) (n : ℕ) (m j : ℤ)
      (i : Piece d.S.World) (st : meaning.State) (state : machine.State)
      (h : IsAhead d (suc n) m j i st state)
      (oldest : marks_of d true i ≡ loop_mark d.q.site z ∷ [])
      (beats : is_diverted heartbeat (has_mark state.stack) true (advanced state).beat ≡ true)
      (nexts : (c : ℕ) → c ≤ n → NextOwed d c) (same : NextOwed d (suc n))
      (turns : (c : ℕ) → c ≤ n → FirstOwed d c) where
    abbrev turned_task : machine.State
    turned_task = other (suc n) m j st state h.shows.size beats

    abbrev half : Halved n (m +ℤ pos 0) j
    half = halved n (m +ℤ pos 0) j (omega (arith, ints, h.far))

    abbrev split : IsSplit d i [] turned_task
    split = record {
      start = st;
      st = st;
      first = m;
      begun = 0;
      to = j;
      n = n;
      below = half.lower;
      above = half.upper;
      far = omega (arith, ints, h.far);
      all = half.all;
      cuts = half.cut ∙ ap Some (omega (arith, ints, half.is));
      short = h.short;
      in_first = h.in_m;
      in_to = h.in_j;
      named = h.shows.named;
      tabled = h.shows.tabled;
      ranged = record {
        vars = held_in_range state.stack z 0 st.vars h.shows.vars;
        tables = h.shows.ranged;
      };
      within = h.shows.within;
      turned = is_turned (suc n) m j st state h.shows.size beats;
      size = many (suc n) m j st state h.shows.size beats;
      limit = h.shows.limit;
      begins = h.shows.begun;
      free = h.shows.free;
      unmet = h.shows.unmet;
      ends = h.shows.ends;
      oldest = oldest;
      marked = h.shows.marked ∙ oldest;
      high = tt;
      low = h.shows.low;
      tall = omega (arith, h.shows.top);
      printed = h.shows.printed;
      held = h.shows.held;
      now_ranged = h.shows.ranged;
      now_tabled = h.shows.tabled;
      can = h.shows.can;
      differ = changed_refl _ st.tables;
      outer = h.shows.keeps.outer;
      levels = h.shows.levels;
      rec = h.shows.keeps.rec;
      cursor = h.shows.keeps.cursor ∙ ap (λ (e : ℤ). Some (word.Int e)) (omega (arith, ints));
      bound = h.shows.keeps.bound;
      fixed = held_fixed d.q.loop.reduces.items state.stack z 0 st.vars h.shows.vars;
      enough = h.enough;
    }

    abbrev cut_at : ℤ
    cut_at = middle d i [] turned_task split

    serves_left : Serves d.q.modes d.q.loop st.vars m cut_at
        (left_region st.vars cut_at d.q.loop.carries.items (region_of d i))
    serves_left =
        left_serves d.q.modes d.q.loop st.vars m j (region_of d i) (serves d i [] turned_task split)
        cut_at (omega (arith, ints, h.far, half.all))

    module _ (c : ℕ) (words : List Word) (beat : BeatState)
        (keeps : KeepsPlace turned_task words beat) where
      abbrev left : machine.State
      left = cuts.left d i [] turned_task split c words beat

      abbrev left_piece : Piece d.S.World
      left_piece = Apart (lower_part d i [] turned_task split c)

      same_cell : (off : ℕ) → off ≢ d.q.site.rec → off ≢ d.q.site.bound
          → word_at left.stack (pos (z + off)) ≡ word_at state.stack (pos (z + off))
      same_cell off not_rec not_bound =
          cuts.left_other d i [] turned_task split c words beat (z + off) (omega arith)
          (λ e. not_rec (omega (arith, e))) (λ e. not_bound (omega (arith, e)))

      marks_there : left.stack.marks ≡ own_marks d (are_any half.lower)
      marks_there =
          cuts.left_marks d i [] turned_task split c words beat
          ∙ append-nil (own_marks d (are_any half.lower))

      top_there : left.stack.base + length left.stack.cells ≡ z + act.size
      top_there = cuts.left_top d i [] turned_task split c words beat ∙ h.shows.top

      shows_left : ShowsIn code heartbeat z act d.fuel (between d (are_any half.lower) m cut_at)
          left_piece d.q.names st left
      shows_left = record {
        size = keeps.size;
        base = keeps.high 31 (omega arith)
            ∙ (base_kept (suc n) m j st state h.shows.size beats ∙ h.shows.base);
        limit = h.shows.limit;
        limited = h.shows.limited;
        tall = h.shows.tall;
        ticks = h.shows.ticks;
        within = h.shows.within;
        begun = omega arith;
        printed = sym (append-nil st.output);
        ends = refl;
        free = refl;
        unmet = refl;
        marked = marks_there;
        named = h.shows.named;
        few = h.shows.few;
        tabled = h.shows.tabled;
        held = cuts.left_held d i [] turned_task split c words beat;
        can = tt;
        ranged = h.shows.ranged;
        levels = same_cell levels_cell (λ e. absurd (omega (arith, e, rec_is d)))
            (λ e. absurd (omega (arith, e, bound_is d))) ∙ h.shows.levels;
        unmarked =
            ap (λ (ms : List Mark). is_marked_from ms (z + act.size)) marks_there
            ∙ clear_above (own_marks d (are_any half.lower)) (z + value_cell (suc level))
            (z + act.size) (omega (arith, d.space, d.q.fits))
            (clear_of d (are_any half.lower) left_piece);
        top = top_there;
        low = omega (arith, cuts.left_base d i [] turned_task split c words beat);
        room = omega (arith, top_there, d.space);
        vars = held_same state.stack left.stack z 0 st.vars
            (λ x low high. same_cell (value_cell x)
            (λ e. absurd (omega (arith, e, rec_is d, d.q.nested)))
            (λ e. absurd (omega (arith, e, bound_is d, high, many_vars)))) h.shows.vars;
        keeps = record {
          outer = tt;
          rec = cuts.left_rec d i [] turned_task split c words beat;
          cursor = same_cell d.q.site.cursor
              (λ e. absurd (omega (arith, e, rec_is d, cursor_is d)))
              (λ e. absurd (omega (arith, e, bound_is d, cursor_is d, d.q.nested)))
              ∙ h.shows.keeps.cursor;
          bound = cuts.left_bound d i [] turned_task split c words beat;
        };
      }
        where
          many_vars : length st.vars ≡ level
          many_vars = as_many st.vars d.q.names h.shows.named

      ahead_left : IsAhead d half.lower m cut_at left_piece st left
      ahead_left = record {
        shows = shows_left;
        enough = serves_left;
        far = omega (arith, ints);
        in_m = h.in_m;
        in_j = omega (arith, ints, h.in_m, h.in_j, h.far, half.all);
        short = omega (arith, h.short, half.all);
      }

    left_covered : AllByRecursion
        (Covers (left_region st.vars cut_at d.q.loop.carries.items (region_of d i)))
        (next_result d half.lower m st).notes
    left_covered =
        covered d.p d.q.modes d.q.loop d.fuel d.room (Chance ∷ []) [] half.lower m cut_at st
        (left_region st.vars cut_at d.q.loop.carries.items (region_of d i))
        (rules d i [] turned_task split) serves_left (tt, tt) tt (omega (arith, ints))

    left_owed : LeftOwed d i [] turned_task split
    left_owed c words beat keeps can =
        subst (λ (below : ℕ). Bound code heartbeat false 0 (left c words beat keeps)
        (apart_ending d (lower_part d i [] turned_task split c) (next_result d below m st).end))
        (let same : half.lower ≡ 0 + half.lower = omega arith in same)
        (goes_on (suc n) m j st state h.shows.size beats half.lower
        (nexts half.lower (omega (arith, half.all))) m cut_at (left_piece c words beat keeps)
        (left c words beat keeps) (cuts.left_gone d i [] turned_task split c words beat keeps)
        (ahead_left c words beat keeps) left_covered can)

    own_handles : ((pieces d).diverted i (next_result d (suc n) m st)).Holds turned_task
    own_handles =
        split_owed d i [] turned_task split joins (turns half.upper (omega (arith, half.all)))
        over_owed left_owed (next_result d (suc n) m st) [] whole_is
        (λ u gone uncut.
        goes_on (suc n) m j st state h.shows.size beats (suc n) same m j i u gone
        (uncut_ahead (suc n) m j st state h.shows.size beats i h u gone uncut))
      where
        whole_is : next_result d (suc n) m st
            ≡ result (iterate d.fuel (variable d) (body d) (Chance ∷ []) []
            ((0 + half.lower) + suc half.upper) m st)
        whole_is =
            ap (λ (c : ℕ). next_result d c m st)
            (let all_there : suc n ≡ (0 + half.lower) + suc half.upper = omega (arith, half.all) in
            all_there)

  -- ---- all

  module _ (joins : JoinsLoop code heartbeat d.q.site) (over_owed : OverOwed d) where
    -- where no mark stands no beat diverts
    no_beat : (i : Piece d.S.World) (state : machine.State) → marks_of d false i ≡ []
        → state.stack.marks ≡ marks_of d false i
        → is_diverted heartbeat (has_mark state.stack) true (advanced state).beat ≡ true → ⊥
    no_beat i state none marked beats =
        let stands : has_mark state.stack ≡ true =
        mark_stands heartbeat (has_mark state.stack) (advanced state).beat beats in
        let wrong : false ≡ true = rw (marked, none) at stands in
        true≢false (sym wrong)

    -- where the loop's own mark is the oldest, if it stands
    own_diverted : (n : ℕ) → ((c : ℕ) → c ≤ n → NextOwed d c)
        → ((c : ℕ) → c < n → FirstOwed d c) → (m j : ℤ) (i : Piece d.S.World)
        (st : meaning.State) (task : machine.State) → marks_of d false i ≡ []
        → marks_of d true i ≡ loop_mark d.q.site z ∷ [] → IsAhead d n m j i st task
        → is_diverted heartbeat (has_mark task.stack) true (advanced task).beat ≡ true
        → ((pieces d).diverted i (next_result d n m st)).Holds
        (diverted_to heartbeat d.q.head d.S.dispatch task)
    own_diverted zero nexts turns m j i st task none oldest h beats =
        absurd (no_beat i task none h.shows.marked beats)
    own_diverted (suc n) nexts turns m j i st task none oldest h beats =
        own_handles joins over_owed n m j i st task h oldest beats
        (λ c few. nexts c (omega (arith, few))) (nexts (suc n) (omega arith))
        (λ c few. turns c (omega (arith, few)))

    pub diverted_owed : (n : ℕ) → ((c : ℕ) → c ≤ n → NextOwed d c)
        → ((c : ℕ) → c < n → FirstOwed d c) → DivertedOwed d n
    diverted_owed n nexts turns m j (Apart part) st task h beats =
        own_diverted n nexts turns m j (Apart part) st task refl refl h beats
    diverted_owed n nexts turns m j (Host w) st task h beats = by_marks (d.S.marks w) refl
      where
        by_marks : (marks : List Mark) → d.S.marks w ≡ marks
            → ((pieces d).diverted (Host w) (next_result d n m st)).Holds
            (diverted_to heartbeat d.q.head d.S.dispatch task)
        by_marks [] none =
            own_diverted n nexts turns m j (Host w) st task (rw none refl) (rw none refl) h beats
        by_marks (o ∷ os) some =
            outer_handles n m j st task h.shows.size beats w h
            (λ none. let wrong : [] ≡ o ∷ os = sym none ∙ some in cc) (nexts n (omega arith))
