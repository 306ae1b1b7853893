-- A handler in the middle of an iteration of a `par`: what goes on round the loop is cut, or the
-- loop's own iterations that aren't begun are.
use Rattle.std.proofs.Common.{◌≡◌, ◌≢◌, ◌⊎◌, inl, inr, ℕ, zero, suc, ◌+◌, ◌<◌, ◌≤◌, Bool, true}
use Rattle.std.proofs.Common.{false, List}
use Rattle.std.proofs.Common.{[], ◌∷◌, ◌++◌, append-nil, append_assoc, length, Some, refl, sym, ap}
use Rattle.std.proofs.Common.{subst, ◌∙◌, arith}
use Rattle.std.specs.Prelude.{pos, ◌+ℤ◌}
use Rattle.std.specs.List.{AllByRecursion}
use Rattle.std.proofs.lemmas.Int.{ints}
use Rattle.std.proofs.lemmas.Bool.{cases_lt}
use Rattle.beat_count.specs.BeatState.{BeatState}
use Rattle.stack_marks.specs.declared.mark.Mark.{Mark}
use Rattle.stack_marks.specs.Stacks.{word_at}
use Rattle.loop_meaning.specs.State as meaning
use Rattle.loop_meaning.specs.State.{Chance}
use Rattle.loop_meaning.specs.Statements.{iterate}
use Rattle.tpal_syntax.specs.declared.words.Word.{Word}
use Rattle.tpal_syntax.specs.Listing.{Listing}
use Rattle.tpal_machine.specs.declared.ends.Ending.{Ending}
use Rattle.tpal_machine.specs.Owes.{Bound}
use Rattle.tpal_machine.specs.State as machine
use Rattle.frame_machine.specs.Lawful.{modes_in}
use Rattle.frame_machine.specs.Parts.{Below, Written}
use Rattle.handler_gen.specs.Halves.{KeepsPlace}
use Rattle.handler_gen.specs.LoopCuts.{loop_mark}
use Rattle.join_gen.specs.LoopJoins.{JoinsLoop}
use Rattle.scene_laws.specs.Layout.{Activation, levels_cell, value_cell}
use Rattle.scene_laws.proofs.Scenes.Activations.{StandsFrom, marks_from}
use Rattle.scene_laws.proofs.Scenes.Changing.{changed_more}
use Rattle.scene_laws.proofs.Cuts.CutGaps.{Halved}
use Rattle.par_laws.proofs.DeepPars.DeepCuts as cuts
use Rattle.par_laws.proofs.DeepPars.DeepCuts.{LeftOwed, lower, split_owed}
use Rattle.par_laws.proofs.DeepPars.DeepRunning.{Handles, IsRestOf, MayRunning, Running, are_any}
use Rattle.par_laws.proofs.DeepPars.DeepRunning.{around_running, cut_left, cut_running, follows}
use Rattle.par_laws.proofs.DeepPars.DeepRunning.{half_of}
use Rattle.par_laws.proofs.DeepPars.DeepRunning.{halve}
use Rattle.par_laws.proofs.DeepPars.DeepRunning.{later_of, left_part, own_written, running_of}
use Rattle.par_laws.proofs.DeepPars.DeepRunning.{running_promise}
use Rattle.par_laws.proofs.DeepPars.DeepScenes.{Deep, FirstOwed, OverOwed, body, bound_is}
use Rattle.par_laws.proofs.DeepPars.DeepScenes.{cursor_is}
use Rattle.par_laws.proofs.DeepPars.DeepScenes.{mark_is, marks_of, own_marks, pieces, rec_is}
use Rattle.par_laws.proofs.DeepPars.DeepScenes.{region_of}
use Rattle.par_laws.proofs.DeepPars.DeepScenes.{apart_ending, since_of, variable}
use Rattle.par_laws.proofs.DeepPars.DeepSides.{IsSplit, lower_part, middle, rules, serves}
use Rattle.par_laws.proofs.DeepPars.DeepSides.{written_more}
use Rattle.scene_laws.proofs.Scenes.Fixed.{fixed_same}
use Rattle.scene_laws.proofs.Merges.JoinsModes.{Serves, covered, left_serves}
use Rattle.scene_laws.proofs.Counts.Lists.{all_behind, all_both}
use Rattle.scene_laws.proofs.Scenes.Pieces.{Apart, Host, Piece}
use Rattle.scene_laws.proofs.Scenes.Regions.{Covers}
use Rattle.scene_laws.proofs.Scenes.Results.{End, Fin, Out, Result, noting, noting_then, result}
use Rattle.scene_laws.proofs.Scenes.Results.{then}
use Rattle.scene_laws.proofs.Scenes.Scene.{GoesBack, IsDiverted, IsUncut, Near, RunsIn, facts}
use Rattle.scene_laws.proofs.Cuts.Sides.{Part, left_region}
use Rattle.par_laws.proofs.QuietPars.Turned.{after_result}

module _ {code : Listing} {heartbeat z : ℕ} {act : Activation} (d : Deep code heartbeat z act)
    (N : ℕ) where
  abbrev level : ℕ
  level = length d.q.names

  -- what a side ends with doesn't depend on when it began
  ending_since : (part : Part) (since : ℕ) (e : End)
      → apart_ending d (record part { since = since }) e ≡ apart_ending d part e
  ending_since part since (Fin s) = refl
  ending_since part since (Out stop ticks output) = refl

  -- the rest of the running iteration, and the later ones, are the rest of all from its first state
  -- on
  all_of : (v : Running d N) (r : Result) (m : ℕ) → m ≡ suc v.more → (rest : IsRestOf d v r)
      → noting rest.0 (then r (follows d v))
      ≡ result (iterate d.fuel (variable d) (body d) (Chance ∷ []) [] m v.from v.start)
  unfolding iterate
  all_of v r m is rest =
      sym (noting_then rest.0 r (follows d v))
      ∙ (ap (λ (q : Result). then q (follows d v)) rest.1
      ∙ (sym (after_result (running_of d v) (later_of d v))
      ∙ ap (λ (n : ℕ). result (iterate d.fuel (variable d) (body d) (Chance ∷ []) [] n v.from
      v.start)) (sym is)))

  -- what is asked for one world
  abbrev HandlesAt : Running d N → Type 0
  HandlesAt v =
      (more : List Mark) (r : Result) (st : meaning.State) (state : machine.State)
      → (marks_of d (are_any v.more) v.piece ≡ [] → ⊥)
      → AllByRecursion (StandsFrom (z + value_cell (suc level))) more
      → IsDiverted d.S.dispatch state
      → RunsIn z act.size d.S.fuel (facts (around_running d N) v) more st state
      → ((u : machine.State) → GoesBack code state u → IsUncut state u
      → ((running_promise d N).owing v r).Holds u)
      → ((c : ℕ) (u : machine.State) → GoesBack code state u
      → Near z (MayRunning d) (suc level) state.stack u.stack
      → RunsIn z act.size d.S.fuel (facts (around_running d N) (cut_running d v c st.output)) more
      st
      u → ((running_promise d N).owing (cut_running d v c st.output) r).Holds u)
      → ((running_promise d N).diverted v r).Holds state

  -- ---- what goes on round the loop is cut

  module _ (v : Running d N) (w : d.S.World) (at_host : v.piece ≡ Host w)
      (outer : d.S.marks w ≡ [] → ⊥) (begins : d.S.since w ≤ v.start.ticks) (more : List Mark)
      (r : Result) (st : meaning.State) (state : machine.State)
      (high : AllByRecursion (StandsFrom (z + value_cell (suc level))) more)
      (turned : IsDiverted d.S.dispatch state) where
    abbrev host : Running d N
    host = record v { piece = Host w; begins = begins }

    abbrev cut_world : ℕ → Running d N
    cut_world c = record v {
      piece = Host (d.S.cut w c st.output);
      begins = omega (arith, d.early w c st.output, begins);
    }

    all_marks : List Mark
    all_marks = own_marks d (are_any v.more) ++ more

    module _ (runs : RunsIn z act.size d.S.fuel (facts (around_running d N) host) more st state)
      where
        runs_outer : RunsIn z d.S.size d.S.fuel (facts d.S.around w) all_marks st state
        unfolding all_marks
        runs_outer = record {
          many = runs.many;
          limit = runs.limit;
          ticks = runs.ticks;
          within = runs.within;
          begun = runs.begun;
          printed = runs.printed;
          ends = runs.ends;
          free = runs.free;
          unmet = runs.unmet;
          marked = runs.marked
              ∙ append_assoc (d.S.marks w) (own_marks d (are_any v.more)) more;
          held = runs.held;
          can = runs.can.0;
          ranged = runs.ranged;
          low = runs.low;
          tall = omega (arith, runs.tall, d.tall);
          keeps = runs.keeps.outer;
        }

        own_high : (b : Bool)
            → AllByRecursion (StandsFrom (z + value_cell d.S.lowest)) (own_marks d b)
        own_high true = (omega (arith, d.lowest, mark_is d), tt)
        own_high false = tt

        all_high : AllByRecursion (StandsFrom (z + value_cell d.S.lowest)) all_marks
        unfolding all_marks
        all_high =
            all_both (StandsFrom (z + value_cell d.S.lowest)) (own_marks d (are_any v.more)) more
            (own_high (are_any v.more))
            (marks_from more (z + value_cell d.S.lowest) (z + value_cell (suc level))
            (omega (arith, d.lowest)) high)

        -- behind a cut of its world the iteration goes on
        module _ (c : ℕ) (u : machine.State)
            (near : Near z d.S.may d.S.lowest state.stack u.stack)
            (runs_u : RunsIn z d.S.size d.S.fuel (facts d.S.around (d.S.cut w c st.output)) all_marks
            st u) where
          cell_kept : (x : ℕ)
              → word_at u.stack (pos (z + value_cell x))
              ≡ word_at state.stack (pos (z + value_cell x))
          cell_kept x = by_level (cases_lt x d.S.lowest)
            where
              by_level : (x < d.S.lowest) ⊎ (d.S.lowest ≤ x)
                  → word_at u.stack (pos (z + value_cell x))
                  ≡ word_at state.stack (pos (z + value_cell x))
              by_level (inl below) = near.vars x below
              by_level (inr above) = near.above (z + value_cell x) (omega (arith, above))

          near_inner : Near z (MayRunning d) (suc level) state.stack u.stack
          near_inner = record {
            low = near.low;
            top = near.top;
            levels = near.levels;
            vars = λ x below. cell_kept x;
            own = λ a may. near.own a may.may;
            above = λ a from. near.above a (omega (arith, from, d.lowest));
          }

          runs_inner : RunsIn z act.size d.S.fuel (facts (around_running d N) (cut_world c)) more st u
          unfolding all_marks
          runs_inner = record {
            many = runs_u.many;
            limit = runs_u.limit;
            ticks = runs_u.ticks;
            within = runs_u.within;
            begun = runs_u.begun;
            printed = runs_u.printed;
            ends = runs_u.ends;
            free = runs_u.free;
            unmet = runs_u.unmet;
            marked = runs_u.marked
                ∙ sym (append_assoc (d.S.marks (d.S.cut w c st.output))
                (own_marks d (are_any v.more)) more);
            held = runs_u.held;
            can = (runs_u.can, runs.can.1);
            ranged = runs_u.ranged;
            low = runs_u.low;
            tall = omega (arith, near.top, runs.tall);
            keeps = record {
              outer = runs_u.keeps;
              levels = near.levels ∙ runs.keeps.levels;
              rec = near.own d.q.site.rec d.free_rec ∙ runs.keeps.rec;
              cursor = near.own d.q.site.cursor d.free_cursor ∙ runs.keeps.cursor;
              bound = near.above (z + d.q.site.bound) (omega (arith, bound_is d, d.lowest))
                  ∙ runs.keeps.bound;
              next = cell_kept level ∙ runs.keeps.next;
              fixed = fixed_same d.q.loop.reduces.items state.stack u.stack z 0 v.start.vars
                  (λ x below others. cell_kept x) runs.keeps.fixed;
              enough = tt;
            };
          }

        outer_handles : ((u : machine.State) → GoesBack code state u → IsUncut state u
            → ((running_promise d N).owing host r).Holds u)
            → ((c : ℕ) (u : machine.State) → GoesBack code state u
            → Near z (MayRunning d) (suc level) state.stack u.stack
            → RunsIn z act.size d.S.fuel (facts (around_running d N) (cut_world c)) more st u
            → ((running_promise d N).owing (cut_world c) r).Holds u)
            → ((running_promise d N).diverted host r).Holds state
        outer_handles back cut rest =
            d.S.handles d.opened w all_marks (then (then r (follows d v)) d.k) st state outer all_high
            turned runs_outer (λ u gone uncut. back u gone uncut rest)
            (λ c u gone near runs_u.
            cut c u gone (near_inner c u near runs_u) (runs_inner c u near runs_u) rest)

  -- ---- the iterations that aren't begun are cut

  module _ (joins : JoinsLoop code heartbeat d.q.site) (turns : (c : ℕ) → c < N → FirstOwed d c)
      (over_owed : OverOwed d) where
    module _ (v : Running d N) (n : ℕ) (is : v.more ≡ suc n)
        (oldest : marks_of d true v.piece ≡ loop_mark d.q.site z ∷ []) (more : List Mark)
        (r : Result) (st : meaning.State) (state : machine.State)
        (high : AllByRecursion (StandsFrom (z + value_cell (suc level))) more)
        (turned : IsDiverted d.S.dispatch state)
        (runs : RunsIn z act.size d.S.fuel (facts (around_running d N) v) more st state) where
      abbrev half : Halved n (v.from +ℤ pos 1) v.to
      half = half_of d v n is

      abbrev split : IsSplit d v.piece more state
      split = record {
        start = v.start;
        st = st;
        first = v.from;
        begun = 1;
        to = v.to;
        n = n;
        below = half.lower;
        above = half.upper;
        far = v.far ∙ ap (λ (m : ℕ). (v.from +ℤ pos 1) +ℤ pos m) is;
        all = half.all;
        cuts = half.cut ∙ ap Some (omega (arith, ints, half.is));
        short = omega (arith, v.short, is);
        in_first = v.in_from;
        in_to = v.in_to;
        named = v.named;
        tabled = v.tabled;
        ranged = v.ranged;
        within = v.within;
        turned = turned;
        size = runs.many;
        limit = runs.limit ∙ d.limited;
        begins = v.begins;
        free = runs.free;
        unmet = runs.unmet;
        ends = runs.ends;
        oldest = oldest;
        marked = runs.marked
            ∙ (ap (λ (m : ℕ). marks_of d (are_any m) v.piece ++ more) is
            ∙ ap (λ (ms : List Mark). ms ++ more) oldest);
        high = marks_from more z (z + value_cell (suc level)) (omega arith) high;
        low = runs.low;
        tall = runs.tall;
        printed = runs.printed;
        held = runs.held;
        now_ranged = runs.ranged;
        now_tabled = runs.can.1.named ∙ v.tabled;
        can = runs.can.0;
        differ = changed_more (own_written d v) (Written (Below (v.from +ℤ pos 1)) v.start.vars
            (modes_in d.q.modes d.q.loop)) v.start.tables st.tables
            (λ t a b written.
            written_more (λ m. m ≡ v.from) (Below (v.from +ℤ pos 1))
            (λ m same. omega (arith, ints, same)) v.start.vars (modes_in d.q.modes d.q.loop t) a b
            written) runs.can.1;
        outer = runs.keeps.outer;
        levels = runs.keeps.levels;
        rec = runs.keeps.rec;
        cursor = runs.keeps.cursor;
        bound = runs.keeps.bound;
        fixed = runs.keeps.fixed;
        enough = runs.keeps.enough;
      }

      -- the world of the left
      abbrev left_world : ℕ → Running d N
      left_world c = halve d v n is c st.output

      serves_left : Serves d.q.modes d.q.loop v.start.vars v.from
          (middle d v.piece more state split)
          (left_region v.start.vars (middle d v.piece more state split) d.q.loop.carries.items
          (region_of d v.piece))
      serves_left =
          left_serves d.q.modes d.q.loop v.start.vars v.from v.to (region_of d v.piece)
          (serves d v.piece more state split) (middle d v.piece more state split)
          (omega (arith, ints, v.far, is, half.all))

      module _ (c : ℕ) (words : List Word) (beat : BeatState)
          (keeps : KeepsPlace state words beat) where
        abbrev left : machine.State
        left = cuts.left d v.piece more state split c words beat

        same_cell : (off : ℕ) → off ≢ d.q.site.rec → off ≢ d.q.site.bound
            → word_at left.stack (pos (z + off)) ≡ word_at state.stack (pos (z + off))
        same_cell off not_rec not_bound =
            cuts.left_other d v.piece more state split c words beat (z + off) (omega arith)
            (λ e. not_rec (omega (arith, e))) (λ e. not_bound (omega (arith, e)))

        runs_left : RunsIn z act.size d.S.fuel (facts (around_running d N) (left_world c)) more st
            left
        runs_left = record {
          many = keeps.size;
          limit = runs.limit;
          ticks = runs.ticks;
          within = runs.within;
          begun = runs.begun;
          printed = sym (append-nil st.output);
          ends = refl;
          free = refl;
          unmet = refl;
          marked = cuts.left_marks d v.piece more state split c words beat;
          held = cuts.left_held d v.piece more state split c words beat;
          can = (tt, runs.can.1);
          ranged = runs.ranged;
          low = omega (arith, cuts.left_base d v.piece more state split c words beat);
          tall = omega (arith, cuts.left_top d v.piece more state split c words beat, runs.tall);
          keeps = record {
            outer = tt;
            levels = same_cell levels_cell (λ e. absurd (omega (arith, e, rec_is d)))
                (λ e. absurd (omega (arith, e, bound_is d))) ∙ runs.keeps.levels;
            rec = cuts.left_rec d v.piece more state split c words beat;
            cursor = same_cell d.q.site.cursor
                (λ e. absurd (omega (arith, e, rec_is d, cursor_is d)))
                (λ e. absurd (omega (arith, e, bound_is d, cursor_is d, d.q.nested)))
                ∙ runs.keeps.cursor;
            bound = cuts.left_bound d v.piece more state split c words beat;
            next = same_cell (value_cell level)
                (λ e. absurd (omega (arith, e, rec_is d, d.q.nested)))
                (λ e. absurd (omega (arith, e, bound_is d))) ∙ runs.keeps.next;
            fixed = fixed_same d.q.loop.reduces.items state.stack left.stack z 0 v.start.vars
                (λ x below others. same_cell (value_cell x)
                (λ e. absurd (omega (arith, e, rec_is d, d.q.nested)))
                (λ e. absurd (omega (arith, e, bound_is d)))) runs.keeps.fixed;
            enough = serves_left;
          };
        }

      module _ (cut : (c : ℕ) (u : machine.State) → GoesBack code state u
          → Near z (MayRunning d) (suc level) state.stack u.stack
          → RunsIn z act.size d.S.fuel (facts (around_running d N) (left_world c)) more st u
          → ((running_promise d N).owing (left_world c) r).Holds u) (rest : IsRestOf d v r) where
        -- what the left gives is the rest of the lower iterations
        lower_rest : (c : ℕ) → noting rest.0 (then r (follows d (left_world c)))
            ≡ result (lower d v.piece more state split)
        lower_rest c = all_of (left_world c) r (1 + half.lower) (omega arith) rest

        lower_covered : (c : ℕ) → AllByRecursion
            (Covers (left_region v.start.vars (middle d v.piece more state split)
            d.q.loop.carries.items (region_of d v.piece)))
            (then r (follows d (left_world c))).notes
        lower_covered c =
            all_behind (Covers (left_region v.start.vars (middle d v.piece more state split)
            d.q.loop.carries.items (region_of d v.piece))) rest.0
            (then r (follows d (left_world c))).notes
            (subst (λ (q : Result). AllByRecursion
            (Covers (left_region v.start.vars (middle d v.piece more state split)
            d.q.loop.carries.items (region_of d v.piece))) q.notes) (sym (lower_rest c))
            (covered d.p d.q.modes d.q.loop d.fuel d.room (Chance ∷ []) [] (1 + half.lower) v.from
            (middle d v.piece more state split) v.start
            (left_region v.start.vars (middle d v.piece more state split) d.q.loop.carries.items
            (region_of d v.piece)) (rules d v.piece more state split) serves_left (tt, tt) tt
            (omega (arith, ints))))

        left_owed : LeftOwed d v.piece more state split
        left_owed c words beat keeps can =
            subst (λ (e : Ending). Bound code heartbeat false 0 (left c words beat keeps) e) same
            (cut c (left c words beat keeps)
            (cuts.left_gone d v.piece more state split c words beat keeps)
            (cuts.left_near d v.piece more state split c words beat)
            (runs_left c words beat keeps) rest (lower_covered c) can)
          where
            same : apart_ending d
                (left_part d v (middle d v.piece more state split) c st.output)
                (then r (follows d (left_world c))).end
                ≡ apart_ending d (lower_part d v.piece more state split c)
                (result (lower d v.piece more state split)).end
            same =
                ending_since (lower_part d v.piece more state split c) (since_of d v.piece)
                (then r (follows d (left_world c))).end
                ∙ ap (λ (q : Result).
                apart_ending d (lower_part d v.piece more state split c) q.end)
                (lower_rest c)

        own_handles : ((u : machine.State) → GoesBack code state u → IsUncut state u
            → ((running_promise d N).owing v r).Holds u)
            → ((pieces d).diverted v.piece (then r (follows d v))).Holds state
        own_handles back =
            split_owed d v.piece more state split joins
            (turns half.upper (omega (arith, half.all, is, v.few))) over_owed left_owed
            (then r (follows d v)) rest.0
            (all_of v r ((1 + half.lower) + suc half.upper) (omega (arith, is, half.all)) rest)
            (λ u gone uncut. back u gone uncut rest)

    -- ---- all worlds

    none_left : (i : Piece d.S.World) (m : ℕ) → m ≡ zero → marks_of d false i ≡ []
        → marks_of d (are_any m) i ≡ []
    none_left i m is none_there = rw is none_there

    -- a loop whose own mark is the oldest
    for_own : (v : Running d N) → marks_of d false v.piece ≡ []
        → marks_of d true v.piece ≡ loop_mark d.q.site z ∷ []
        → ((c : ℕ) (printed : List ℕ)
        → cut_running d v c printed ≡ cut_left d v v.more refl c printed)
        → HandlesAt v
    for_own v none_other oldest cut_is more r st state some high turned runs back cut known =
        by_more v.more refl
        (λ c u gone near runs_u.
        subst (λ (o : Running d N).
        RunsIn z act.size d.S.fuel (facts (around_running d N) o) more st u
        → ((running_promise d N).owing o r).Holds u) (cut_is c st.output) (cut c u gone near)
        runs_u)
      where
        by_more : (m : ℕ) (is : v.more ≡ m)
            → ((c : ℕ) (u : machine.State) → GoesBack code state u
            → Near z (MayRunning d) (suc level) state.stack u.stack
            → RunsIn z act.size d.S.fuel
            (facts (around_running d N) (cut_left d v m is c st.output)) more
            st u → ((running_promise d N).owing (cut_left d v m is c st.output) r).Holds u)
            → ((pieces d).diverted v.piece (then r (follows d v))).Holds state
        by_more zero is cut_here = absurd (some (none_left v.piece v.more is none_other))
        by_more (suc n) is cut_here =
            own_handles v n is oldest more r st state high turned runs cut_here known back

    -- a host, by the marks of its world
    for_host : (v : Running d N) (w : d.S.World) (begins : d.S.since w ≤ v.start.ticks)
        → HandlesAt (record v { piece = Host w; begins = begins })
    for_host v w begins = by_marks (d.S.marks w) refl
      where
        by_marks : (ms : List Mark) → d.S.marks w ≡ ms
            → HandlesAt (record v { piece = Host w; begins = begins })
        by_marks [] none_there =
            for_own (record v { piece = Host w; begins = begins }) (rw none_there refl)
            (rw none_there refl)
            (λ c printed. rw none_there refl)
        by_marks (o ∷ os) there = λ more r st state some high turned runs back cut.
            outer_handles (record v { piece = Host w; begins = begins }) w refl
            (λ none_there. let wrong : [] ≡ o ∷ os = sym none_there ∙ there in cc) begins more r st
            state high turned runs back
            (λ c u gone near runs_u.
            subst (λ (i : Running d N).
            RunsIn z act.size d.S.fuel (facts (around_running d N) i) more st u
            → ((running_promise d N).owing i r).Holds u) (rw there refl) (cut c u gone near) runs_u)

    for_piece : (v : Running d N) (i : Piece d.S.World) (begins : since_of d i ≤ v.start.ticks)
        → HandlesAt (record v { piece = i; begins = begins })
    for_piece v (Host w) begins = for_host v w begins
    for_piece v (Apart part) begins =
        for_own (record v { piece = Apart part; begins = begins }) refl refl (λ c printed. refl)

    -- a diverted task in the middle of an iteration owes what it does where it owes it when it goes
    -- back, uncut or cut
    pub handles : Handles d N
    handles v = for_piece v v.piece v.begins
