-- Behind a cut between two iterations of a `par` both sides merge to what the whole piece owes.
use Rattle.std.proofs.Common.{◌≡◌, ◌≢◌, inl, inr, ℕ, suc, ◌+◌, ◌≤◌, true, false, List, [], ◌∷◌}
use Rattle.std.proofs.Common.{◌++◌, append-nil, length, None, bytes_eq, refl, sym, ap, subst, ◌∙◌}
use Rattle.std.proofs.Common.{arith}
use Rattle.std.specs.Prelude.{ℤ, pos, ◌+ℤ◌, ⊤}
use Rattle.std.specs.List.{All, IsDistinct}
use Rattle.std.proofs.lemmas.Int.{ints}
use Rattle.stack_marks.specs.declared.mark.Mark.{Mark}
use Rattle.stack_marks.specs.Stacks.{StackValue, word_at}
use Rattle.tp_value.specs.declared.Stop.{Stop}
use Rattle.tp_value.specs.declared.Stop.TheVariants.{Done, Left, Trap, NoFuel}
use Rattle.loop_syntax.specs.declared.Program.{Program}
use Rattle.loop_meaning.specs.declared.value.Variable.{Variable}
use Rattle.loop_meaning.specs.InRange.{StateInRange}
use Rattle.loop_meaning.specs.State as meaning
use Rattle.loop_meaning.specs.State.{Chance, Ran}
use Rattle.tpal_syntax.specs.declared.sites.LoopSite.{LoopSite}
use Rattle.tpal_syntax.specs.Listing.{Listing}
use Rattle.tpal_machine.specs.declared.ends.Ending.{Ending}
use Rattle.tpal_machine.specs.declared.ends.Goal.{Goal}
use Rattle.tpal_machine.specs.declared.ends.Side.{Side}
use Rattle.tpal_machine.specs.Belongs.{RestBelongsTo}
use Rattle.tpal_machine.specs.Effect.{is_marked_from}
use Rattle.tpal_machine.specs.Merge as merging
use Rattle.tpal_machine.specs.Merge.{MergeOf, ended_together, merged_task}
use Rattle.tpal_machine.specs.Owes.{Bound}
use Rattle.tpal_machine.specs.RestState.{RestState}
use Rattle.tpal_machine.specs.State as machine
use Rattle.frame_machine.specs.Iterating.{CutLoop, LoopCut, LoopInRange, lower_of, upper_of}
use Rattle.frame_machine.specs.Iterating.{whole_of}
use Rattle.frame_machine.specs.Joins.{SameRound, names_of}
use Rattle.frame_machine.specs.Lawful.{Distinct, Lawful}
use Rattle.frame_machine.specs.Splitting.{merged}
use Rattle.handler_gen.specs.Blocks.{loop_target}
use Rattle.handler_gen.specs.LoopCuts.{loop_mark}
use Rattle.handler_gen.specs.Sites.{over_label}
use Rattle.handler_gen.proofs.Offsets.{cells_of}
use Rattle.handler_gen.proofs.Reaching.{reached}
use Rattle.join_gen.specs.LoopJoins.{Combines, JoinsLoop, ops_of, with_numbers}
use Rattle.expr_lower.specs.Scopes.{HasTable}
use Rattle.scene_laws.specs.Layout.{Activation, bound_cell, levels_cell, value_cell}
use Rattle.scene_laws.proofs.Cuts.AtHandlers.{MergesTo}
use Rattle.scene_laws.proofs.Cuts.CutTables.{rest_tables}
use Rattle.scene_laws.proofs.Scenes.Fixed.{round_fixed, round_on}
use Rattle.scene_laws.proofs.Merges.Joins.{HasRest, IsRestAt, child_end, left_end, merge_ends}
use Rattle.scene_laws.proofs.Merges.Joins.{merge_goes}
use Rattle.scene_laws.proofs.Merges.Joins.{merged_numbers, merged_tables, sides_of_loop}
use Rattle.scene_laws.proofs.Merges.Joins.{target_stands}
use Rattle.scene_laws.proofs.Merges.JoinsCuts.{cut_here, may_cut_here}
use Rattle.scene_laws.proofs.Merges.JoinsModes.{each_carried}
use Rattle.scene_laws.proofs.Merges.JoinsRuns.{never_left, output_kept, tables_named}
use Rattle.scene_laws.proofs.Merges.JoinsRuns.{whole_round}
use Rattle.scene_laws.proofs.Merges.Meeting.{met_behind}
use Rattle.scene_laws.proofs.Merges.MergedStacks.{HasMerged, rest_holds}
use Rattle.scene_laws.proofs.Cuts.OldestCuts.{IsOldestCut}
use Rattle.scene_laws.proofs.Cuts.OldestStacks.{merged_has}
use Rattle.scene_laws.proofs.Cuts.OwnWork.{IsCutSite, OwnCut, own_rest}
use Rattle.scene_laws.proofs.Cuts.Parts.{IsKnown}
use Rattle.scene_laws.proofs.Scenes.Pieces.{Apart, Host, Piece}
use Rattle.scene_laws.proofs.Scenes.Promises.{CanRun, Promise, lesser, promising}
use Rattle.par_laws.proofs.QuietPars.QuietRuns.{IsWithin, iterations_ranged, iterations_within}
use Rattle.par_laws.proofs.QuietPars.QuietSides.{AllowsCuts, IsSplit, at, distinct, own_cut}
use Rattle.par_laws.proofs.QuietPars.QuietSides.{place, round}
use Rattle.par_laws.proofs.QuietPars.QuietSides.{serves_here}
use Rattle.scene_laws.proofs.Scenes.Regions.{Region}
use Rattle.scene_laws.proofs.Scenes.Results.{Fin, Result, fin, noting, out, out_noting, result}
use Rattle.scene_laws.proofs.Scenes.Scene.{IsEarly, Same, Scene, ShowsIn}
use Rattle.scene_laws.proofs.Cuts.Sides.{numbers_in}
use Rattle.par_laws.proofs.QuietPars.Turned.{T}
use Rattle.scene_laws.proofs.Cuts.SiteCells.{below_accs}
use Rattle.scene_laws.proofs.Scenes.Tables.{listed_names, table_names}
use Rattle.par_laws.proofs.QuietPars.Turning.{ParAt, before_of, marks_of, outer_stable, pieces}
use Rattle.par_laws.proofs.QuietPars.Turning.{region_of}
use Rattle.par_laws.proofs.QuietPars.Turning.{stopped_of}
use Rattle.scene_laws.proofs.Scenes.Variables.{held_in_range, var_names}

-- a run that is done gives its state, behind its notes; one that stops gives its stop
pub result_fin : (r : Ran) → r.stop ≡ Done → noting r.notes (fin r.state) ≡ result r
result_fin r is = rw is (ap (λ (ns : List meaning.Note). record { notes = ns; end = Fin r.state })
    (append-nil r.notes))

pub result_out : (r : Ran) (x : Stop) → IsEarly x → r.stop ≡ x
    → noting r.notes (out x r.state) ≡ result r
result_out r Done early is = absurd early
result_out r (Left number) early is = absurd early
result_out r (Trap kind place) early is = rw is (out_noting r.notes (Trap kind place) r.state)
result_out r NoFuel early is = rw is (out_noting r.notes NoFuel r.state)

pub marks_gone : (xs : List Mark) (own : Mark) → xs ++ own ∷ [] ≡ own ∷ [] → xs ++ [] ≡ []
marks_gone [] own is = refl
marks_gone (x ∷ []) own is = cc
marks_gone (x ∷ y ∷ ys) own is = cc

module _ (code : Listing) (heartbeat z : ℕ) (act : Activation) (q : ParAt code act)
    (S : Scene code heartbeat z) (lowest : S.lowest ≤ length q.names) (k : meaning.State → Result)
    (vs : List Variable) (named : var_names vs ≡ q.names) (fuel : ℕ) (p : Program)
    (room : ℕ) (allows : AllowsCuts code heartbeat z act q S p room) (m j : ℤ)
    (i : Piece S.World) (st : meaning.State) (state : machine.State)
    (h : IsSplit code heartbeat z act q S lowest k vs named fuel p room allows m j i st state)
    (joins : JoinsLoop code heartbeat q.site) (c : ℕ) where
  abbrev level : ℕ
  level = length q.names

  abbrev P : Promise code heartbeat (Piece S.World)
  P = pieces code heartbeat z act q S lowest k

  abbrev Behind : Scene code heartbeat z
  Behind = T code heartbeat z act q S lowest k vs named false m j

  abbrev own : OwnCut
  own = own_cut code heartbeat z act q S lowest k vs named fuel p room allows m j i st state h

  at_place : IsCutSite code act q.names q.depth (value_cell level) S.dispatch own
  at_place = place code heartbeat z act q S lowest k vs named fuel p room allows m j i st
      state
      h

  at_cut : IsOldestCut S.dispatch own [] state
  at_cut = at code heartbeat z act q S lowest k vs named fuel p room allows m j i st state h

  abbrev region : Region
  region = region_of code heartbeat z act q S lowest i

  -- the same cut on the meaning alone
  abbrev pub cutting : CutLoop
  cutting = cut_here room m h.below (suc h.above) st

  abbrev pub whole : Ran
  whole = whole_of p fuel q.loop cutting

  pub rules : Lawful p q.modes (names_of st.vars) q.loop
  rules = subst (λ (names : List (List ℕ)). Lawful p q.modes names q.loop) (sym h.shows.named)
      allows.may.rules

  pub in_range : StateInRange st
  in_range = record {
    vars = held_in_range state.stack z 0 st.vars h.shows.vars;
    tables = h.shows.ranged;
  }

  pub cut_range : LoopInRange p q.loop st m (m +ℤ pos h.below)
  cut_range = record {
    funcs = allows.may.funcs;
    par = allows.may.par;
    state = in_range;
    begins = h.in_m;
    ends = omega (arith, ints, h.in_m, h.in_j, h.gap, h.all);
  }

  whole_range : LoopInRange p q.loop st m (m +ℤ pos (h.below + suc h.above))
  whole_range = record {
    funcs = allows.may.funcs;
    par = allows.may.par;
    state = in_range;
    begins = h.in_m;
    ends = omega (arith, ints, h.in_m, h.in_j, h.gap, h.all);
  }

  pub loop_cut : LoopCut p q.modes q.loop fuel cutting
  loop_cut =
      may_cut_here p q.modes q.loop fuel room m h.below (suc h.above) st allows.may.calls cut_range
      h.shows.within

  -- ---- the rest of the cut

  abbrev rest : RestState
  rest = own_rest own c state

  pub listed : listed_names q.is_site.scope.tables.items ≡ table_names st.tables
  listed = q.is_site.sees.listed ∙ sym h.shows.tabled

  pub rest_held : HasRest q.is_site.scope q.loop region cutting rest.tables
  rest_held = record {
    differ = subst (IsDistinct bytes_eq) (sym h.shows.tabled) allows.may.differ;
    listed = listed;
    there = λ t is.
        each_carried (HasTable q.is_site.scope) q.loop.carries.items t q.is_site.carried is;
    known = λ t is. each_carried (λ u. IsKnown (region u)) q.loop.carries.items t
        (serves_here code heartbeat z act q S lowest k vs named fuel p room allows m j i st
        state h).enough.known is;
    shown = rest_tables q.is_site.scope st.vars (m +ℤ pos h.below) q.loop.carries.items region
        state.tables st.tables listed (subst Distinct (sym h.shows.tabled) allows.may.distinct)
        h.shows.held;
  }

  module _ (belongs : RestBelongsTo code rest) where
    pub rest_at : IsRestAt code q.is_site.scope q.loop fuel q.site rest
    rest_at = record {
      accs = ap (λ (s : LoopSite). s.accs) q.is_site.is;
      carries = ap (λ (s : LoopSite). s.carries) q.is_site.is;
      target = target_stands code q.site q.is_site.join;
      limit = h.shows.limit;
      belongs = belongs;
    }

    abbrev pub low_end : Side
    low_end = left_end code p q.modes q.loop fuel cutting rules loop_cut q.is_site.scope region
        q.site rest rest_held rest_at

    abbrev pub up_end : Side
    up_end = child_end code p q.modes q.loop fuel cutting rules loop_cut q.is_site.scope region
        q.site rest rest_held rest_at

    -- ---- the whole stops early

    ends_early : IsEarly whole.stop
        → MergesTo code heartbeat rest low_end up_end (P.ending i (result whole))
    ends_early early =
        inl (subst (λ (e : Ending). MergeOf code rest low_end up_end (merging.Ends e)) same
        (merge_ends code p q.modes q.loop fuel cutting rules loop_cut q.is_site.scope region q.site
        rest rest_held rest_at early))
      where
        printed : whole.state.output ≡ before_of code heartbeat z act q S lowest i ++ state.output
        printed =
            output_kept p fuel room q.loop (Chance ∷ []) [] (h.below + suc h.above) m st q.modes
            rules ∙ h.shows.printed

        same : ended_together state.goal whole.stop whole.state.ticks state.output
            ≡ P.ending i (result whole)
        same =
            ap (λ (g : Goal). ended_together g whole.stop whole.state.ticks state.output)
            h.shows.ends
            ∙ (sym (stopped_of code heartbeat z act q S lowest k i whole.stop whole.state
            state.output early printed)
            ∙ (sym (P.blind i whole.notes (out whole.stop whole.state))
            ∙ ap (λ (r : Result). P.ending i r) (result_out whole whole.stop early refl)))

    -- ---- the whole is done

    module _ (done : whole.stop ≡ Done) where
      within : IsWithin fuel st whole
      within =
          iterations_within p fuel q.loop (h.below + suc h.above) m st room allows.may.calls
          h.shows.within done

      ranged : StateInRange whole.state
      ranged =
          iterations_ranged p fuel q.loop (h.below + suc h.above) m st whole_range room
          allows.may.calls

      same_round : SameRound q.loop.reduces.items st.vars whole.state.vars
      same_round = whole_round p q.modes q.loop fuel cutting rules loop_cut done

      -- the task that both sides merge to, and the one that it comes to
      abbrev merged_state : machine.State
      merged_state =
          merged_task (loop_target q.site) rest low_end up_end whole.state.ticks rest.output

      abbrev lows : List ℤ
      lows = numbers_in q.loop.reduces.items (lower_of p fuel q.loop cutting).state.vars

      abbrev ups : List ℤ
      ups = numbers_in q.loop.reduces.items (upper_of p fuel q.loop cutting).state.vars

      combines : Combines code heartbeat q.site lows ups rest merged_state
      combines =
          joins.combines lows ups rest low_end up_end whole.state.ticks rest.output
          (sides_of_loop code p q.modes q.loop fuel cutting rules loop_cut q.is_site.scope region
          q.site rest rest_held rest_at done refl
          (rest_holds state.stack z q.site.cells at_cut.held))

      abbrev stack_there : StackValue
      stack_there = with_numbers q.site.accs z (merged (ops_of q.site.accs) lows ups) rest.stack

      abbrev over_task : machine.State
      over_task = record merged_state {
        registers = combines.words;
        stack = stack_there;
        beat = combines.beat;
        block = over_label q.site.label;
        at = 0;
        met = None;
      }

      has : HasMerged own whole.state.vars state.stack stack_there
      has =
          subst (λ (ns : List ℤ). HasMerged own whole.state.vars state.stack
          (with_numbers q.site.accs z ns rest.stack))
          (sym (merged_numbers code p q.modes q.loop fuel cutting rules loop_cut q.is_site.scope
          region q.site rest rest_held rest_at done))
          (merged_has at_place c state at_cut allows.may.rules.distinct whole.state.vars same_round
          ranged.vars)

      cells_are : q.site.cells ≡ act.size
      cells_are = ap (λ (s : LoopSite). s.cells) q.is_site.is

      top : stack_there.base + length stack_there.cells ≡ z + act.size
      top = has.top ∙ ap (λ n. z + n) cells_are

      -- below the activation's end all but the accumulators is as it was
      kept : Same z S.may level state.stack stack_there
      kept = record {
        base = has.base;
        at = λ a low apart. has.others a
            (omega (arith, low, cells_are, h.shows.top, h.shows.room, q.fits))
            (λ n d inside. apart _ (allows.free_accs n d inside));
      }

      header_apart : All (λ x. levels_cell ≢ x) (cells_of q.site.accs)
      header_apart = below_accs at_place levels_cell (omega arith)

      levels_kept : word_at stack_there (pos (z + levels_cell))
          ≡ word_at state.stack (pos (z + levels_cell))
      levels_kept =
          has.others (z + levels_cell)
          (omega (arith, cells_are, h.shows.top, h.shows.room, q.fits))
          (λ n d inside e. header_apart n d inside (omega (arith, e)))

      no_marks : (o : Piece S.World)
          → marks_of code heartbeat z act q S lowest true o ≡ loop_mark q.site z ∷ []
          → marks_of code heartbeat z act q S lowest false o ≡ []
      no_marks (Host w) is = marks_gone (S.marks w) (loop_mark q.site z) is
      no_marks (Apart part) is = refl

      printed : whole.state.output ≡ before_of code heartbeat z act q S lowest i ++ state.output
      printed =
          output_kept p fuel room q.loop (Chance ∷ []) [] (h.below + suc h.above) m st q.modes
          rules ∙ h.shows.printed

      cursor_is : q.site.cursor ≡ value_cell level
      cursor_is = ap (λ (s : LoopSite). s.cursor) q.is_site.is

      bound_is : q.site.bound ≡ bound_cell level
      bound_is = ap (λ (s : LoopSite). s.bound) q.is_site.is

      shows_over : P.given i (noting whole.notes (fin whole.state))
          → ShowsIn code heartbeat z act fuel Behind i q.names whole.state over_task
      shows_over given = record {
        size = combines.size;
        base = combines.base;
        limit = h.shows.limit;
        limited = h.shows.limited;
        tall = h.shows.tall;
        ticks = refl;
        within = within.within;
        begun = omega (arith, within.later, h.shows.begun);
        printed = printed;
        ends = h.shows.ends;
        free = refl;
        unmet = refl;
        marked = has.marked ∙ sym (no_marks i h.oldest);
        named = same_round.names ∙ h.shows.named;
        few = h.shows.few;
        tabled = tables_named p fuel room q.loop (Chance ∷ []) [] (h.below + suc h.above) m st
            allows.may.calls ∙ h.shows.tabled;
        held = merged_tables code p q.modes q.loop fuel cutting rules loop_cut q.is_site.scope
            region
            q.site rest rest_held rest_at done;
        can = met_behind Behind i p fuel room q.loop (Chance ∷ []) [] (h.below + suc h.above) m st
            (fin whole.state) given h.shows.can;
        ranged = ranged.tables;
        levels = levels_kept ∙ h.shows.levels;
        unmarked = ap (λ (ms : List Mark). is_marked_from ms (z + act.size)) has.marked;
        top = top;
        low = omega (arith, has.base, h.shows.low);
        room = omega (arith, top, h.shows.top, h.shows.room);
        vars = has.vars;
        keeps = record {
          outer = outer_stable code heartbeat z act q S lowest i state.stack stack_there kept
              h.shows.keeps.outer;
          rec = has.rec ∙ h.shows.keeps.rec;
          next = ap (λ o. word_at stack_there (pos (z + o))) (sym cursor_is) ∙ has.cursor;
          bound = ap (λ o. word_at stack_there (pos (z + o))) (sym bound_is) ∙ has.bound;
          fixed = round_fixed q.loop.reduces.items stack_there z vs whole.state.vars
              (distinct code heartbeat z act q S lowest k vs named fuel p room allows m j i st
              state h)
              (round_on q.loop.reduces.items vs st.vars whole.state.vars
              (round code heartbeat z act q S lowest k vs named fuel p room allows m j i st
              state h) same_round) has.vars;
          enough = h.shows.keeps.enough;
        };
      }

      -- it owes what the whole gives
      goes_on : ((task : machine.State)
          → ShowsIn code heartbeat z act fuel Behind i q.names whole.state task
          → task.block ≡ over_label q.site.label → task.at ≡ 0
          → (P.owing i (fin whole.state)).Holds task)
          → P.given i (result whole) → CanRun code merged_state
          → Bound code heartbeat false 0 merged_state (P.ending i (result whole))
      goes_on at_over given can =
          reached code heartbeat (promising code heartbeat ⊤ false 0 (P.ending i (result whole)))
          merged_state over_task combines.comes
          (λ none can_over. subst (λ (e : Ending). Bound code heartbeat false 0 over_task e)
          (sym (P.blind i whole.notes (fin whole.state))
          ∙ ap (λ (r : Result). P.ending i r) (result_fin whole done))
          (lesser code heartbeat false (P.least i (fin whole.state)) 0 over_task
          (P.ending i (fin whole.state)) (omega arith)
          (P.opens i (fin whole.state) over_task (at_over over_task (shows_over noted) refl refl)
          (P.fewer i whole.notes (fin whole.state) noted) can_over))) tt can
        where
          noted : P.given i (noting whole.notes (fin whole.state))
          noted = subst (P.given i) (sym (result_fin whole done)) given

    -- both sides merge to the whole
    pub merges : ((task : machine.State)
        → ShowsIn code heartbeat z act fuel Behind i q.names whole.state task
        → task.block ≡ over_label q.site.label → task.at ≡ 0
        → (P.owing i (fin whole.state)).Holds task)
        → P.given i (result whole)
        → MergesTo code heartbeat rest low_end up_end (P.ending i (result whole))
    merges at_over given = by_stop whole.stop refl
      where
        by_stop : (stop : Stop) → whole.stop ≡ stop
            → MergesTo code heartbeat rest low_end up_end (P.ending i (result whole))
        by_stop Done is =
            inr (
              merged_state is,
              merge_goes code p q.modes q.loop fuel cutting rules loop_cut q.is_site.scope region
                  q.site rest rest_held rest_at is,
              goes_on is at_over given,
            )
        by_stop (Left number) is =
            absurd (never_left p fuel room q.loop (Chance ∷ []) [] (h.below + suc h.above) m st
            allows.may.calls allows.may.never allows.may.stays number is)
        by_stop (Trap kind place) is = ends_early (rw is tt)
        by_stop NoFuel is = ends_early (rw is tt)
