-- Behind a cut of a `par` in the middle of an iteration, or between two, both sides merge to what
-- the whole piece owes.
use Rattle.std.proofs.Common.{◌≡◌, ◌≢◌, inl, inr, ℕ, suc, ◌+◌, true, false, List, []}
use Rattle.std.proofs.Common.{◌∷◌, ◌++◌, append-nil, length, None, bytes_eq, refl, sym, ap, subst}
use Rattle.std.proofs.Common.{◌∙◌}
use Rattle.std.proofs.Common.{append_assoc, arith, drop}
use Rattle.std.specs.Prelude.{ℤ, pos, ◌+ℤ◌, ⊤}
use Rattle.std.specs.List.{All, IsDistinct}
use Rattle.std.proofs.lemmas.Int.{ints}
use Rattle.stack_marks.specs.declared.mark.Mark.{Mark}
use Rattle.stack_marks.specs.Stacks.{StackValue, word_at}
use Rattle.tp_value.specs.declared.Stop.{Stop}
use Rattle.tp_value.specs.declared.Stop.TheVariants.{Done, Left, Trap, NoFuel}
use Rattle.loop_syntax.specs.declared.ParLoop.{ParLoop}
use Rattle.loop_meaning.specs.InRange.{StateInRange}
use Rattle.loop_meaning.specs.State as meaning
use Rattle.loop_meaning.specs.State.{Chance, Note, Ran}
use Rattle.tpal_syntax.specs.declared.sites.LoopSite.{LoopSite}
use Rattle.tpal_syntax.specs.Listing.{Listing}
use Rattle.tpal_machine.specs.declared.ends.Ending.{Ending}
use Rattle.tpal_machine.specs.declared.ends.Goal.{Goal}
use Rattle.tpal_machine.specs.declared.ends.Side.{Side}
use Rattle.tpal_machine.specs.Belongs.{RestBelongsTo}
use Rattle.tpal_machine.specs.Effect.{is_marked_from}
use Rattle.tpal_machine.specs.Merge as merging
use Rattle.tpal_machine.specs.Merge.{Joined, MergeOf, ended_together, merged_task}
use Rattle.tpal_machine.specs.Owes.{Bound}
use Rattle.tpal_machine.specs.RestState.{RestState}
use Rattle.tpal_machine.specs.State as machine
use Rattle.frame_machine.specs.Iterating.{LoopInRange, lower_of, upper_of, whole_of}
use Rattle.frame_machine.specs.Joins.{SameRound}
use Rattle.frame_machine.specs.Lawful.{modes_in}
use Rattle.frame_machine.specs.Parts.{Below, Cells, Outside, Seen, Written}
use Rattle.frame_machine.specs.Splitting.{merged}
use Rattle.frame_machine.proofs.Joining.{lower_kept}
use Rattle.frame_machine.proofs.Tables.{agree_sym}
use Rattle.handler_gen.specs.Blocks.{loop_target}
use Rattle.handler_gen.specs.LoopCuts.{loop_mark}
use Rattle.handler_gen.specs.Sites.{over_label}
use Rattle.handler_gen.proofs.Offsets.{cells_of}
use Rattle.handler_gen.proofs.Reaching.{reached}
use Rattle.join_gen.specs.LoopJoins.{Combines, JoinsLoop, ops_of, with_numbers}
use Rattle.expr_lower.specs.declared.scope.Scope.{Scope}
use Rattle.expr_lower.specs.Scopes.{HasTable}
use Rattle.scene_laws.specs.Layout.{Activation, levels_cell}
use Rattle.scene_laws.proofs.Cuts.AtHandlers.{MergesTo}
use Rattle.scene_laws.proofs.Scenes.Changing.{Changed, changed_back, changed_more, changed_trans}
use Rattle.scene_laws.proofs.Scenes.Changing.{iterations_change}
use Rattle.scene_laws.proofs.Cuts.CutTables.{rest_tables}
use Rattle.par_laws.proofs.DeepPars.DeepRests.{shown_over}
use Rattle.par_laws.proofs.DeepPars.DeepScenes.{Deep, before_of, can_of, cells_are, ended_pieces}
use Rattle.par_laws.proofs.DeepPars.DeepScenes.{enough_of}
use Rattle.par_laws.proofs.DeepPars.DeepScenes.{OverOwed, marks_of, outer_of, outer_stable}
use Rattle.par_laws.proofs.DeepPars.DeepScenes.{pieces}
use Rattle.par_laws.proofs.DeepPars.DeepScenes.{region_of, stopped_of}
use Rattle.par_laws.proofs.DeepPars.DeepSides.{IsSplit, at, cutting, listed, loop_cut, middle}
use Rattle.par_laws.proofs.DeepPars.DeepSides.{now_distinct}
use Rattle.par_laws.proofs.DeepPars.DeepSides.{lower_part, own_cut, place, rules, serves}
use Rattle.par_laws.proofs.DeepPars.DeepSides.{written_more}
use Rattle.scene_laws.proofs.Merges.Joins.{HasRest, IsRestAt, child_end, child_output, left_end}
use Rattle.scene_laws.proofs.Merges.Joins.{merge_ends}
use Rattle.scene_laws.proofs.Merges.Joins.{merge_goes}
use Rattle.scene_laws.proofs.Merges.Joins.{merged_numbers, merged_tables, sides_of_loop}
use Rattle.scene_laws.proofs.Merges.Joins.{target_stands}
use Rattle.scene_laws.proofs.Merges.JoinsExtents.{rest_spared}
use Rattle.scene_laws.proofs.Merges.JoinsModes.{cut_as, each_carried, serves_round}
use Rattle.scene_laws.proofs.Merges.JoinsRuns.{never_left, output_kept, whole_round}
use Rattle.scene_laws.proofs.Merges.JoinsSides.{left_side}
use Rattle.scene_laws.proofs.Merges.MergedOutputs.{merge_printed, printing, printing_ended}
use Rattle.scene_laws.proofs.Merges.MergedStacks.{HasMerged, rest_holds}
use Rattle.scene_laws.proofs.Cuts.OldestStacks.{merged_has}
use Rattle.scene_laws.proofs.Cuts.OwnWork.{own_rest}
use Rattle.scene_laws.proofs.Pairs.PairPromises.{begun_rest, is_begun_by, output_of}
use Rattle.scene_laws.proofs.Cuts.Parts.{IsKnown, rest_extent}
use Rattle.scene_laws.proofs.Scenes.Pieces.{Apart, Host, Piece}
use Rattle.scene_laws.proofs.Scenes.Promises.{CanRun, Promise, lesser, promising}
use Rattle.par_laws.proofs.QuietPars.QuietMerged.{marks_gone, result_fin, result_out}
use Rattle.par_laws.proofs.QuietPars.QuietRuns.{IsWithin, iterations_ranged, iterations_within}
use Rattle.scene_laws.proofs.Scenes.Regions.{Region}
use Rattle.scene_laws.proofs.Scenes.Results.{End, Fin, Out, Result, end_by, fin, noting, out}
use Rattle.scene_laws.proofs.Scenes.Results.{result}
use Rattle.scene_laws.proofs.Scenes.Scene.{IsEarly, Same, ShowsIn}
use Rattle.form_laws.proofs.Premises.Serving.{Any}
use Rattle.scene_laws.proofs.Cuts.Sides.{Part, cut_by, numbers_in, side_by}
use Rattle.scene_laws.proofs.Cuts.SiteCells.{below_accs}
use Rattle.scene_laws.proofs.Scenes.Tables.{table_names}

-- a result with this end gives it behind its notes
ends_so : (r : Result) (s : meaning.State) → r.end ≡ Fin s → r ≡ noting r.notes (fin s)
ends_so r s is =
    ap (λ (e : End). record { notes = r.notes; end = e }) is
    ∙ ap (λ (ns : List Note). record { notes = ns; end = Fin s }) (sym (append-nil r.notes))

-- a side before which something else was printed
side_before : (scope : Scope) (l : ParLoop) (part : Part) (before : List ℕ) (e : End)
    → side_by scope l (record part { before = before }) e
    ≡ record (side_by scope l part e) { output = drop (length before) (output_of e) }
side_before scope l part before (Fin s) = refl
side_before scope l part before (Out stop ticks output) = refl

end_output : (stop : Stop) (s : meaning.State) → output_of (end_by stop s) ≡ s.output
end_output Done s = refl
end_output (Left number) s = refl
end_output (Trap kind there) s = refl
end_output NoFuel s = refl

module _ {code : Listing} {heartbeat z : ℕ} {act : Activation} (d : Deep code heartbeat z act)
    (i : Piece d.S.World) (marks : List Mark) (state : machine.State)
    (h : IsSplit d i marks state) (joins : JoinsLoop code heartbeat d.q.site) (c : ℕ) where
  abbrev level : ℕ
  level = length d.q.names

  abbrev pub whole : Ran
  whole = whole_of d.p d.fuel d.q.loop (cutting d i marks state h)

  abbrev region : Region
  region = region_of d i

  -- ---- the rest of the cut

  abbrev rest : RestState
  rest = own_rest (own_cut d i marks state h) c state

  tables_alike : table_names h.st.tables ≡ table_names h.start.tables
  tables_alike = h.now_tabled ∙ sym h.tabled

  abbrev before_cut : List ℕ → ℤ → ℤ → Type 0
  before_cut = Outside (Written (Below (h.first +ℤ pos h.begun)) h.start.vars
      (modes_in d.q.modes d.q.loop))

  pub rest_held : HasRest d.q.is_deep.is_site.scope d.q.loop region (cutting d i marks state h)
      rest.tables
  rest_held = record {
    differ = subst (IsDistinct bytes_eq) (sym h.tabled) d.differ;
    listed = d.q.is_deep.is_site.sees.listed ∙ sym h.tabled;
    there = λ t is.
        each_carried (HasTable d.q.is_deep.is_site.scope) d.q.loop.carries.items t
        d.q.is_deep.is_site.carried is;
    known = λ t is. each_carried (λ u. IsKnown (region u)) d.q.loop.carries.items t
        (serves d i marks state h).enough.known is;
    shown = shown_over
        (λ t. rest_extent (cut_by h.start.vars (middle d i marks state h) d.q.loop.carries.items t)
        (region t)) before_cut rest.tables h.st.tables h.start.tables tables_alike
        (now_distinct d i marks state h)
        (agree_sym before_cut h.start.tables h.st.tables h.differ.agree)
        (λ t a b has written. rest_spared h.start.vars (middle d i marks state h)
        (cut_as h.start.vars (middle d i marks state h) d.q.modes d.q.loop.var.text.items
        d.q.loop.carries.items t) (region t) a b has (Below (h.first +ℤ pos h.begun)) written)
        (rest_tables d.q.is_deep.is_site.scope h.start.vars (middle d i marks state h)
        d.q.loop.carries.items region state.tables h.st.tables (listed d i marks state h)
        (now_distinct d i marks state h) h.held);
  }

  -- ---- what is printed

  abbrev low : Ran
  low = lower_of d.p d.fuel d.q.loop (cutting d i marks state h)

  -- what the left prints, where what was printed before is the begin of what is printed at its end
  abbrev more_output : List ℕ
  more_output = drop (length h.st.output) h.start.output

  low_output : output_of (result low).end ≡ h.start.output
  low_output =
      end_output low.stop low.state
      ∙ output_kept d.p d.fuel d.room d.q.loop (Chance ∷ []) [] (h.begun + h.below) h.first h.start
      d.q.modes (rules d i marks state h)

  -- the left's end
  abbrev pub low_side : Side
  low_side = side_by d.q.is_deep.is_site.scope d.q.loop (lower_part d i marks state h c)
      (result low).end

  module _ (belongs : RestBelongsTo code rest)
      (so : is_begun_by h.st.output (output_of (result low).end) ≡ true) where
    printed : whole.state.output ≡ before_of d i ++ (state.output ++ more_output)
    printed =
        output_kept d.p d.fuel d.room d.q.loop (Chance ∷ []) []
        ((h.begun + h.below) + suc h.above) h.first h.start d.q.modes (rules d i marks state h)
        ∙ (sym (begun_rest h.st.output h.start.output
        (subst (λ (bytes : List ℕ). is_begun_by h.st.output bytes ≡ true) low_output so))
        ∙ (ap (λ (bytes : List ℕ). bytes ++ more_output) h.printed
        ∙ append_assoc (before_of d i) state.output more_output))

    pub rest_at : IsRestAt code d.q.is_deep.is_site.scope d.q.loop d.fuel d.q.site rest
    rest_at = record {
      accs = ap (λ (s : LoopSite). s.accs) d.q.is_deep.is_site.is;
      carries = ap (λ (s : LoopSite). s.carries) d.q.is_deep.is_site.is;
      target = target_stands code d.q.site d.q.is_deep.is_site.join;
      limit = h.limit;
      belongs = belongs;
    }

    abbrev low_end : Side
    low_end = left_end code d.p d.q.modes d.q.loop d.fuel (cutting d i marks state h)
        (rules d i marks state h) (loop_cut d i marks state h) d.q.is_deep.is_site.scope region
        d.q.site rest rest_held rest_at

    abbrev up_end : Side
    up_end = child_end code d.p d.q.modes d.q.loop d.fuel (cutting d i marks state h)
        (rules d i marks state h) (loop_cut d i marks state h) d.q.is_deep.is_site.scope region
        d.q.site rest rest_held rest_at

    low_is : record low_end { output = more_output } ≡ low_side
    low_is =
        ap (λ (bytes : List ℕ). record low_end { output = drop (length h.st.output) bytes })
        (sym low_output)
        ∙ sym (side_before d.q.is_deep.is_site.scope d.q.loop
        (left_side d.q.loop c region (middle d i marks state h) h.start) h.st.output
        (result low).end)

    -- what both sides merge to, where the left prints that
    merge_so : (both : Joined) → MergeOf code rest low_end up_end both
        → MergeOf code rest low_side up_end (printing (rest.output ++ more_output) both)
    merge_so both merge =
        subst (λ (side : Side). MergeOf code rest side up_end
        (printing (rest.output ++ more_output) both)) low_is
        (merge_printed code rest low_end up_end both more_output
        (child_output code d.p d.q.modes d.q.loop d.fuel (cutting d i marks state h)
        (rules d i marks state h) (loop_cut d i marks state h) d.q.is_deep.is_site.scope region
        d.q.site rest rest_held rest_at) merge)

    -- what is owed is the rest of the whole
    module _ (r : Result) (ns : List Note) (is_rest : noting ns r ≡ result whole) where
      abbrev P : Promise code heartbeat (Piece d.S.World)
      P = pieces d

      same_ending : P.ending i r ≡ P.ending i (result whole)
      same_ending = sym (P.blind i ns r) ∙ ap (λ (q : Result). P.ending i q) is_rest

      -- ---- the whole stops early

      ends_early : IsEarly whole.stop → MergesTo code heartbeat rest low_side up_end (P.ending i r)
      ends_early early =
          inl (subst (λ (both : Joined). MergeOf code rest low_side up_end both)
          (printing_ended state.goal whole.stop whole.state.ticks state.output
          (state.output ++ more_output) ∙ ap merging.Ends same)
          (merge_so (merging.Ends (ended_together state.goal whole.stop whole.state.ticks
          state.output)) (merge_ends code d.p d.q.modes d.q.loop d.fuel (cutting d i marks state h)
          (rules d i marks state h) (loop_cut d i marks state h) d.q.is_deep.is_site.scope region
          d.q.site rest rest_held rest_at early)))
        where
          same : ended_together state.goal whole.stop whole.state.ticks
              (state.output ++ more_output) ≡ P.ending i r
          same =
              ap (λ (g : Goal). ended_together g whole.stop whole.state.ticks
              (state.output ++ more_output)) h.ends
              ∙ (sym (stopped_of d i whole.stop whole.state (state.output ++ more_output) early
              printed)
              ∙ (sym (P.blind i whole.notes (out whole.stop whole.state))
              ∙ (ap (λ (q : Result). P.ending i q) (result_out whole whole.stop early refl)
              ∙ sym same_ending)))

      -- ---- the whole is done

      module _ (done : whole.stop ≡ Done) where
        within : IsWithin d.fuel h.start whole
        within =
            iterations_within d.p d.fuel d.q.loop ((h.begun + h.below) + suc h.above) h.first
            h.start d.room d.calls h.within done

        whole_range : LoopInRange d.p d.q.loop h.start h.first
            (h.first +ℤ pos ((h.begun + h.below) + suc h.above))
        whole_range = record {
          funcs = d.funcs;
          par = d.par;
          state = h.ranged;
          begins = h.in_first;
          ends = omega (arith, ints, h.in_first, h.in_to, h.far, h.all);
        }

        ranged : StateInRange whole.state
        ranged =
            iterations_ranged d.p d.fuel d.q.loop ((h.begun + h.below) + suc h.above) h.first
            h.start whole_range d.room d.calls

        same_round : SameRound d.q.loop.reduces.items h.start.vars whole.state.vars
        same_round =
            whole_round d.p d.q.modes d.q.loop d.fuel (cutting d i marks state h)
            (rules d i marks state h) (loop_cut d i marks state h) done

        -- the task that both sides merge to, and the one that it comes to
        abbrev merged_state : machine.State
        merged_state =
            merged_task (loop_target d.q.site) rest low_end up_end whole.state.ticks
            (rest.output ++ more_output)

        abbrev lows : List ℤ
        lows = numbers_in d.q.loop.reduces.items
            (lower_of d.p d.fuel d.q.loop (cutting d i marks state h)).state.vars

        abbrev ups : List ℤ
        ups = numbers_in d.q.loop.reduces.items
            (upper_of d.p d.fuel d.q.loop (cutting d i marks state h)).state.vars

        combines : Combines code heartbeat d.q.site lows ups rest merged_state
        combines =
            joins.combines lows ups rest low_end up_end whole.state.ticks
            (rest.output ++ more_output)
            (sides_of_loop code d.p d.q.modes d.q.loop d.fuel (cutting d i marks state h)
            (rules d i marks state h) (loop_cut d i marks state h) d.q.is_deep.is_site.scope region
            d.q.site rest rest_held rest_at done refl
            (rest_holds state.stack z d.q.site.cells (at d i marks state h).held))

        abbrev stack_there : StackValue
        stack_there =
            with_numbers d.q.site.accs z (merged (ops_of d.q.site.accs) lows ups) rest.stack

        abbrev over_task : machine.State
        over_task = record merged_state {
          registers = combines.words;
          stack = stack_there;
          beat = combines.beat;
          block = over_label d.q.site.label;
          at = 0;
          met = None;
        }

        has : HasMerged (own_cut d i marks state h) whole.state.vars state.stack stack_there
        has =
            subst (λ (ns : List ℤ). HasMerged (own_cut d i marks state h) whole.state.vars
            state.stack (with_numbers d.q.site.accs z ns rest.stack))
            (sym (merged_numbers code d.p d.q.modes d.q.loop d.fuel (cutting d i marks state h)
            (rules d i marks state h) (loop_cut d i marks state h) d.q.is_deep.is_site.scope region
            d.q.site rest rest_held rest_at done))
            (merged_has (place d i marks state h) c state (at d i marks state h) d.rules.distinct
            whole.state.vars same_round ranged.vars)

        top : stack_there.base + length stack_there.cells ≡ z + act.size
        top = has.top ∙ ap (λ n. z + n) (cells_are d)

        -- below the activation's end all but the accumulators is as it was
        kept : Same z d.S.may level state.stack stack_there
        kept = record {
          base = has.base;
          at = λ a low apart. has.others a
              (omega (arith, low, cells_are d, d.space, d.q.fits))
              (λ n e inside. apart _ (d.free_accs n e inside));
        }

        header_apart : All (λ x. levels_cell ≢ x) (cells_of d.q.site.accs)
        header_apart = below_accs (place d i marks state h) levels_cell (omega arith)

        levels_kept : word_at stack_there (pos (z + levels_cell))
            ≡ word_at state.stack (pos (z + levels_cell))
        levels_kept =
            has.others (z + levels_cell) (omega (arith, cells_are d, d.space))
            (λ n e inside q. header_apart n e inside (omega (arith, q)))

        abbrev until_end : Cells
        until_end = Written (Below h.to) h.start.vars (modes_in d.q.modes d.q.loop)

        abbrev anywhere : Cells
        anywhere = Written Any h.start.vars (modes_in d.q.modes d.q.loop)

        -- iterations change the tables where they may write alone
        whole_changes : Changed until_end h.start.tables whole.state.tables
        whole_changes =
            iterations_change (Seen (Below h.to) h.start.vars (modes_in d.q.modes d.q.loop))
            until_end d.p d.fuel d.room d.q.loop (Chance ∷ []) []
            ((h.begun + h.below) + suc h.above) h.first h.start
            (lower_kept d.p d.q.modes d.q.loop d.fuel d.room (Chance ∷ []) []
            ((h.begun + h.below) + suc h.above) h.first h.to h.start (rules d i marks state h)
            (tt, tt) tt (omega (arith, ints, h.far, h.all))).notes

        differ_now : Changed anywhere h.st.tables whole.state.tables
        differ_now =
            changed_trans anywhere h.st.tables h.start.tables whole.state.tables
            (changed_back anywhere h.start.tables h.st.tables
            (changed_more (Written (Below (h.first +ℤ pos h.begun)) h.start.vars
            (modes_in d.q.modes d.q.loop)) anywhere h.start.tables h.st.tables
            (λ t a b written. written_more (Below (h.first +ℤ pos h.begun)) Any (λ n less. tt)
            h.start.vars (modes_in d.q.modes d.q.loop t) a b written) h.differ))
            (changed_more until_end anywhere h.start.tables whole.state.tables
            (λ t a b written. written_more (Below h.to) Any (λ n less. tt) h.start.vars
            (modes_in d.q.modes d.q.loop t) a b written) whole_changes)

        can_there : (o : Piece d.S.World) → outer_of d o state.stack → can_of d o h.st.tables
            → can_of d o whole.state.tables
        can_there (Host w) outer can =
            d.meets w state.stack h.start.vars h.named outer h.fixed h.st.tables whole.state.tables
            differ_now can
        can_there (Apart part) outer can = tt

        no_marks : (o : Piece d.S.World) → marks_of d true o ≡ loop_mark d.q.site z ∷ []
            → marks_of d false o ≡ []
        no_marks (Host w) is = marks_gone (d.S.marks w) (loop_mark d.q.site z) is
        no_marks (Apart part) is = refl

        shows_over : ShowsIn code heartbeat z act d.fuel (ended_pieces d) i d.q.names whole.state
            over_task
        shows_over = record {
          size = combines.size;
          base = combines.base;
          limit = h.limit;
          limited = d.limited;
          tall = d.tall;
          ticks = refl;
          within = within.within;
          begun = omega (arith, within.later, h.begins);
          printed = printed;
          ends = h.ends;
          free = refl;
          unmet = refl;
          marked = has.marked ∙ sym (no_marks i h.oldest);
          named = same_round.names ∙ h.named;
          few = omega (arith, d.q.fits);
          tabled = whole_changes.named ∙ h.tabled;
          held = merged_tables code d.p d.q.modes d.q.loop d.fuel (cutting d i marks state h)
              (rules d i marks state h) (loop_cut d i marks state h) d.q.is_deep.is_site.scope
              region d.q.site rest rest_held rest_at done;
          can = can_there i h.outer h.can;
          ranged = ranged.tables;
          levels = levels_kept ∙ h.levels;
          unmarked = ap (λ (ms : List Mark). is_marked_from ms (z + act.size)) has.marked;
          top = top;
          low = omega (arith, has.base, h.low);
          room = omega (arith, top, d.space);
          vars = has.vars;
          keeps = record {
            outer = outer_stable d i state.stack stack_there kept h.outer;
            rec = has.rec ∙ h.rec;
          };
        }

        enough_there : (o : Piece d.S.World) → enough_of d o h.start.vars h.first h.to
            → enough_of d o whole.state.vars h.first h.to
        enough_there (Host w) enough = tt
        enough_there (Apart part) enough =
            serves_round d.q.modes d.q.loop d.q.names h.start.vars whole.state.vars h.first h.to
            part.region d.rules.rows same_round enough

        -- it owes what the rest of the whole gives
        goes_on : OverOwed d → P.given i r → CanRun code merged_state
            → Bound code heartbeat false 0 merged_state (P.ending i r)
        goes_on at_over given can =
            reached code heartbeat (promising code heartbeat ⊤ false 0 (P.ending i r))
            merged_state over_task combines.comes
            (λ none_given can_over. subst (λ (e : Ending). Bound code heartbeat false 0 over_task e)
            (sym (P.blind i r.notes (fin whole.state))
            ∙ ap (λ (q : Result). P.ending i q) (sym behind))
            (lesser code heartbeat false (P.least i (fin whole.state)) 0 over_task
            (P.ending i (fin whole.state)) (omega arith)
            (P.opens i (fin whole.state) over_task
            (at_over h.first h.to i whole.state over_task shows_over (enough_there i h.enough) refl
            refl)
            (P.fewer i r.notes (fin whole.state) (subst (P.given i) behind given)) can_over))) tt
            can
          where
            behind : r ≡ noting r.notes (fin whole.state)
            behind =
                ends_so r whole.state
                (ap (λ (q : Result). q.end) is_rest
                ∙ ap (λ (q : Result). q.end) (sym (result_fin whole done)))

      -- both sides merge to the whole
      pub merges : OverOwed d → P.given i r
          → MergesTo code heartbeat rest low_side up_end (P.ending i r)
      merges at_over given = by_stop whole.stop refl
        where
          by_stop : (stop : Stop) → whole.stop ≡ stop
              → MergesTo code heartbeat rest low_side up_end (P.ending i r)
          by_stop Done is =
              inr (
                merged_state is,
                merge_so (merging.Goes (merged_task (loop_target d.q.site) rest low_end up_end
                    whole.state.ticks rest.output))
                    (merge_goes code d.p d.q.modes d.q.loop d.fuel (cutting d i marks state h)
                    (rules d i marks state h) (loop_cut d i marks state h) d.q.is_deep.is_site.scope
                    region
                    d.q.site rest rest_held rest_at is),
                goes_on is at_over given,
              )
          by_stop (Left number) is =
              absurd (never_left d.p d.fuel d.room d.q.loop (Chance ∷ []) []
              ((h.begun + h.below) + suc h.above) h.first h.start d.calls d.never d.stays number is)
          by_stop (Trap kind place) is = ends_early (rw is tt)
          by_stop NoFuel is = ends_early (rw is tt)
