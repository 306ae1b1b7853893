-- A `par` is cut in the middle of an iteration, or between two: a diverted task whose oldest mark
-- is the loop's owes what the piece does, where it owes it when it goes back and the left of the
-- cut ends as a side. What the left has on its stack.
use Rattle.std.proofs.Common.{◌≡◌, ◌≢◌, ℕ, zero, suc, ◌+◌, ◌≤◌, Bool, true, false, cond, List, []}
use Rattle.std.proofs.Common.{◌∷◌, ◌++◌, length, Some, refl, sym, subst, ◌∙◌}
use Rattle.std.proofs.Common.{arith}
use Rattle.std.specs.Prelude.{pos, ◌+ℤ◌}
use Rattle.std.specs.List.{AllByRecursion}
use Rattle.std.proofs.lemmas.Int.{ints}
use Rattle.beat_count.specs.BeatState.{BeatState}
use Rattle.stack_marks.specs.declared.mark.Mark.{Mark}
use Rattle.stack_marks.specs.Stacks.{word_at}
use Rattle.loop_meaning.specs.State.{Chance, Note, Ran}
use Rattle.tpal_syntax.specs.declared.instructions.Term.TheVariants as term
use Rattle.tpal_syntax.specs.declared.instructions.Value.TheVariants as value
use Rattle.tpal_syntax.specs.declared.words.Word.{Word}
use Rattle.tpal_syntax.specs.declared.words.Word.TheVariants as word
use Rattle.tpal_syntax.specs.Listing.{Listing}
use Rattle.tpal_machine.specs.declared.ends.Ending.TheVariants as ending
use Rattle.tpal_machine.specs.declared.ends.SideName.TheVariants.{Right}
use Rattle.tpal_machine.specs.Owes.{Bound}
use Rattle.tpal_machine.specs.Reading.{register}
use Rattle.tpal_machine.specs.State as machine
use Rattle.expr_lower.specs.Standing.{Remains}
use Rattle.frame_machine.specs.Iterating.{lower_of, upper_of}
use Rattle.frame_machine.specs.Lawful.{Lawful}
use Rattle.handler_gen.specs.Blocks.{back_block}
use Rattle.handler_gen.specs.Halves.{KeepsPlace}
use Rattle.handler_gen.specs.Sites.{back_label, none_label}
use Rattle.join_gen.specs.LoopJoins.{JoinsLoop}
use Rattle.scene_laws.specs.Layout.{Activation, levels_cell, value_cell}
use Rattle.scene_laws.proofs.Cuts.CutTables.{left_tables}
use Rattle.par_laws.proofs.DeepPars.DeepMerged.{merges, whole}
use Rattle.par_laws.proofs.DeepPars.DeepRunning.{MayRunning, are_any}
use Rattle.par_laws.proofs.DeepPars.DeepScenes.{Deep, FirstOwed, OverOwed, bound_is, own_marks}
use Rattle.par_laws.proofs.DeepPars.DeepScenes.{pieces}
use Rattle.par_laws.proofs.DeepPars.DeepScenes.{apart_ending, rec_is, region_of}
use Rattle.par_laws.proofs.DeepPars.DeepSides.{IsSplit, at, child_holds, cutting, listed}
use Rattle.par_laws.proofs.DeepPars.DeepSides.{lower_part}
use Rattle.par_laws.proofs.DeepPars.DeepSides.{middle, now_distinct}
use Rattle.par_laws.proofs.DeepPars.DeepSides.{own_cut, place, rules, shows_child, upper_part}
use Rattle.par_laws.proofs.DeepPars.DeepSides.{upper_round}
use Rattle.par_laws.proofs.DeepPars.DeepSides.{upper_state}
use Rattle.scene_laws.proofs.Cuts.Gaps.{gap_more, gap_none}
use Rattle.scene_laws.proofs.Merges.JoinsModes.{covered}
use Rattle.scene_laws.proofs.Merges.JoinsSides.{child_side}
use Rattle.scene_laws.proofs.Scenes.Moves.{opened}
use Rattle.scene_laws.proofs.Cuts.OldestOwed.{PartsOwed, oldest_cut_owed}
use Rattle.scene_laws.proofs.Cuts.OldestStacks.{HasLeft, left_has, marks_behind}
use Rattle.scene_laws.proofs.Cuts.OwnWork.{OwnCut, has_iteration, own_child, own_left}
use Rattle.scene_laws.proofs.Pairs.PairPromises.{is_begun_by, output_of}
use Rattle.scene_laws.proofs.Scenes.Pieces.{Apart, Piece}
use Rattle.scene_laws.proofs.Scenes.Promises.{CanRun, Promise, lesser}
use Rattle.scene_laws.proofs.Scenes.Regions.{AreShown, Covers, Region}
use Rattle.scene_laws.proofs.Scenes.Results.{Result, noting, result}
use Rattle.scene_laws.proofs.Scenes.Scene.{GoesBack, IsUncut, Near}
use Rattle.scene_laws.proofs.Cuts.Sides.{child_region, left_region, side_by}
use Rattle.scene_laws.proofs.Scenes.Variables.{var_names}

module _ {code : Listing} {heartbeat z : ℕ} {act : Activation} (d : Deep code heartbeat z act)
    (i : Piece d.S.World) (marks : List Mark) (state : machine.State)
    (h : IsSplit d i marks state) where
  abbrev level : ℕ
  level = length d.q.names

  abbrev own : OwnCut
  own = own_cut d i marks state h

  abbrev region : Region
  region = region_of d i

  -- the iterations of the left, and those of the child
  abbrev pub lower : Ran
  lower = lower_of d.p d.fuel d.q.loop (cutting d i marks state h)

  abbrev upper : Ran
  upper = upper_of d.p d.fuel d.q.loop (cutting d i marks state h)

  -- ---- the left

  module _ (c : ℕ) (words : List Word) (beat : BeatState) where
    abbrev pub left : machine.State
    left = own_left own c state words beat

    has : HasLeft own c (marks_behind own marks) state.stack left.stack
    has = left_has (place d i marks state h) c state (at d i marks state h) d.rules.distinct

    -- its mark stands where it has an iteration
    mark_by : (n : ℕ) → h.below ≡ n → has_iteration own ≡ are_any n
    mark_by zero is =
        gap_none (h.first +ℤ pos h.begun) (middle d i marks state h) (omega (arith, ints, is))
    mark_by (suc n) is =
        gap_more n (h.first +ℤ pos h.begun) (middle d i marks state h) (omega (arith, ints, is))

    marks_by : (b : Bool) → has_iteration own ≡ b
        → marks_behind own marks ≡ own_marks d b ++ marks
    marks_by true is = rw is refl
    marks_by false is = rw is refl

    pub left_marks : left.stack.marks ≡ own_marks d (are_any h.below) ++ marks
    left_marks = has.marked ∙ marks_by (are_any h.below) (mark_by h.below refl)

    -- wherever it was interrupted it goes back
    pub left_gone : KeepsPlace state words beat → GoesBack code state left
    left_gone keeps = record {
      stands = by_iteration (has_iteration own);
      size = keeps.size;
      label = keeps.high 30 (omega arith);
      base = keeps.high 31 (omega arith);
      quiet = keeps.quiet ∙ h.turned.quiet;
    }
      where
        by_iteration : (b : Bool) → Remains code
            (cond b (back_label d.q.site.label) (none_label d.q.site.label)) 0 []
            (term.Jump (value.Reg 30))
        by_iteration true = record {
          block = back_block d.q.site.label;
          found = d.q.is_deep.is_site.handler.1.0;
          rest = refl;
          ends = refl;
        }
        by_iteration false =
            opened code (none_label d.q.site.label) [] (term.Jump (value.Reg 30)) d.q.is_deep.none

    other : (a : ℕ) → z ≤ a → a ≢ z + d.q.site.rec → a ≢ z + d.q.site.bound
        → word_at left.stack (pos a) ≡ word_at state.stack (pos a)
    other a from not_rec not_bound = has.others a from not_rec not_bound

    -- but for its record and its bound all is as it was from its activation on
    pub left_near : Near z (MayRunning d) (suc level) state.stack left.stack
    left_near = record {
      low = omega (arith, has.base);
      top = has.top;
      levels = other (z + levels_cell) (omega arith)
          (λ e. absurd (omega (arith, e, rec_is d))) (λ e. absurd (omega (arith, e, bound_is d)));
      vars = λ x low. other (z + value_cell x) (omega arith)
          (λ e. absurd (omega (arith, e, rec_is d, d.q.nested)))
          (λ e. absurd (omega (arith, e, bound_is d)));
      own = λ a may. other (z + a) (omega arith) (λ e. may.no_rec (omega (arith, e)))
          (λ e. may.no_bound (omega (arith, e)));
      above = λ a from. other a (omega (arith, from))
          (λ e. absurd (omega (arith, e, from, rec_is d, d.q.nested)))
          (λ e. absurd (omega (arith, e, from, bound_is d)));
    }

    pub left_rec : word_at left.stack (pos (z + d.q.site.rec)) ≡ Some (word.Rec c)
    left_rec = has.rec

    pub left_bound : word_at left.stack (pos (z + d.q.site.bound))
        ≡ Some (word.Int (middle d i marks state h))
    left_bound = has.bound

    pub left_other : (a : ℕ) → z ≤ a → a ≢ z + d.q.site.rec → a ≢ z + d.q.site.bound
        → word_at left.stack (pos a) ≡ word_at state.stack (pos a)
    left_other = other

    pub left_base : left.stack.base ≡ z
    left_base = has.base

    pub left_top : left.stack.base + length left.stack.cells
        ≡ state.stack.base + length state.stack.cells
    left_top = has.top

    pub left_held : AreShown
        (left_region h.start.vars (middle d i marks state h) d.q.loop.carries.items region)
        left.tables h.st.tables
    left_held =
        left_tables d.q.is_deep.is_site.scope h.start.vars (middle d i marks state h)
        d.q.loop.carries.items region state.tables h.st.tables (listed d i marks state h)
        (now_distinct d i marks state h) h.held

  -- what the left owes
  abbrev pub LeftOwed : Type 0
  LeftOwed =
      (c : ℕ) (words : List Word) (beat : BeatState) → KeepsPlace state words beat
      → CanRun code (left c words beat)
      → Bound code heartbeat false 0 (left c words beat)
      (apart_ending d (lower_part d i marks state h c) (result lower).end)

  module _ (joins : JoinsLoop code heartbeat d.q.site) (turns : FirstOwed d h.above)
      (over_owed : OverOwed d) (left_owed : LeftOwed) where
    -- ---- the child

    module _ (c : ℕ) (words : List Word) (beat : BeatState) (size : length words ≡ 32)
        (base : register words 31 ≡ word.Int (pos z)) where
      child_rules : Lawful d.p d.q.modes (var_names (upper_state d i marks state h).vars) d.q.loop
      child_rules =
          subst (λ (names : List (List ℕ)). Lawful d.p d.q.modes names d.q.loop)
          (sym (upper_round d i marks state h).names) (rules d i marks state h)

      child_covered : AllByRecursion
          (Covers (child_region h.start.vars (middle d i marks state h) d.q.loop.carries.items
          region)) upper.notes
      child_covered =
          covered d.p d.q.modes d.q.loop d.fuel d.room (Chance ∷ []) [] (suc h.above)
          (middle d i marks state h) h.to (upper_state d i marks state h)
          (child_region h.start.vars (middle d i marks state h) d.q.loop.carries.items region)
          child_rules (child_holds d i marks state h) (tt, tt) tt
          (omega (arith, ints, h.far, h.all))

      child_owes : CanRun code (own_child own c state words beat)
          → Bound code heartbeat false 0 (own_child own c state words beat)
          (ending.At c Right (side_by d.q.is_deep.is_site.scope d.q.loop
          (upper_part d i marks state h c words beat size base) (result upper).end))
      child_owes can =
          turns (middle d i marks state h) h.to
          (Apart (upper_part d i marks state h c words beat size base))
          (upper_state d i marks state h) (own_child own c state words beat)
          (shows_child d i marks state h c words beat size base) (child_holds d i marks state h)
          (omega (arith, ints, h.far, h.all))
          (omega (arith, ints, h.in_first, h.in_to, h.far, h.all)) h.in_to
          (omega (arith, h.short, h.all)) refl refl child_covered can

    -- ---- both

    -- what is owed is the rest of the whole
    module _ (r : Result) (ns : List Note)
        (is_rest : noting ns r ≡ result (whole d i marks state h joins 0)) where
      abbrev P : Promise code heartbeat (Piece d.S.World)
      P = pieces d

      forks_owed : P.given i r → (c : ℕ) → PartsOwed code heartbeat own state (P.ending i r) c
      forks_owed given c = record {
        p = side_by d.q.is_deep.is_site.scope d.q.loop (lower_part d i marks state h c)
            (result lower).end;
        q = side_by d.q.is_deep.is_site.scope d.q.loop
            (child_side d.q.loop c region (middle d i marks state h) h.start) (result upper).end;
        so = is_begun_by h.st.output (output_of (result lower).end);
        left = λ words beat keeps can. left_owed c words beat keeps can;
        child = λ words beat size base can. child_owes c words beat size base can;
        merged = λ so belongs.
            merges d i marks state h joins c belongs so r ns is_rest over_owed given;
      }

      -- a diverted task owes it, where it owes it when it goes back
      pub split_owed : ((u : machine.State) → GoesBack code state u → IsUncut state u
          → (P.owing i r).Holds u) → (P.diverted i r).Holds state
      split_owed back =
          P.turned_closes i r state
          (λ given can.
          oldest_cut_owed code heartbeat (place d i marks state h) state (at d i marks state h)
          (P.ending i r)
          (λ u gone uncut can_u.
          lesser code heartbeat false (P.least i r) 0 u (P.ending i r) (omega arith)
          (P.opens i r u (back u gone uncut) given can_u))
          (λ c free. forks_owed given c) can)
