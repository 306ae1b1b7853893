-- The child of a pair of calls owes the end of the second call.
use Rattle.std.proofs.Common.{◌≡◌, ◌≢◌, ℕ, suc, ◌+◌, ◌<◌, ◌≤◌, false, List, [], length, Some, refl}
use Rattle.std.proofs.Common.{sym, ap, subst, ◌∙◌, arith}
use Rattle.std.specs.Prelude.{ℤ, pos, ⊤}
use Rattle.std.specs.List.{AllByRecursion}
use Rattle.beat_count.specs.BeatState.{BeatState}
use Rattle.stack_marks.specs.Stacks.{word_at}
use Rattle.tp_value.specs.declared.Table.{Table}
use Rattle.loop_meaning.specs.declared.value.Variable.{Variable}
use Rattle.loop_meaning.specs.InRange.{InRange}
use Rattle.loop_meaning.specs.State as meaning
use Rattle.loop_meaning.specs.Statements.{with_call}
use Rattle.tpal_syntax.specs.declared.words.Word.{Word}
use Rattle.tpal_syntax.specs.declared.words.Word.TheVariants as word
use Rattle.tpal_syntax.specs.Listing.{Listing}
use Rattle.tpal_machine.specs.declared.cut.TableCut.TheVariants.{Whole}
use Rattle.tpal_machine.specs.Cut.{child_of, each_part}
use Rattle.tpal_machine.specs.declared.ends.SideName.TheVariants.{Right}
use Rattle.tpal_machine.specs.Owes.{Bound}
use Rattle.tpal_machine.specs.Reading.{register}
use Rattle.tpal_machine.specs.State as machine
use Rattle.tpal_machine.proofs.Kit.{IsCalm}
use Rattle.frame_machine.specs.FrameLaws.{child_start, WholeCells}
use Rattle.frame_machine.specs.Iterating.{NoCell}
use Rattle.frame_machine.specs.Parts.{NotesKeep}
use Rattle.frame_machine.proofs.Pairs.{call_keeps}
use Rattle.handler_gen.specs.CallCuts.{child_call_cells}
use Rattle.handler_gen.specs.Sites.{child_end_label}
use Rattle.scene_laws.specs.Layout.{Activation, kept_cell, kept_record, levels_cell, value_cell}
use Rattle.scene_laws.specs.Layout.{kept_argument}
use Rattle.form_laws.proofs.Forms.Arguments.{AreIn, are_in_same}
use Rattle.scene_laws.proofs.Scenes.Called.{with_value}
use Rattle.form_laws.proofs.Forms.Callees.{Returns}
use Rattle.form_laws.proofs.Forms.Calls.{Keeping}
use Rattle.scene_laws.proofs.Scenes.Moves.{opened}
use Rattle.form_laws.proofs.CallPairs.PairChildren.{child_part, child_scene, its_value, uncut}
use Rattle.form_laws.proofs.CallPairs.PairChildren.{value_end}
use Rattle.form_laws.proofs.CallPairs.PairChildren.{value_notes}
use Rattle.form_laws.proofs.CallPairs.PairCuts.{IsPairChild, pair_child}
use Rattle.form_laws.proofs.CallPairs.PairPlaces.{CutsChild, PairAt, calls}
use Rattle.scene_laws.proofs.Pairs.PairPromises.{call_ending, side_ends}
use Rattle.scene_laws.proofs.Pairs.PairRuns.{call_end}
use Rattle.form_laws.proofs.CallPairs.PairScenes.{covered, shared_holds, shared_region}
use Rattle.form_laws.proofs.CallPairs.PairSeconds.{CalledAt, FunctionOwed, act_in, calls_second}
use Rattle.form_laws.proofs.CallPairs.PairSeconds.{inside}
use Rattle.scene_laws.proofs.Cuts.Parts.{child_extent, child_shown, parts_shown}
use Rattle.scene_laws.proofs.Scenes.Regions.{AreShown, Covers, Region}
use Rattle.scene_laws.proofs.Scenes.Results.{fin, result, then}
use Rattle.scene_laws.proofs.Scenes.Scene.{Scene, ShowsIn}
use Rattle.scene_laws.proofs.Scenes.Showing.{as_many}
use Rattle.scene_laws.proofs.Scenes.Variables.{held_same}

module _ {code : Listing} {heartbeat z : ℕ} {act : Activation} (q : PairAt code heartbeat z act)
    (there : CalledAt code act q.p.funcs.items q.g.text.items q.second) (n : ℕ) (region : Region)
  where
    -- the scene of its own activation, which keeps its record
    abbrev pub own_scene : Scene code heartbeat z
    own_scene = child_scene code heartbeat z act q.fuel q.S.dispatch q.site (suc q.room) n
        (shared_region region)

    abbrev pub kept_rec : Keeping code heartbeat z act q.fuel own_scene q.names ⊤
    kept_rec = record {
      Holds = λ a s. word_at s (pos (z + q.site.rec)) ≡ Some (word.Rec n);
      same = λ most a s t alike is. alike (z + q.site.rec) (omega (arith, q.rec_is, most))
          (omega (arith, q.rec_is, q.fits)) ∙ is;
    }

    abbrev pub next_child : ⊤ → ℤ → meaning.State → meaning.Ran
    next_child a = its_value

    pub from_zero : own_scene.lowest ≤ length q.names
    from_zero = omega arith

    abbrev pub child_inside : Scene code heartbeat (z + act.size)
    child_inside =
        inside code heartbeat z act q.fuel own_scene q.names from_zero q.has_room q.low ⊤ kept_rec
        next_child fin q.room (child_end_label q.site.label) refl q.few q.p.funcs.items q.g q.second
        there

    abbrev pub child_act : Activation
    child_act =
        act_in code heartbeat z act q.fuel own_scene q.names from_zero q.has_room q.low ⊤ kept_rec
        next_child fin q.room (child_end_label q.site.label) refl q.few q.p.funcs.items q.g q.second
        there

    -- the function returns to where the child ends
    pub child_returns : IsCalm code (child_end_label q.site.label)
        → Returns code heartbeat q.fuel (z + act.size) child_act child_inside
    child_returns calm_end = record {
      label = λ w. child_end_label q.site.label;
      calm = λ w. calm_end;
      held = λ w s h. h.label;
      bare = refl;
      goes_on = ends;
    }
      where
        ends : (w : child_inside.World) (names_in : List (List ℕ)) (st : meaning.State)
            (state : machine.State) (v : ℤ) (beat : BeatState)
            → ShowsIn code heartbeat (z + act.size) child_act q.fuel child_inside w names_in st state
            → InRange v → register state.registers 0 ≡ word.Int v
            → (child_inside.owing w (fin (with_value v st))).Holds
            (record state { beat = beat; block = child_end_label q.site.label; at = 0 })
        ends w names_in st state v beat shows fits_v is =
            side_ends code heartbeat (λ (i : ⊤). child_part n (shared_region region)) tt v st
            task
            (q.joins.child_ends z n Right (word.Int v) task (record {
              block = refl;
              at = refl;
              size = shows.size;
              base = shows.base ∙ ap (λ (m : ℕ). word.Int (pos (z + m))) (sym q.cells);
              value = is;
              goal = shows.ends;
              free = shows.free;
              unmet = shows.unmet;
            }) (omega (arith, q.low, q.cells)) shows.keeps.also) shows.ticks shows.printed
            (omega arith) fits_v
          where
            task : machine.State
            task = record state { beat = beat; block = child_end_label q.site.label; at = 0 }

    -- ---- the child from the begin of the second call on

    module _ (owed : FunctionOwed code heartbeat z act q.fuel own_scene q.names from_zero
        q.has_room q.low ⊤ kept_rec next_child fin q.room (child_end_label q.site.label) refl q.few
        q.p.funcs.items q.g q.second there) where
      pub child_owed : (vs : List Variable) (ts : List Table) (ms : List ℤ) (state : machine.State)
          → CutsChild q n region vs ts ms state → (words : List Word) (beat : BeatState)
          → IsPairChild code q.site z n state words beat
          → Bound code heartbeat false 0 (pair_child q.site z n state words beat)
          (call_ending (child_part n (shared_region region))
          (call_end (calls q q.g.text.items q.g.place ms [] (child_start vs ts))))
      child_owed vs ts ms state cuts words beat child =
          subst (λ e.
          Bound code heartbeat false 0 task (call_ending (child_part n (shared_region region))
          e))
          (value_end (calls q q.g.text.items q.g.place ms [] (child_start vs ts)))
          (calls_second code heartbeat z act q.fuel own_scene q.names from_zero q.has_room q.low ⊤
          kept_rec next_child fin q.room (child_end_label q.site.label) refl q.few q.p.funcs.items q.g
          q.second there owed
          (record {
            world = tt;
            state = child_start vs ts;
            value = tt;
            named = cuts.named;
            few = cuts.few;
            tall = omega arith;
          }) task q.second.parameters ms cuts.many refl q.eight q.fits q.high shows are_there
          cuts.has.rec
          (opened code q.site.entry _ _ q.code_is.child) given child.can)
        where
          task : machine.State
          task = pair_child q.site z n state words beat

          -- a cell of the activation but for that of the record
          cell : (off : ℕ) → off < act.size → off ≢ kept_cell act kept_record
              → word_at (child_call_cells q.site z n state.stack) (pos (z + off))
              ≡ word_at state.stack (pos (z + off))
          cell off below apart = cuts.has.others off (omega (arith, below, q.cells))
              (λ e. apart (e ∙ q.rec_is))

          are_there : AreIn (child_call_cells q.site z n state.stack) z (kept_argument act) 0 ms
          are_there = are_in_same state.stack (child_call_cells q.site z n state.stack) z
              (kept_argument act) 0 ms
              (λ j from below.
              cell (kept_argument act j) (omega (arith, below, cuts.many, q.eight, q.fits))
              (λ e. absurd (omega (arith, e, below, cuts.many, q.eight)))) cuts.args

          held_parts : AreShown (shared_region region) (each_part child_of [] 0 state.tables) ts
          held_parts = parts_shown child_of child_extent child_shown [] (λ t. Whole) region 0
              state.tables ts (uncut 0 ts) cuts.held

          -- the call touches only what is held
          given : AllByRecursion (Covers (shared_region region))
              (then (result (with_call (calls q q.g.text.items q.g.place ms [] (child_start vs ts))
              its_value)) fin).notes
          given =
              covered q.modes (shared_region region) (shared_holds q.modes region cuts.whole) _
              (subst (NotesKeep (WholeCells q.modes) NoCell)
              (sym (value_notes (calls q q.g.text.items q.g.place ms [] (child_start vs ts))))
              (call_keeps q.p q.modes q.fuel (suc q.room) q.f.text.items q.g.text.items q.rules
              q.g.text.items q.rules.second q.g.place ms [] tt (child_start vs ts)).notes)

          shows : ShowsIn code heartbeat z act q.fuel own_scene tt q.names (child_start vs ts) task
          shows = record {
            size = child.size;
            base = child.base;
            limit = cuts.limit;
            limited = refl;
            tall = omega arith;
            ticks = refl;
            within = omega arith;
            begun = omega arith;
            printed = refl;
            ends = refl;
            free = refl;
            unmet = refl;
            marked = cuts.has.marked;
            named = cuts.named;
            few = cuts.few;
            tabled = cuts.tabled;
            held = held_parts;
            can = tt;
            ranged = cuts.ranged;
            levels = cell levels_cell (omega (arith, q.has_room.room))
                (λ e. absurd (omega (arith, e))) ∙ cuts.levels;
            unmarked = refl;
            top = cuts.has.top ∙ ap (λ (m : ℕ). z + m) q.cells;
            low = omega (arith, cuts.has.base);
            room = omega (arith, cuts.has.top, q.cells, q.has_room.room);
            vars = held_same state.stack (child_call_cells q.site z n state.stack) z 0 vs
                (λ x from below. cell (value_cell x)
                (omega (arith, below, as_many vs q.names cuts.named, cuts.few, q.has_room.room))
                (λ e. absurd (omega (arith, e, below, as_many vs q.names cuts.named, cuts.few))))
                cuts.vars;
            keeps = tt;
          }
