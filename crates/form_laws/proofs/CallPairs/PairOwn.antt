-- The first function of a pair of calls is cut where the pair's mark is the oldest: the left keeps
-- the first call, the child makes the second, and what both merge to goes on behind the pair.
use Rattle.std.proofs.Common.{◌≡◌, ℕ, suc, ◌+◌, ◌<◌, ◌≤◌, Bool, true, false, List, [], ◌∷◌, ◌++◌}
use Rattle.std.proofs.Common.{Some, refl, sym, ap, subst, ◌∙◌, inl, inr, append-nil, arith}
use Rattle.std.specs.Prelude.{pos}
use Rattle.std.specs.List.{AllByRecursion}
use Rattle.beat_count.specs.BeatState.{BeatState}
use Rattle.stack_marks.specs.Causes.{Holds}
use Rattle.stack_marks.specs.declared.mark.Mark.{Mark}
use Rattle.stack_marks.specs.Stacks.{word_at}
use Rattle.tp_value.specs.declared.Stop.{Stop}
use Rattle.tp_value.specs.declared.Stop.TheVariants.{Done, NoFuel, Trap}
use Rattle.tp_value.specs.declared.Stop.TheVariants as stop
use Rattle.tp_value.specs.declared.Table.{Table}
use Rattle.tpal_syntax.specs.declared.words.Word.{Word}
use Rattle.tpal_syntax.specs.declared.words.Word.TheVariants as word
use Rattle.tpal_syntax.specs.Listing.{Listing}
use Rattle.tpal_machine.specs.Belongs.{RestBelongsTo}
use Rattle.tpal_machine.specs.declared.cut.TableCut.TheVariants.{Whole}
use Rattle.tpal_machine.specs.Cut as cut
use Rattle.tpal_machine.specs.declared.ends.Ending.{Ending}
use Rattle.tpal_machine.specs.declared.ends.SideName.TheVariants.{Left, Right}
use Rattle.tpal_machine.specs.Owes.{Bound}
use Rattle.tpal_machine.specs.State as machine
use Rattle.frame_machine.specs.FrameLaws.{child_start}
use Rattle.handler_gen.specs.CallCuts.{call_mark}
use Rattle.handler_gen.specs.Sites.{target_label}
use Rattle.scene_laws.specs.Layout.{Activation, levels_cell, value_cell}
use Rattle.scene_laws.proofs.Cuts.AtHandlers.{MergesTo}
use Rattle.scene_laws.proofs.Scenes.Activations.{marks_from}
use Rattle.form_laws.proofs.CallPairs.PairBoth.{Both, Low, R, Up, both_early, ending_of_both}
use Rattle.form_laws.proofs.CallPairs.PairBoth.{left_of}
use Rattle.form_laws.proofs.CallPairs.PairBoth.{left_side, limit_is, rest, right_of, right_side}
use Rattle.form_laws.proofs.CallPairs.PairBoth.{target_is}
use Rattle.form_laws.proofs.CallPairs.PairChildren.{uncut}
use Rattle.form_laws.proofs.CallPairs.PairCuts.{IsPairChild, PairForkOwed, pair_child}
use Rattle.form_laws.proofs.CallPairs.PairCuts.{pair_cut_owed, pair_left}
use Rattle.form_laws.proofs.CallPairs.PairJoined.{BehindOwed, joined_owes}
use Rattle.form_laws.proofs.CallPairs.PairPlaces.{ChildOwed, Firsts, PairAt, PairCut, Runs, calls}
use Rattle.scene_laws.proofs.Pairs.PairPromises.{call_ending, call_ending_by, ends_no_root}
use Rattle.scene_laws.proofs.Pairs.PairPromises.{is_end_of}
use Rattle.scene_laws.proofs.Pairs.PairRuns.{call_end, merge_ends, merge_goes, whole_stays}
use Rattle.form_laws.proofs.CallPairs.PairScenes.{HoldsWhole, covered, shared_holds}
use Rattle.form_laws.proofs.CallPairs.PairStacks.{HasFirst, first_has, second_has}
use Rattle.scene_laws.proofs.Cuts.Parts.{left_extent, left_shown, parts_shown}
use Rattle.scene_laws.proofs.Scenes.Pieces.{Apart, Host}
use Rattle.scene_laws.proofs.Scenes.Promises.{CanRun, lesser}
use Rattle.scene_laws.proofs.Scenes.Regions.{AreShown, Covers}
use Rattle.scene_laws.proofs.Scenes.Results.{End}
use Rattle.scene_laws.proofs.Scenes.Scene.{GoesBack, IsEarly, IsUncut, Near, header}
use Rattle.scene_laws.proofs.Scenes.Tables.{table_names}

module _ {code : Listing} {heartbeat z : ℕ} {act : Activation} (q : PairAt code heartbeat z act)
  where
    module _ (c : PairCut q) where
      abbrev e : Ending
      e = ending_of_both q c

      marked_there : c.state.stack.marks ≡ call_mark q.site z ∷ c.more
      marked_there =
          c.runs.marked ∙ ap (λ (ms : List Mark). (ms ++ call_mark q.site z ∷ []) ++ c.more) c.none

      held : Holds c.state.stack z (q.site.cells + 2)
      held = (c.runs.keeps.low, omega (arith, c.runs.tall, q.cells))

      inside : q.site.rec < q.site.cells
      inside = omega (arith, q.rec_is, q.cells, q.fits)

      whole : HoldsWhole q.modes (q.S.region c.w.world)
      whole = q.whole c.w.world c.state.stack c.runs.keeps.keeps

      -- ---- under a record

      module _ (n : ℕ) (words others : List Word) (beat later : BeatState)
          (gone : GoesBack code c.state (pair_left q.site z n c.state words beat))
          (child_can : IsPairChild code q.site z n c.state others later) where
        abbrev u : machine.State
        u = pair_left q.site z n c.state words beat

        has : HasFirst q.site z n c.more c.state.stack u.stack
        has = first_has q.site z n c.more c.state.stack held inside marked_there
            (omega (arith, q.mark_is, q.cells, q.fits))
            (marks_from c.more (z + q.site.cells) (z + act.size + value_cell 0)
            (omega (arith, q.cells)) c.from)

        near : Near (z + act.size) (λ o. header ≤ o) 0 c.state.stack u.stack
        near = record {
          low = omega (arith, has.base, q.cells);
          top = has.top;
          levels = has.others (z + act.size + levels_cell) (omega (arith, q.cells));
          vars = λ x below. absurd (omega (arith, below));
          own = λ o from_header.
              has.others (z + act.size + o) (omega (arith, q.cells, from_header));
          above = λ b above. has.others b (omega (arith, q.cells, above));
        }

        held_left : AreShown (left_of q c n).region u.tables c.st.tables
        held_left =
            parts_shown cut.left_of left_extent left_shown [] (λ t. Whole) (q.S.region c.w.world) 0
            c.state.tables c.st.tables (uncut 0 c.st.tables) c.runs.held

        runs_left : Runs q (Apart (left_of q c n)) c.more c.st u
        runs_left = record {
          many = gone.size;
          limit = c.runs.limit;
          ticks = c.runs.ticks;
          within = c.runs.within;
          begun = c.runs.begun;
          printed = sym (append-nil c.st.output);
          ends = refl;
          free = refl;
          unmet = refl;
          marked = has.marked;
          held = held_left;
          can = tt;
          ranged = c.runs.ranged;
          low = omega (arith, has.base, q.cells);
          tall = omega (arith, has.top, c.runs.tall);
          keeps = record {
            label = ap (λ (b : ℕ). word_at u.stack (pos b)) (omega (arith, q.cells)) ∙ has.label;
            rec = ap (λ (b : ℕ). word_at u.stack (pos b)) (omega (arith, q.cells)) ∙ has.rec;
            whole = shared_holds q.modes (q.S.region c.w.world) whole;
          };
        }

        module _ (child : ChildOwed q) (post : BehindOwed q) (given : q.S.given c.w.world (R q c))
            (left : ((Firsts q).owing (Apart (left_of q c n)) c.r).Holds u)
            (can : CanRun code u) where
          given_left : AllByRecursion (Covers (left_of q c n).region) c.r.notes
          given_left = covered q.modes (left_of q c n).region
              (shared_holds q.modes (q.S.region c.w.world) whole) c.r.notes c.given.keeps

          left_bound : Bound code heartbeat false 0 u
              (call_ending (left_of q c n) (call_end (Low q c)))
          left_bound =
              subst (λ (end : End). Bound code heartbeat false 0 u (call_ending (left_of q c n) end))
              c.given.ends (left given_left can)

          child_bound : Bound code heartbeat false 0 (pair_child q.site z n c.state others later)
              (call_ending (right_of q c n) (call_end (Up q c)))
          child_bound =
              subst (λ (ts : List Table). Bound code heartbeat false 0
              (pair_child q.site z n c.state others later)
              (call_ending (right_of q c n) (call_end (calls q q.g.text.items q.g.place
              c.w.value.kept_numbers [] (child_start c.w.state.vars ts))))) c.runs.can.1
              (child n (q.S.region c.w.world) c.w.state.vars c.st.tables c.w.value.kept_numbers
              c.state (record {
                named = c.w.named;
                few = c.w.few;
                tabled = ap table_names c.runs.can.1 ∙ c.given.tabled;
                ranged = c.runs.ranged;
                held = c.runs.held;
                whole = whole;
                limit = c.runs.limit ∙ q.fuel_is;
                many = c.w.value.kept_many;
                has = second_has q.site z n c.more c.state.stack held inside;
                levels = c.runs.keeps.levels ∙ ap (λ m. Some (word.Int (pos m))) q.levels;
                vars = c.runs.keeps.vars;
                args = c.runs.keeps.also;
              }) others later child_can)

          -- both sides merge to what the whole task owes
          merges : is_end_of (left_of q c n) (call_end (Low q c)) ≡ true
              → is_end_of (right_of q c n) (call_end (Up q c)) ≡ true
              → RestBelongsTo code (rest q c n)
              → MergesTo code heartbeat (rest q c n) (left_side q c n) (right_side q c n) e
          merges left_ends right_ends belongs = by_stop (Both q c).stop refl
            where
              ends_so : IsEarly (Both q c).stop
                  → MergesTo code heartbeat (rest q c n) (left_side q c n) (right_side q c n) e
              ends_so early =
                  subst (λ (end : Ending). MergesTo code heartbeat (rest q c n) (left_side q c n)
                  (right_side q c n) end) (sym (both_early q c n left_ends early))
                  (inl (merge_ends q.p q.modes q.fuel (suc q.room) q.f.text.items q.g.text.items
                  q.f.place q.g.place q.rules c.w.value.numbers c.w.value.kept_numbers c.w.state
                  c.given.within code q.site (rest q c n) c.st.output (target_is q c n)
                  (limit_is q c n) belongs early))

              by_stop : (stop : Stop) → (Both q c).stop ≡ stop
                  → MergesTo code heartbeat (rest q c n) (left_side q c n) (right_side q c n) e
              by_stop Done done =
                  inr (
                    _,
                    merge_goes q.p q.modes q.fuel (suc q.room) q.f.text.items q.g.text.items
                        q.f.place q.g.place q.rules c.w.value.numbers c.w.value.kept_numbers c.w.state
                        c.given.within code q.site (rest q c n) c.st.output (target_is q c n)
                        (limit_is q c n) belongs done,
                    λ can_joined. joined_owes q c n left_ends right_ends done post given can_joined,
                  )
              by_stop (stop.Left number) is =
                  absurd (whole_stays q.p q.modes q.fuel (suc q.room) q.f.text.items
                  q.g.text.items q.f.place q.g.place q.rules c.w.value.numbers
                  c.w.value.kept_numbers c.w.state c.given.within q.at_most q.never number is)
              by_stop (Trap kind at) is = ends_so (rw is tt)
              by_stop NoFuel is = ends_so (rw is tt)

          fork : PairForkOwed code heartbeat q.site z c.state e n words others beat later
          fork = by_ends (is_end_of (left_of q c n) (call_end (Low q c))) refl left_bound
              (is_end_of (right_of q c n) (call_end (Up q c))) refl child_bound
            where
              -- a side that didn't end so would end the whole
              by_ends : (a : Bool) → is_end_of (left_of q c n) (call_end (Low q c)) ≡ a
                  → Bound code heartbeat false 0 u
                  (call_ending_by (left_of q c n) a (call_end (Low q c)))
                  → (b : Bool) → is_end_of (right_of q c n) (call_end (Up q c)) ≡ b
                  → Bound code heartbeat false 0 (pair_child q.site z n c.state others later)
                  (call_ending_by (right_of q c n) b (call_end (Up q c)))
                  → PairForkOwed code heartbeat q.site z c.state e n words others beat later
              by_ends false left_ends first b right_ends second =
                  absurd (ends_no_root code heartbeat false 0 n (target_label q.site.label) Left u _
                  refl first)
              by_ends true left_ends first false right_ends second =
                  absurd (ends_no_root code heartbeat false 0 n (target_label q.site.label) Right
                  (pair_child q.site z n c.state others later) _ refl second)
              by_ends true left_ends first true right_ends second = record {
                p = left_side q c n;
                q = right_side q c n;
                left_owes = first;
                child_owes = second;
                merged = λ belongs. merges left_ends right_ends belongs;
              }

      -- ---- what is owed where the pair's mark is the oldest

      pub own_cut_bound : ChildOwed q → BehindOwed q → q.S.given c.w.world (R q c)
          → ((u : machine.State) → GoesBack code c.state u → IsUncut c.state u
          → ((Firsts q).owing (Host c.w) c.r).Holds u)
          → ((n : ℕ) (u : machine.State) → GoesBack code c.state u
          → Near (z + act.size) (λ o. header ≤ o) 0 c.state.stack u.stack
          → Runs q (Apart (left_of q c n)) c.more c.st u
          → ((Firsts q).owing (Apart (left_of q c n)) c.r).Holds u)
          → CanRun code c.state → Bound code heartbeat true 0 c.state e
      own_cut_bound child post given goes_back cut_on =
          pair_cut_owed code heartbeat q.place z c.more c.state (record {
            diverted = c.diverted;
            size = c.runs.many;
            free = c.runs.free;
            unmet = c.runs.unmet;
            marked = marked_there;
            held = held;
            low = omega (arith, q.low, q.cells);
          }) e
          (λ u gone uncut can. lesser code heartbeat false (q.S.least c.w.world (R q c)) 0 u e
          (omega arith)
          (q.S.opens c.w.world (R q c) u (goes_back u gone uncut c.given) given can))
          (λ n other words others beat later gone can child_can.
          fork n words others beat later gone child_can child post given
          (cut_on n (pair_left q.site z n c.state words beat) gone
          (near n words others beat later gone child_can)
          (runs_left n words others beat later gone child_can)) can)
