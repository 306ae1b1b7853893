-- The task that both sides of a pair of calls merge to owes what the whole task does.
use Rattle.std.proofs.Common.{◌≡◌, ℕ, ◌+◌, ◌<◌, false, true, All, List, [], ◌++◌, length, None}
use Rattle.std.proofs.Common.{refl, sym, ap, subst, ◌∙◌, arith}
use Rattle.std.specs.Prelude.{ℤ, pos}
use Rattle.beat_count.specs.BeatState.{BeatState}
use Rattle.slices.specs.Holding.{Holding}
use Rattle.stack_marks.specs.Causes.{Holds}
use Rattle.stack_marks.specs.Stacks.{StackValue, rest_of, word_at}
use Rattle.tp_value.specs.declared.Stop.TheVariants.{Done}
use Rattle.tp_value.specs.declared.Table.{Table}
use Rattle.loop_meaning.specs.InRange.{InRange, TableInRange}
use Rattle.loop_meaning.specs.State as meaning
use Rattle.loop_meaning.specs.declared.value.Variable.{Variable}
use Rattle.loop_meaning.specs.Statements.{set_var}
use Rattle.tpal_syntax.specs.declared.words.Word.{Word}
use Rattle.tpal_syntax.specs.declared.words.Word.TheVariants as word
use Rattle.tpal_syntax.specs.Listing.{Listing}
use Rattle.tpal_machine.specs.declared.cut.TableCut.TheVariants.{Whole}
use Rattle.tpal_machine.specs.declared.ends.Ending.{Ending}
use Rattle.tpal_machine.specs.Cut as cut
use Rattle.tpal_machine.specs.Merge.{merged_task, put_together}
use Rattle.tpal_machine.specs.Owes.{Bound}
use Rattle.tpal_machine.specs.Reading.{register}
use Rattle.tpal_machine.specs.State as machine
use Rattle.expr_lower.specs.Standing.{Remains}
use Rattle.handler_gen.specs.Blocks.{call_target}
use Rattle.join_gen.specs.CallJoins.{AreSidesOfCalls}
use Rattle.scene_laws.specs.Layout.{Activation, levels_cell, value_cell}
use Rattle.scene_laws.proofs.Scenes.Called.{with_value}
use Rattle.scene_laws.proofs.Merges.MergedStacks.{rest_many, rest_word}
use Rattle.form_laws.proofs.CallPairs.PairBoth.{Both, Low, Next, R, Up, both_done, both_later}
use Rattle.form_laws.proofs.CallPairs.PairBoth.{both_printed}
use Rattle.form_laws.proofs.CallPairs.PairBoth.{both_tables, both_vars, both_within}
use Rattle.form_laws.proofs.CallPairs.PairBoth.{ending_of_both}
use Rattle.form_laws.proofs.CallPairs.PairBoth.{left_in_range, left_later, left_of, left_side}
use Rattle.form_laws.proofs.CallPairs.PairBoth.{low_is_done}
use Rattle.form_laws.proofs.CallPairs.PairBoth.{printed_both, rest, right_in_range, right_of}
use Rattle.form_laws.proofs.CallPairs.PairBoth.{right_side}
use Rattle.form_laws.proofs.CallPairs.PairBoth.{same_value, limit_is, up_is_done}
use Rattle.form_laws.proofs.CallPairs.PairChildren.{uncut}
use Rattle.form_laws.proofs.CallPairs.PairMeets.{meets_then}
use Rattle.form_laws.proofs.CallPairs.PairPlaces.{PairAt, PairCut, finish}
use Rattle.scene_laws.proofs.Pairs.PairPromises.{is_end_of}
use Rattle.scene_laws.proofs.Pairs.PairRuns.{call_end, side_slices, side_words}
use Rattle.scene_laws.proofs.Cuts.Parts.{parts_shown, rest_extent, rest_shown}
use Rattle.scene_laws.proofs.Scenes.Promises.{CanRun, lesser}
use Rattle.scene_laws.proofs.Scenes.Regions.{AreShown}
use Rattle.scene_laws.proofs.Scenes.Results.{Result, noting, result, then}
use Rattle.scene_laws.proofs.Scenes.Scene.{ShowsIn}
use Rattle.scene_laws.proofs.Scenes.Showing.{as_many, shows_assigned}
use Rattle.scene_laws.proofs.Scenes.Tables.{table_names}
use Rattle.scene_laws.proofs.Scenes.Variables.{AreHeld, held_same, var_names}

module _ {code : Listing} {heartbeat z : ℕ} {act : Activation} (q : PairAt code heartbeat z act)
  where
    -- what a task owes behind the second call, where the first one's value is in its variable and
    -- the second one's in register 0
    abbrev pub BehindOwed : Type 0
    BehindOwed =
        (w : q.S.World) (u : ℤ) (st : meaning.State) (task : machine.State) → InRange u
        → ShowsIn code heartbeat z act q.fuel q.S w q.names st task
        → register task.registers 0 ≡ word.Int u
        → Remains code task.block task.at q.more q.last
        → (q.S.owing w (then (result (q.ends u st)) q.k)).Holds task

    module _ (c : PairCut q) (n : ℕ) (left_ends : is_end_of (left_of q c n) (call_end (Low q c))
        ≡ true)
        (right_ends : is_end_of (right_of q c n) (call_end (Up q c)) ≡ true)
        (done : (Both q c).stop ≡ Done) where
      abbrev V : ℤ
      V = (Low q c).value

      abbrev U : ℤ
      U = (Up q c).value

      abbrev merged : machine.State
      merged = merged_task (call_target q.site) (rest q c n) (left_side q c n) (right_side q c n)
          (Both q c).state.ticks (printed_both q c)

      sides : AreSidesOfCalls q.site (word.Int V) (word.Int U) (rest q c n) (left_side q c n)
          (right_side q c n)
      sides = record {
        target = refl;
        left_words = side_words n c.st.output (with_value V (Low q c).ran.state) (Low q c).ran.stop
            (low_is_done q c done);
        right_words = side_words n [] (with_value U (Up q c).ran.state) (Up q c).ran.stop
            (up_is_done q c done);
      }

      -- ---- its stack

      held : Holds c.state.stack z q.site.cells
      held = (c.runs.keeps.low, omega (arith, c.runs.tall, q.cells))

      abbrev below : StackValue
      below = rest_of c.state.stack z q.site.cells

      top_below : below.base + length below.cells ≡ z + act.size
      top_below = omega (arith, rest_many c.state.stack z q.site.cells held, held.0, held.1, q.cells)

      -- all its cells are as they were
      cell : (a : ℕ) → a < z + act.size → word_at below (pos a) ≡ word_at c.state.stack (pos a)
      cell a lower = rest_word c.state.stack z q.site.cells held a (omega (arith, lower, q.cells))

      -- ---- what it shows

      held_rest : AreShown (q.S.region c.w.world) (rest q c n).tables (Both q c).state.tables
      held_rest =
          subst (λ (ts : List Table). AreShown (q.S.region c.w.world) (rest q c n).tables ts)
          (c.runs.can.1 ∙ sym (both_tables q c done))
          (parts_shown cut.rest_of rest_extent rest_shown [] (λ t. Whole) (q.S.region c.w.world) 0
          c.state.tables c.st.tables (uncut 0 c.st.tables) c.runs.held)

      -- the sides hand over no tables
      tables_are : merged.tables ≡ (rest q c n).tables
      tables_are =
          ap (λ (hs : List (ℕ × Holding)). put_together (put_together (rest q c n).tables hs)
          (right_side q c n).slices)
          (side_slices n c.st.output (with_value V (Low q c).ran.state) (Low q c).ran.stop)
          ∙ ap (λ (hs : List (ℕ × Holding)). put_together (rest q c n).tables hs)
          (side_slices n [] (with_value U (Up q c).ran.state) (Up q c).ran.stop)

      same_tables : c.st.tables ≡ (Both q c).state.tables
      same_tables = c.runs.can.1 ∙ sym (both_tables q c done)

      shows : (words : List Word) (beat : BeatState) (at : ℕ) → length words ≡ 32
          → register words 31 ≡ word.Int (pos z)
          → ShowsIn code heartbeat z act q.fuel q.S c.w.world q.names (Both q c).state
          (record merged {
            registers = words;
            stack = below;
            beat = beat;
            block = q.code_is.return;
            at = at;
            met = None;
          })
      shows words beat at size base = record {
        size = size;
        base = base;
        limit = limit_is q c n;
        limited = q.fuel_is;
        tall = c.w.tall;
        ticks = refl;
        within = both_within q c done;
        begun = omega (arith, left_later q c done n left_ends, both_later q c done);
        printed = both_printed q c n left_ends;
        ends = c.runs.ends;
        free = refl;
        unmet = refl;
        marked = sym c.none;
        named = ap var_names (both_vars q c done) ∙ c.w.named;
        few = c.w.few;
        tabled = ap table_names (both_tables q c done) ∙ c.given.tabled;
        held = subst (λ (hs : List Holding). AreShown (q.S.region c.w.world) hs
            (Both q c).state.tables) (sym tables_are) held_rest;
        can = subst (q.S.can c.w.world) same_tables c.runs.can.0;
        ranged = subst (λ (ts : List Table). All TableInRange ts) same_tables c.runs.ranged;
        levels = cell (z + levels_cell) (omega (arith, q.has_room.room)) ∙ c.runs.keeps.levels;
        unmarked = refl;
        top = top_below;
        low = c.runs.keeps.low;
        room = omega (arith, top_below, q.has_room.room);
        vars = subst (λ (vs : List Variable). AreHeld below z 0 vs) (sym (both_vars q c done))
            (held_same c.state.stack below z 0 c.w.state.vars
            (λ x from inside. cell (z + value_cell x)
            (omega (
              arith,
              inside,
              as_many c.w.state.vars q.names c.w.named,
              c.w.few,
              q.has_room.room,
            )))
            c.runs.keeps.vars);
        keeps = q.S.stable c.w.world (length q.names) c.state.stack below q.lowest
            (record {
              base = refl;
              at = λ a lower others. cell a (omega (arith, lower, c.w.few, q.has_room.room));
            }) c.runs.keeps.keeps;
      }

      -- ---- what it owes

      abbrev R_there : Result
      R_there = then (result (finish q V (Next q c).value (Both q c).state)) q.k

      inside : q.cell < act.size
      inside = omega (arith, q.is_cell.at_level, q.is_cell.below, q.has_room.room)

      module _ (post : BehindOwed) (given : q.S.given c.w.world (R q c)) where
        owes : (q.S.owing c.w.world R_there).Holds merged
        owes =
            meets_then code heartbeat z act q.site q.joins q.second.size q.code_is.return
            q.cell q.code_is.joined q.more q.last q.code_is.behind q.high inside
            (q.S.owing c.w.world R_there) (rest q c n) (left_side q c n) (right_side q c n)
            (Both q c).state.ticks (printed_both q c) V U refl c.runs.keeps.low top_below refl sides
            (λ words beat at size base value_is stands.
            post c.w.world (Next q c).value (set_var q.x V (Both q c).state) _
            (subst InRange (sym (same_value q c done)) (right_in_range q c done n right_ends))
            (shows_assigned code heartbeat z act q.fuel q.S c.w.world
            (shows words beat at size base) q.fixed q.x.text.items q.cell V q.is_cell q.may q.lowest
            (left_in_range q c done n left_ends))
            (value_is ∙ ap (λ (m : ℤ). word.Int m) (sym (same_value q c done))) stands)

        pub joined_owes : CanRun code merged
            → Bound code heartbeat false 0 merged (ending_of_both q c)
        joined_owes can =
            subst (λ (e : Ending). Bound code heartbeat false 0 merged e) same
            (lesser code heartbeat false (q.S.least c.w.world R_there) 0 merged
            (q.S.ending c.w.world R_there) (omega arith)
            (q.S.opens c.w.world R_there merged owes given_there can))
          where
            is : R q c ≡ noting (c.r.notes ++ (Next q c).ran.notes) R_there
            is = both_done q c done

            given_there : q.S.given c.w.world R_there
            given_there = q.S.fewer c.w.world (c.r.notes ++ (Next q c).ran.notes) R_there
                (subst (λ (x : Result). q.S.given c.w.world x) is given)

            same : q.S.ending c.w.world R_there ≡ ending_of_both q c
            same = sym (ap (λ (x : Result). q.S.ending c.w.world x) is
                ∙ q.S.blind c.w.world (c.r.notes ++ (Next q c).ran.notes) R_there)
