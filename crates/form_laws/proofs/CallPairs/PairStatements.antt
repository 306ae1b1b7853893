-- The law of the code of two calls that can be cut, as the law of statements uses it.
use Rattle.std.proofs.Common.{◌≡◌, ℕ, zero, suc, ◌+◌, ◌<◌, ◌≤◌, true, List, [], ◌∷◌, length}
use Rattle.std.proofs.Common.{Some, refl, sym, ap, subst, ◌∙◌, arith}
use Rattle.std.specs.Prelude.{ℤ, pos, ⊤, ◌-ℤ◌}
use Rattle.beat_count.specs.Ticks.{ticked}
use Rattle.stack_marks.specs.Stacks.{StackValue, pushed}
use Rattle.tp_value.specs.declared.limits.TheConstants.{MAX_PARAMETERS}
use Rattle.tp_value.specs.declared.Stop.TheVariants.{Trap}
use Rattle.tp_value.specs.declared.TrapKind.TheVariants.{Deep}
use Rattle.tp_value.specs.Number.{wrapped}
use Rattle.loop_syntax.specs.declared.App.{App}
use Rattle.loop_syntax.specs.declared.Func.{Func}
use Rattle.loop_syntax.specs.declared.Name.{Name}
use Rattle.loop_syntax.specs.declared.Program.{Program}
use Rattle.loop_syntax.specs.declared.Stmt.TheVariants.{Both}
use Rattle.loop_rules.specs.Names.{texts}
use Rattle.loop_meaning.specs.Calls.{call_at}
use Rattle.loop_meaning.specs.InRange.{InRange}
use Rattle.loop_meaning.specs.State as meaning
use Rattle.loop_meaning.specs.State.{Chance, Ran, done, trapped}
use Rattle.loop_meaning.specs.Statements.{Setting, given_all, run, set_var, two_calls, with_call}
use Rattle.tpal_syntax.specs.declared.instructions.Instr.{Instr}
use Rattle.tpal_syntax.specs.declared.instructions.Instr.TheVariants as instr
use Rattle.tpal_syntax.specs.declared.instructions.Term.{Term}
use Rattle.tpal_syntax.specs.declared.instructions.Term.TheVariants as term
use Rattle.tpal_syntax.specs.declared.instructions.Value.TheVariants as value
use Rattle.tpal_syntax.specs.declared.sites.CallSite.{CallSite}
use Rattle.tpal_syntax.specs.declared.words.Word.TheVariants as word
use Rattle.tpal_syntax.specs.Conditions.{is_ready}
use Rattle.tpal_syntax.specs.Listing.{Listing}
use Rattle.tpal_machine.specs.Effect as effect
use Rattle.tpal_machine.specs.Reading.{block_at, note_of, register}
use Rattle.tpal_machine.specs.State as machine
use Rattle.tpal_machine.specs.Step.{advanced}
use Rattle.tpal_machine.proofs.Kit.{Back, IsCalm, on_if_not}
use Rattle.expr_lower.specs.Standing.{AreAt, Remains}
use Rattle.expr_lower.proofs.Standing.{behind, next, regrouped}
use Rattle.frame_machine.specs.Modes as mode
use Rattle.handler_gen.specs.Blocks.{dispatch_block}
use Rattle.handler_gen.specs.Sites.{child_end_label, joined_label, left_end_label, target_label}
use Rattle.join_gen.specs.Blocks.{call_join_blocks, child_end_block, left_end_block}
use Rattle.join_gen.proofs.CallJoining.{joins_calls}
use Rattle.scene_laws.specs.Code.{Arguments, IsCell, parameter_cell, store, to}
use Rattle.scene_laws.specs.Layout.{Activation, Entry, entry_of, kept_by_both, kept_cell}
use Rattle.scene_laws.specs.Layout.{value_cell, kept_argument, kept_mark}
use Rattle.form_laws.specs.Functions.{FunctionAt, bare}
use Rattle.scene_laws.specs.Pairs.{IsPair, pair_begins}
use Rattle.scene_laws.specs.Round.{Round}
use Rattle.form_laws.proofs.Premises.Admitting.{Admits}
use Rattle.form_laws.proofs.Forms.Arguments.{AreIn, are_in_same, arguments_law, wider}
use Rattle.form_laws.proofs.Premises.Around.{Around, modes_at}
use Rattle.form_laws.proofs.Forms.CallStatements.{assigns, opens}
use Rattle.scene_laws.proofs.Scenes.Called.{back_with, deep_call}
use Rattle.form_laws.proofs.Forms.Callees.{CallsOwe, HasPlace, shows_pushed}
use Rattle.form_laws.proofs.Forms.CallLaws.{returns}
use Rattle.form_laws.proofs.Premises.Cutting.{ProgramRules}
use Rattle.scene_laws.proofs.Scenes.Moves.{calm, traps}
use Rattle.form_laws.proofs.Premises.Occurring.{by_first, by_second}
use Rattle.form_laws.proofs.CallPairs.PairBegins.{first_owed}
use Rattle.form_laws.proofs.CallPairs.PairBoth.{R}
use Rattle.form_laws.proofs.CallPairs.PairChildRuns.{child_inside, child_owed, child_returns}
use Rattle.form_laws.proofs.CallPairs.PairEntered.{C, FirstOwed}
use Rattle.form_laws.proofs.CallPairs.PairJoined.{BehindOwed}
use Rattle.form_laws.proofs.CallPairs.PairOwn.{own_cut_bound}
use Rattle.form_laws.proofs.CallPairs.PairPlaces.{Args, ChildOwed, CutsOwed, PairAt, PairCut}
use Rattle.form_laws.proofs.CallPairs.PairPlaces.{Worlds}
use Rattle.form_laws.proofs.CallPairs.PairPlaces.{first_call, kept, next_in}
use Rattle.form_laws.proofs.CallPairs.PairReturns.{SecondOwed, first_returns, next_second}
use Rattle.form_laws.proofs.CallPairs.PairReturns.{nothing_kept}
use Rattle.form_laws.proofs.CallPairs.PairScenes.{early_first, shared_holds}
use Rattle.form_laws.proofs.CallPairs.PairSeconds.{CalledAt, inside}
use Rattle.form_laws.proofs.CallPairs.PairTests.{tested, up_to_test}
use Rattle.form_laws.proofs.Premises.Permitting.{PermitsCall, PermitsOne}
use Rattle.scene_laws.proofs.Scenes.Pieces.{Apart, Host}
use Rattle.scene_laws.proofs.Scenes.Regions.{IsWholly}
use Rattle.scene_laws.proofs.Scenes.Results.{Result, out, result, then}
use Rattle.scene_laws.proofs.Scenes.Scene.{Owed, Scene, ShowsIn}
use Rattle.form_laws.proofs.Premises.Serving.{served_call}
use Rattle.scene_laws.proofs.Scenes.Showing.{shows_ticked}
use Rattle.form_laws.proofs.Forms.Ticks.{ticks}
use Rattle.scene_laws.proofs.Scenes.Values.{ExprLaw}

-- ---- what stands in a code round a pair of calls

-- the blocks where its sides end are no promotion points
module _ (code : Listing) (site : CallSite)
    (join : AreAt code (target_label site.label) (call_join_blocks site)) where
  calm_child : IsCalm code (child_end_label site.label)
  calm_child =
      let same : target_label site.label + 1 + 1 ≡ child_end_label site.label = omega arith in
      ap (λ b. is_ready (note_of b))
      (subst (λ (l : ℕ). block_at code l ≡ Some (child_end_block site)) same join.1.1.0)

  calm_left : IsCalm code (left_end_label site.label)
  calm_left =
      let same : target_label site.label + 1 + 1 + 1 ≡ left_end_label site.label = omega arith in
      ap (λ b. is_ready (note_of b))
      (subst (λ (l : ℕ). block_at code l ≡ Some (left_end_block site)) same join.1.1.1.0)

-- a function of a code as one that is called
abbrev called_at : (code : Listing) (act : Activation) (fs : List Func) (x : List ℕ) (entry : Entry)
    → FunctionAt code (bare act) fs x entry → CalledAt code act fs x entry
called_at code act fs x entry f = record {
  func = f.func;
  named = f.named;
  arity = f.arity;
  most = f.most;
  params = f.is.params;
  has_room =
      record { few = f.is.has_room.few; room = f.is.has_room.room; fits = f.is.has_room.fits };
  instrs = f.is.instrs;
  end = f.is.end;
  begins = f.is.begins;
}

-- ---- where a level is left

module _ (code : Listing) (heartbeat z : ℕ) (act : Activation) (q : PairAt code heartbeat z act)
    (calls : CallsOwe code heartbeat q.fuel (bare act) q.p (suc q.room))
    (place : HasPlace z act (suc q.room)) (around : Around)
    (same : (t : List ℕ) → q.modes t ≡ modes_at around t) (opened : q.S.is_open ≡ true)
    (diverts : q.S.dispatch ≡ act.dispatch)
    (early : (w : q.S.World) (n : ℕ) (printed : List ℕ)
    → q.S.since (q.S.cut w n printed) ≤ q.S.since w)
    (is_first : entry_of act.functions q.f.text.items ≡ Some q.first)
    (is_second : entry_of act.functions q.g.text.items ≡ Some q.second) (post : BehindOwed q) where
  abbrev first_there : CalledAt code act q.p.funcs.items q.f.text.items q.first
  first_there = called_at code act q.p.funcs.items q.f.text.items q.first
      (calls.are q.f.text.items q.first is_first)

  abbrev second_there : CalledAt code act q.p.funcs.items q.g.text.items q.second
  second_there = called_at code act q.p.funcs.items q.g.text.items q.second
      (calls.are q.g.text.items q.second is_second)

  -- the second call where nothing is cut off
  second_owed : SecondOwed q second_there
  second_owed =
      calls.owe q.g.text.items q.second is_second (z + act.size)
      (record {
        has_room = second_there.has_room;
        deep = omega (arith, place.deep, place.has_room.fits);
      })
      (inside code heartbeat z act q.fuel q.S q.names q.lowest q.has_room q.low ⊤
      (nothing_kept q) (next_second q) q.k q.room q.code_is.return q.levels q.few q.p.funcs.items
      q.g q.second second_there) refl refl (λ c from. from)
      (λ loud. record {
        opened = opened;
        diverts = diverts;
        around = around;
        callable = λ t reads. sym (same t) ∙ q.rules.second t reads;
        served = served_call code heartbeat (z + act.size)
            (inside code heartbeat z act q.fuel q.S q.names q.lowest q.has_room q.low ⊤
            (nothing_kept q) (next_second q) q.k q.room q.code_is.return q.levels q.few
            q.p.funcs.items q.g q.second second_there) around
            (texts second_there.func.params.items)
            (λ w s kept_in t is. q.whole w.world s kept_in.keeps t (same t ∙ is))
            (λ w. early w.world);
      })
      (returns code heartbeat z act q.fuel q.S q.names q.second ⊤ (nothing_kept q)
      (next_second q) q.k q.lowest q.has_room q.low q.room q.code_is.return second_there.most q.more
      q.last q.code_is.behind
      (λ w v u task fits_v shows also is stands.
      post w.world v (back_with w.state.vars u) task fits_v shows is stands))

  -- the second call where a child makes it
  children_owed : ChildOwed q
  children_owed n region vs ts ms state cuts =
      child_owed q second_there n region
      (calls.owe q.g.text.items q.second is_second (z + act.size)
      (record {
        has_room = second_there.has_room;
        deep = omega (arith, place.deep, place.has_room.fits);
      })
      (child_inside q second_there n region) refl refl (λ c from. from)
      (λ loud. record {
        opened = refl;
        diverts = diverts;
        around = around;
        callable = λ t reads. sym (same t) ∙ q.rules.second t reads;
        served = served_call code heartbeat (z + act.size) (child_inside q second_there n region)
            around (texts second_there.func.params.items)
            (λ w s kept_in t is. shared_holds q.modes region cuts.whole t (same t ∙ is))
            (λ w k printed. omega arith);
      })
      (child_returns q second_there n region (calm_child code q.site q.code_is.join)))
      vs ts ms state cuts

  -- what is owed where the pair's mark is the oldest
  own : CutsOwed q
  own w more r st state none from diverted runs given back cut =
      q.S.turned_closes w.world (R q here) state
      (λ given_w can. own_cut_bound q here children_owed post given_w back cut can)
    where
      here : PairCut q
      here = record {
        w = w;
        more = more;
        r = r;
        st = st;
        state = state;
        none = none;
        from = from;
        diverted = diverted;
        runs = runs;
        given = given;
      }

  whole_of : (i : Worlds q) (s : StackValue) → (C q first_there own).kept i s → (t : List ℕ)
      → modes_at around t ≡ mode.Whole → IsWholly ((C q first_there own).region i t)
  whole_of (Host w) s kept_in t is = q.whole w.world s kept_in.keeps t (same t ∙ is)
  whole_of (Apart p) s kept_in t is = kept_in.whole t (same t ∙ is)

  permits_first : PermitsCall code heartbeat (z + act.size) q.p act.dispatch (C q first_there own)
      (texts first_there.func.params.items) q.f.text.items
  permits_first = record {
    opened = opened;
    diverts = diverts;
    around = around;
    callable = λ t reads. sym (same t) ∙ q.rules.first t reads;
    served = served_call code heartbeat (z + act.size) (C q first_there own) around
        (texts first_there.func.params.items) whole_of
        (early_first code heartbeat z act q.fuel q.S q.names q.lowest q.has_room (Args q) (kept q)
        (next_in q) q.k q.room q.code_is.between q.site q.mark_is q.mark_fits (first_call q) q.modes
        early);
  }

  -- the first call
  function_owed : FirstOwed q first_there own
  function_owed =
      calls.owe q.f.text.items q.first is_first (z + act.size)
      (record {
        has_room = first_there.has_room;
        deep = omega (arith, place.deep, place.has_room.fits);
      })
      (C q first_there own) refl refl (λ c from. from) (λ loud. permits_first)
      (first_returns q second_there second_owed own first_there.most
      (calm_left code q.site q.code_is.join))

-- ---- the statement

module _ (code : Listing) (heartbeat z : ℕ) (act : Activation) (p : Program) (fuel room : ℕ)
    (expr_law : ExprLaw code heartbeat) (rules : ProgramRules p act.tables)
    (dispatches : AreAt code act.dispatch (dispatch_block act.dispatch ∷ []))
    (calls : CallsOwe code heartbeat fuel (bare act) p room)
    (place : HasPlace z act room)
    (S : Scene code heartbeat z) (no_registers : S.registers ≡ []) (round : Round)
    (names : List (List ℕ)) (admits : Admits code heartbeat z room S round names)
    (k : meaning.State → Result) (x y : Name) (f g : App)
    (permits : PermitsOne code heartbeat z p act.dispatch S names (Both x f y g))
    (first second : Entry) (site : CallSite)
    (x_cell y_cell : ℕ) (begins more : List Instr) (end last : Term)
    (fits : kept_cell act (kept_by_both (length g.args.items)) ≤ act.size)
    (is_first : entry_of act.functions f.callee.text.items ≡ Some first)
    (arity_first : length f.args.items ≡ first.parameters)
    (is_second : entry_of act.functions g.callee.text.items ≡ Some second)
    (arity_second : length g.args.items ≡ second.parameters)
    (is_x : IsCell code act names round.fixed x.text.items x_cell) (may_x : S.may x_cell)
    (is_y : IsCell code act names round.fixed y.text.items y_cell) (may_y : S.may y_cell)
    (eight : length g.args.items ≤ MAX_PARAMETERS)
    (pair : IsPair code act act.dispatch f.callee.place x_cell (length g.args.items) first second
    site begins end (store y_cell (value.Reg 0) ∷ more) last)
    (post : Owed code heartbeat z act fuel S names more last k) where
  abbrev set : Setting
  set = record { reduces = round.reduces; fuel = fuel; call = call_at p.funcs.items fuel room }

  -- the second target is assigned
  abbrev ends : ℤ → meaning.State → Ran
  ends u t = done (set_var y u t)

  -- both are
  abbrev finish : ℤ → ℤ → meaning.State → Ran
  finish v u t = ends u (set_var x v t)

  sets_second : (w : S.World) (u : ℤ) (st : meaning.State) (task : machine.State) → InRange u
      → ShowsIn code heartbeat z act fuel S w names st task
      → register task.registers 0 ≡ word.Int u
      → Remains code task.block task.at (store y_cell (value.Reg 0) ∷ more) last
      → (S.owing w (then (result (ends u st)) k)).Holds task
  sets_second w u st task fits_u shows is stands =
      assigns code heartbeat z act fuel p room expr_law calls place S admits.levels names
      admits.lowest (Both x f y g) (λ loud. permits) (S.owing w (then (result (ends u st)) k)) w st
      task round.fixed y y_cell 0 u more last shows is_y may_y is fits_u stands
      (λ after registers shows_after here. post w (set_var y u st) after shows_after here)

  -- ---- both calls, behind their arguments

  module _ (i : S.World) (st : meaning.State) (task : machine.State) (ns ms : List ℤ)
      (many : length ns ≡ length f.args.items) (as_many : length ms ≡ length g.args.items)
      (tall : S.size ≤ act.size)
      (shows : ShowsIn code heartbeat z (wider act first.size) fuel S i names st task)
      (params : AreIn task.stack z (parameter_cell code act) 0 ns)
      (also : AreIn task.stack z (kept_argument act) 0 ms)
      (stands : Remains code task.block task.at begins end) where
    -- what is owed where so many levels are left
    abbrev CallsOwed : ℕ → Type 0
    CallsOwed left =
        (S.owing i (then (result (with_call
        (call_at p.funcs.items fuel left f.callee.text.items f.callee.place ns (Chance ∷ []) st)
        (λ v t. with_call
        (call_at p.funcs.items fuel left g.callee.text.items g.callee.place ms [] t)
        (finish v)))) k)).Holds task

    first_room : value_cell 0 ≤ first.size
    first_room = omega (arith, (calls.are f.callee.text.items first is_first).is.has_room.room)

    here : Remains code task.block task.at
        (pair_begins code act site f.callee.place pair.between pair.go) term.Halt
    here =
        regrouped code task.block task.at begins
        (pair_begins code act site f.callee.place pair.between pair.go) term.Halt pair.begins
        (subst (λ (t : Term). Remains code task.block task.at begins t) pair.stops stands)

    cells : site.cells ≡ act.size
    cells = ap (λ (s : CallSite). s.cells) pair.is

    mark_is : site.mark ≡ kept_cell act kept_mark
    mark_is = ap (λ (s : CallSite). s.mark) pair.is

    mark_fits : site.mark < act.size
    mark_fits = omega (arith, mark_is, fits)

    -- where none is left the first call traps
    deep_owed : S.levels ≡ 0 → CallsOwed 0
    deep_owed none =
        subst (λ (r : Result). (S.owing i r).Holds task)
        (sym (deep_call p.funcs.items fuel f.callee.text.items f.callee.place ns (Chance ∷ []) st
        (λ v t. with_call (call_at p.funcs.items fuel 0 g.callee.text.items g.callee.place ms [] t)
        (finish v)) k))
        (ticks code heartbeat z (wider act first.size) fuel S i names st task shows _ term.Halt
        (trapped Deep f.callee.place) k here traps_here)
      where
        later : meaning.State
        later = record st { ticks = ticked fuel st.ticks }

        K : Back code heartbeat
        K = S.owing i (out (Trap Deep f.callee.place) later)

        traps_here : st.ticks < fuel → K.Holds (effect.with_tick (advanced task))
        traps_here below =
            up_to_test code heartbeat z act fuel first.size S i names admits.lowest shows.few site
            cells mark_is mark_fits f.callee.place pair.between pair.go
            first_room (wrapped (pos S.levels -ℤ pos 1)) refl later
            (effect.with_tick (advanced task)) shows_later
            (behind code task.block task.at _ _ term.Halt here) (S.owing i (out (Trap Deep
            f.callee.place) later))
            (λ words beat at size base left remains.
            let at_test : machine.State = tested code heartbeat z act fuel first.size S i names
            admits.lowest shows.few site cells mark_is mark_fits
            f.callee.place pair.between pair.go first_room (wrapped (pos S.levels -ℤ pos 1)) refl
            later (effect.with_tick (advanced task)) shows_later
            (behind code task.block task.at _ _ term.Halt here) words beat at in
            on_if_not code heartbeat (S.owing i (out (Trap Deep f.callee.place) later)) at_test 0
            pair.go (next code at_test _ _ term.Halt remains)
            (left ∙ ap (λ n. word.Int (pos n)) none)
            (S.stops i (Trap Deep f.callee.place) later (advanced at_test)
            (advanced (advanced at_test)) tt shows_later.ticks shows_later.printed shows_later.ends
            (traps code heartbeat (advanced at_test) Deep f.callee.place
            (next code (advanced at_test) _ _ term.Halt
            (behind code task.block at _ _ term.Halt remains)) shows_later.free)))
          where
            shows_later : ShowsIn code heartbeat z (wider act first.size) fuel S i names later
                (effect.with_tick (advanced task))
            shows_later = shows_ticked code heartbeat z (wider act first.size) fuel S i shows below

    -- else the pair is made
    module _ (left : ℕ) (is_left : room ≡ suc left) where
      abbrev at_pair : PairAt code heartbeat z act
      at_pair = record {
        S = S;
        names = names;
        lowest = admits.lowest;
        has_room = place.has_room;
        low = omega (arith, place.deep, place.has_room.fits);
        fuel = fuel;
        fuel_is = shows.limited;
        room = left;
        few = omega (arith, calls.few, is_left);
        at_most = omega (arith, calls.few, is_left);
        levels = admits.levels ∙ is_left;
        whole = λ w s kept t is. permits.served.whole w s kept t is;
        p = p;
        modes = modes_at permits.around;
        f = f.callee;
        g = g.callee;
        rules = record {
          functions = rules.functions (modes_at permits.around);
          first = permits.calls f.callee.text.items (by_first f g refl);
          second = permits.calls g.callee.text.items (by_second f g refl);
        };
        never = rules.never;
        first = first;
        second = second;
        eight = omega (arith, eight, arity_second);
        high = omega (
          arith,
          place.deep,
          place.has_room.fits,
          (calls.are g.callee.text.items second is_second).is.has_room.fits,
        );
        x = x;
        fixed = round.fixed;
        cell = x_cell;
        is_cell = is_x;
        may = may_x;
        site = site;
        instrs = begins;
        end = end;
        more = store y_cell (value.Reg 0) ∷ more;
        last = last;
        code_is = there;
        place = record {
          right = pair.right;
          dispatches = subst (λ (label : ℕ). AreAt code label (dispatch_block label ∷ []))
              (sym permits.diverts) dispatches;
          handler = pair.handler;
          join = pair.join;
          entry = calm code site.entry _ (to second.label) pair.child;
        };
        joins = joins_calls code heartbeat site pair.join (record {
          joined = calm code (joined_label site.label) _ (to pair.return) pair.joined;
        });
        cells = cells;
        mark_is = mark_is;
        rec_is = ap (λ (s : CallSite). s.rec) pair.is;
        fits = omega (arith, fits, arity_second);
        mark_fits = mark_fits;
        ends = ends;
        k = k;
      }
        where
          there : IsPair code act S.dispatch f.callee.place x_cell second.parameters first second
              site begins end
              (store y_cell (value.Reg 0) ∷ more) last
          there =
              subst (λ (n : ℕ). IsPair code act S.dispatch f.callee.place x_cell n first second
              site begins end (store y_cell (value.Reg 0) ∷ more) last) arity_second
              (subst (λ (d : ℕ). IsPair code act d f.callee.place x_cell (length g.args.items) first
              second site begins end
              (store y_cell (value.Reg 0) ∷ more) last) (sym permits.diverts) pair)

      calls_left : CallsOwe code heartbeat fuel (bare act) p (suc left)
      calls_left = subst (CallsOwe code heartbeat fuel (bare act) p) is_left calls

      place_left : HasPlace z act (suc left)
      place_left = subst (HasPlace z act) is_left place

      pair_owed : CallsOwed (suc left)
      pair_owed =
          first_owed at_pair
          (first_there code heartbeat z act at_pair calls_left place_left permits.around (λ t. refl)
          permits.opened
          permits.diverts permits.served.early is_first is_second sets_second)
          (own code heartbeat z act at_pair calls_left place_left permits.around (λ t. refl)
          permits.opened
          permits.diverts permits.served.early is_first is_second sets_second)
          permits.opened
          (function_owed code heartbeat z act at_pair calls_left place_left permits.around
          (λ t. refl) permits.opened
          permits.diverts permits.served.early is_first is_second sets_second)
          (record {
            world = i;
            state = st;
            value = record {
              numbers = ns;
              as_many = many ∙ arity_first;
              kept_numbers = ms;
              kept_many = as_many ∙ arity_second;
            };
            named = shows.named;
            few = shows.few;
            tall = tall;
          }) task shows params also stands

    calls_owed : (left : ℕ) → room ≡ left → CallsOwed left
    calls_owed zero is_left = deep_owed (admits.levels ∙ is_left)
    calls_owed (suc left) is_left = pair_owed left is_left

  -- ---- the law

  pub pair_law : (arguments others : List Instr)
      → Arguments code act names (parameter_cell code act) 0 f.args.items arguments others
      → Arguments code act names (kept_argument act) 0 g.args.items others begins
      → Owed code heartbeat z act fuel S names (instr.Salloc first.size ∷ arguments) end
      (λ st. then (result (run set (Both x f y g) st)) k)
  pair_law arguments others args others_args i st state shows stands =
      opens code heartbeat z act fuel p room expr_law calls place S admits.levels names
      admits.lowest (Both x f y g) (λ loud. permits) f.callee first is_first
      (S.owing i (then (result (run set (Both x f y g) st)) k)) i st state arguments end shows
      stands
      (arguments_law code heartbeat z act first.size fuel S i names admits.lowest st
      no_registers expr_law args
      (λ p q lt. omega (arith, lt))
      (omega (arith, shows.few, place.has_room.room))
      (λ p lt. omega (arith, lt, arity_first, there.arity, there.is.params, there.is.has_room.room))
      end one
      (shows_pushed code heartbeat z act first.size fuel S i names admits.lowest st shows)
      (behind code state.block state.at _ arguments end stands)
      (λ ns. given_all g.args.items st
      (λ ms. two_calls set x f.callee ns y g.callee ms (Chance ∷ []) st)) k
      (λ ns two many shows_two stored here_two.
      arguments_law code heartbeat z act first.size fuel S i names admits.lowest st
      no_registers expr_law
      others_args (λ p q lt. omega (arith, lt)) (omega (arith, shows.few))
      (λ p lt. omega (arith, lt, eight, fits)) end two shows_two here_two
      (λ ms. two_calls set x f.callee ns y g.callee ms (Chance ∷ []) st) k
      (λ ms three as_many shows_three stored_three here_three.
      calls_owed i st three ns ms many as_many shows.tall shows_three
      (are_in_same two.stack three.stack z (parameter_cell code act) 0 ns
      (λ j from below. stored_three.others (z + parameter_cell code act j)
      (λ p low high e. absurd (omega (arith, e, high, as_many, eight, fits)))) stored.are)
      stored_three.are here_three room refl)))
    where
      one : machine.State
      one = effect.with_stack (advanced state) (pushed state.stack first.size)

      there : FunctionAt code (bare act) p.funcs.items f.callee.text.items first
      there = calls.are f.callee.text.items first is_first
