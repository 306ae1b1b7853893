-- The begin of the first call of a pair: its tick, its levels and its label to return to, the mark,
-- and the block that enters the function.
use Rattle.std.proofs.Common.{◌≡◌, ℕ, suc, ◌+◌, ◌<◌, true, List, [], ◌∷◌, ◌++◌, length, Some, refl}
use Rattle.std.proofs.Common.{sym, ap, subst, ◌∙◌, append-nil, arith}
use Rattle.std.specs.Prelude.{pos, ◌-ℤ◌, is_some, slice_get}
use Rattle.beat_count.specs.BeatState.{BeatState}
use Rattle.stack_marks.specs.declared.mark.Mark.{Mark}
use Rattle.stack_marks.specs.Stacks.{StackValue, marked}
use Rattle.tp_value.specs.Number.{wrapped}
use Rattle.loop_meaning.specs.Calls.{enter}
use Rattle.loop_meaning.specs.State as meaning
use Rattle.loop_meaning.specs.State.{Chance}
use Rattle.loop_meaning.specs.Statements.{with_call}
use Rattle.tpal_syntax.specs.declared.instructions.Term.{Term}
use Rattle.tpal_syntax.specs.declared.instructions.Term.TheVariants as term
use Rattle.tpal_syntax.specs.declared.notes.Note.TheVariants as note
use Rattle.tpal_syntax.specs.declared.words.Word.{Word}
use Rattle.tpal_syntax.specs.declared.words.Word.TheVariants as word
use Rattle.tpal_syntax.specs.Listing.{Listing}
use Rattle.tpal_machine.specs.Effect as effect
use Rattle.tpal_machine.specs.Owes.{is_at_point}
use Rattle.tpal_machine.specs.Reading.{block_at, note_of, register}
use Rattle.tpal_machine.specs.State as machine
use Rattle.tpal_machine.specs.Step.{advanced}
use Rattle.tpal_machine.proofs.Kit.{Back}
use Rattle.expr_lower.specs.Standing.{Remains}
use Rattle.expr_lower.proofs.Standing.{behind, next, regrouped}
use Rattle.handler_gen.specs.CallCuts.{call_mark}
use Rattle.handler_gen.proofs.Ready.{goes_in}
use Rattle.scene_laws.specs.Code.{load, parameter_cell}
use Rattle.scene_laws.specs.Layout.{Activation, levels_cell, kept_argument}
use Rattle.scene_laws.specs.Pairs.{call_given, pair_begins}
use Rattle.form_laws.proofs.Forms.Arguments.{AreIn, wider}
use Rattle.scene_laws.proofs.Scenes.Called.{body_set, enter_is, open_call}
use Rattle.form_laws.proofs.Forms.Calls.{Calling, as_long, entered_stack, kept_same, kept_there}
use Rattle.form_laws.proofs.Forms.Calls.{level_less, levels_there, stored_there}
use Rattle.form_laws.proofs.Forms.Choices.{above_zero}
use Rattle.form_laws.proofs.Entering.{branches_in, on_entry}
use Rattle.form_laws.proofs.CallPairs.PairEntered.{FirstOwed, IsAtGo, diverted_owed, enters_go}
use Rattle.form_laws.proofs.CallPairs.PairEntered.{has_last}
use Rattle.form_laws.proofs.CallPairs.PairFirsts.{given_first, is_first, later_of}
use Rattle.form_laws.proofs.CallPairs.PairPlaces.{Args, CutsOwed, Firsts, KeptIn, PairAt, Waiting}
use Rattle.form_laws.proofs.CallPairs.PairPlaces.{after_first, first_call, kept, next_in}
use Rattle.form_laws.proofs.CallPairs.PairSeconds.{CalledAt}
use Rattle.form_laws.proofs.CallPairs.PairTests.{pair_marks, pair_test, up_to_test}
use Rattle.scene_laws.proofs.Scenes.Pieces.{Host}
use Rattle.scene_laws.proofs.Scenes.Results.{Result, noting, noting_then, result, then}
use Rattle.scene_laws.proofs.Scenes.Scene.{ShowsIn}
use Rattle.scene_laws.proofs.Scenes.Showing.{shows_ticked}
use Rattle.form_laws.proofs.Forms.Ticks.{ticks}

module _ {code : Listing} {heartbeat z : ℕ} {act : Activation} (q : PairAt code heartbeat z act)
    (there : CalledAt code act q.p.funcs.items q.f.text.items q.first) (own : CutsOwed q)
    (opened : q.S.is_open ≡ true) (owed : FirstOwed q there own) (w : Waiting q)
    (task : machine.State)
    (shows : ShowsIn code heartbeat z (wider act q.first.size) q.fuel q.S w.world q.names w.state
    task)
    (params : AreIn task.stack z (parameter_cell code act) 0 w.value.numbers)
    (also : AreIn task.stack z (kept_argument act) 0 w.value.kept_numbers)
    (stands : Remains code task.block task.at q.instrs q.end) where
  abbrev later : meaning.State
  later = later_of q there w.state

  abbrev G : Result
  G = given_first q there w.value w.state

  -- what is owed from the tick on
  abbrev Q : Result
  Q = then (noting (Chance ∷ []) G) (after_first q w)

  abbrev making : Calling code heartbeat z act q.fuel q.S q.names (kept q) q.first w
  making = record {
    task = task;
    numbers = w.value.numbers;
    shows = shows;
    many = w.value.as_many;
    stored = params;
    also = also;
  }

  first_here : Remains code task.block task.at
      (pair_begins code act q.site q.f.place q.code_is.between q.code_is.go) term.Halt
  first_here =
      regrouped code task.block task.at q.instrs
      (pair_begins code act q.site q.f.place q.code_is.between q.code_is.go) term.Halt
      q.code_is.begins
      (subst (λ (t : Term). Remains code task.block task.at q.instrs t) q.code_is.stops stands)

  abbrev K : Back code heartbeat
  K = q.S.owing w.world Q

  -- ---- behind the tick

  module _ (below : w.state.ticks < q.fuel) where
    abbrev one : machine.State
    one = effect.with_tick (advanced task)

    shows_one : ShowsIn code heartbeat z (wider act q.first.size) q.fuel q.S w.world q.names later
        one
    shows_one =
        shows_ticked code heartbeat z (wider act q.first.size) q.fuel q.S w.world shows below

    at_load : Remains code task.block (task.at + 1)
        (load 0 levels_cell
        ∷ call_given 1 act.size q.code_is.between (pair_marks q.site q.f.place q.code_is.go))
        term.Halt
    at_load = behind code task.block task.at _ _ term.Halt first_here

    is_less : wrapped (pos q.S.levels -ℤ pos 1) ≡ pos q.room
    is_less = rw q.levels (level_less q.room q.few)

    -- ---- the stack

    abbrev stack : StackValue
    stack = entered_stack z act.size q.room q.code_is.between task.stack

    abbrev marked_stack : StackValue
    marked_stack = marked stack (call_mark q.site z)

    long : length stack.cells ≡ length task.stack.cells
    long = as_long code heartbeat z act q.fuel q.S q.names q.lowest q.has_room (Args q) (kept q)
        (next_in q) q.k q.room q.code_is.between q.first w making

    keeps : KeptIn q w marked_stack
    keeps = kept_same code heartbeat z act q.fuel q.S q.names q.lowest q.has_room (Args q) (kept q)
        (next_in q) q.k q.room q.code_is.between w stack marked_stack refl (λ a lower. refl)
        (kept_there code heartbeat z act q.fuel q.S q.names q.lowest q.has_room (Args q) (kept q)
        (next_in q) q.k q.room q.code_is.between q.first w making
        (omega (arith, there.has_room.room)))

    -- ---- at the test

    abbrev tested : List Word → BeatState → ℕ → machine.State
    tested words beat at = record one {
      registers = words;
      stack = marked_stack;
      beat = beat;
      at = at;
    }

    at_go : (words : List Word) (beat : BeatState) (at : ℕ) → length words ≡ 32
        → register words 31 ≡ word.Int (pos z)
        → IsAtGo q there own w.value w.state (Host w) (tested words beat at)
    at_go words beat at many base = record {
      runs = record {
        many = many;
        limit = shows_one.limit ∙ sym q.fuel_is;
        ticks = shows_one.ticks;
        within = omega (arith, shows_one.within, q.fuel_is);
        begun = shows_one.begun;
        printed = shows_one.printed;
        ends = shows_one.ends;
        free = shows_one.free;
        unmet = shows_one.unmet;
        marked = ap (λ (ms : List Mark). ms ++ call_mark q.site z ∷ []) shows.marked
            ∙ sym (append-nil (q.S.marks w.world ++ call_mark q.site z ∷ []));
        held = shows_one.held;
        can = (shows_one.can, refl);
        ranged = shows_one.ranged;
        low = omega (arith, shows.low);
        tall = omega (arith, shows.top, long, there.has_room.room);
        keeps = keeps;
      };
      base = base;
      levels = levels_there code heartbeat z act q.fuel q.S q.names q.lowest q.has_room (Args q)
          (kept q) (next_in q) q.k q.room q.code_is.between q.first w making
          (omega (arith, there.has_room.room));
      params = stored_there code heartbeat z act q.fuel q.S q.names q.lowest q.has_room (Args q)
          (kept q) (next_in q) q.k q.room q.code_is.between q.first w making;
      top = omega (arith, shows.top, long);
      tabled = shows.tabled;
    }

    ready : note_of (block_at code q.code_is.go) ≡ note.Ready q.S.dispatch
    ready = ap note_of q.code_is.enters.found ∙ q.code_is.enters.noted

    at_point : (words : List Word) (beat : BeatState) (at : ℕ)
        → is_at_point code (goes_in heartbeat q.code_is.go (tested words beat at)) ≡ true
    at_point words beat at =
        let some : is_some (slice_get (task.stack.marks ++ call_mark q.site z ∷ []) 0) ≡ true =
        has_last task.stack.marks (call_mark q.site z) in
        rw (ready, some) refl

    test_owed : (words : List Word) (beat : BeatState) (at : ℕ) → length words ≡ 32
        → register words 31 ≡ word.Int (pos z) → register words 0 ≡ word.Int (pos q.S.levels)
        → Remains code task.block at (pair_test q.f.place q.code_is.go) term.Halt
        → K.Holds (tested words beat at)
    test_owed words beat at many base levels_left left =
        on_entry code heartbeat here q.code_is.go q.S.dispatch
        (branches_in code heartbeat here 0 q.code_is.go q.S.dispatch (pos (suc q.room))
        (next code here _ _ term.Halt left) (levels_left ∙ ap (λ n. word.Int (pos n)) q.levels)
        (above_zero q.room) ready)
        (Firsts q) (Host w) (Chance ∷ []) G tt (at_point words beat at)
        (enters_go q there own owed w.value w.state (Host w) here (at_go words beat at many base)
        (goes_in heartbeat q.code_is.go here).beat)
        (λ beats. diverted_owed q there own owed w.value w.state opened w here
        (at_go words beat at many base) beats)
        (is_first q there w below shows.tabled)
      where
        here : machine.State
        here = tested words beat at

    up_to_here : K.Holds one
    up_to_here =
        up_to_test code heartbeat z act q.fuel q.first.size q.S w.world q.names q.lowest w.few
        q.site
        q.cells q.mark_is q.mark_fits q.f.place q.code_is.between q.code_is.go
        (omega (arith, there.has_room.room)) (pos q.room) is_less later one shows_one at_load K
        test_owed

  -- ---- the whole call

  pub first_owed : (q.S.owing w.world (then (result (with_call (first_call q w.value w.state)
      (next_in q w.value))) q.k)).Holds task
  first_owed =
      subst (λ (r : Result). (q.S.owing w.world r).Holds task)
      (sym (open_call q.p.funcs.items q.fuel q.f.text.items q.f.place w.value.numbers (Chance ∷ [])
      w.state (next_in q w.value) q.k q.room there.func there.named))
      (ticks code heartbeat z (wider act q.first.size) q.fuel q.S w.world q.names w.state task shows
      _
      term.Halt
      (λ u. with_call (enter (body_set q.p.funcs.items q.fuel q.room) (Some there.func)
      w.value.numbers (Chance ∷ []) u) (next_in q w.value)) q.k first_here
      (λ below.
      subst (λ (r : Result). (q.S.owing w.world r).Holds (effect.with_tick (advanced task)))
      (noting_then (Chance ∷ []) G (after_first q w)
      ∙ sym (enter_is (body_set q.p.funcs.items q.fuel q.room) there.func w.value.numbers
      (Chance ∷ []) later (next_in q w.value) q.k)) (up_to_here below)))
