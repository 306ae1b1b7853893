-- A task at the block that enters the first function of a pair of calls: it owes what the function
-- gives, in each world, and so it does where a beat diverts it.
use Rattle.std.proofs.Common.{◌≡◌, ℕ, ◌+◌, ◌≤◌, true, false, List, [], ◌∷◌, ◌++◌, length, Some, Ok}
use Rattle.std.proofs.Common.{refl, sym, ap, subst, ◌∙◌, append-nil, arith}
use Rattle.std.specs.Prelude.{pos, is_some, slice_get, slice_set}
use Rattle.std.proofs.lemmas.List.{length-map, length-set}
use Rattle.beat_count.specs.BeatState.{BeatState}
use Rattle.beat_count.specs.Heartbeat.{is_diverted}
use Rattle.stack_marks.specs.declared.mark.Mark.{Mark}
use Rattle.stack_marks.specs.Stacks.{StackValue, word_at}
use Rattle.loop_syntax.specs.declared.Name.{Name}
use Rattle.loop_rules.specs.Names.{texts}
use Rattle.loop_meaning.specs.State as meaning
use Rattle.loop_meaning.specs.Statements.{run_list}
use Rattle.tpal_syntax.specs.declared.instructions.Alu.TheVariants as alu
use Rattle.tpal_syntax.specs.declared.instructions.Term.TheVariants as term
use Rattle.tpal_syntax.specs.declared.instructions.Value.TheVariants as value
use Rattle.tpal_syntax.specs.declared.notes.Note.TheVariants as note
use Rattle.tpal_syntax.specs.declared.words.Word.{Word}
use Rattle.tpal_syntax.specs.declared.words.Word.TheVariants as word
use Rattle.tpal_syntax.specs.Listing.{Listing}
use Rattle.tpal_machine.specs.Effect.{has_mark, is_marked_from}
use Rattle.tpal_machine.specs.Reading.{block_at, note_of, register, with_register}
use Rattle.tpal_machine.specs.State as machine
use Rattle.tpal_machine.specs.Step.{advanced, at_block}
use Rattle.tpal_machine.proofs.Kit.{Back, on_calc}
use Rattle.expr_lower.specs.Standing.{Remains}
use Rattle.expr_lower.proofs.Keeping.{register_other, register_set}
use Rattle.expr_lower.proofs.Standing.{at_end, behind, next}
use Rattle.handler_gen.specs.CallCuts.{call_mark}
use Rattle.handler_gen.proofs.Ready.{beat_is, diverted_to, goes_in}
use Rattle.scene_laws.specs.Code.{parameter_cell, to}
use Rattle.scene_laws.specs.Layout.{Activation, levels_cell}
use Rattle.scene_laws.specs.Pairs.{call_enters}
use Rattle.form_laws.proofs.Forms.Arguments.{AreIn, are_in_same, held_bound, names_bound}
use Rattle.scene_laws.proofs.Scenes.Called.{body_set, entered_with, value_then}
use Rattle.form_laws.proofs.Forms.Calls.{base_more}
use Rattle.form_laws.proofs.Forms.Choices.{OwedAt}
use Rattle.form_laws.proofs.Entering.{goes_back_in}
use Rattle.scene_laws.proofs.Scenes.Moves.{jumps}
use Rattle.form_laws.proofs.CallPairs.PairFirsts.{given_first, later_of}
use Rattle.form_laws.proofs.CallPairs.PairPlaces.{Args, CutsOwed, Firsts, PairAt, Runs, Waiting}
use Rattle.form_laws.proofs.CallPairs.PairPlaces.{Worlds}
use Rattle.form_laws.proofs.CallPairs.PairPlaces.{first_call, kept, next_in, scene_in}
use Rattle.form_laws.proofs.CallPairs.PairScenes.{clear_first}
use Rattle.form_laws.proofs.CallPairs.PairSeconds.{CalledAt}
use Rattle.scene_laws.proofs.Scenes.Pieces.{Host}
use Rattle.scene_laws.proofs.Scenes.Results.{Result, result, then}
use Rattle.scene_laws.proofs.Scenes.Scene.{Facts, GoesBack, IsDiverted, IsUncut, Near, RunsIn}
use Rattle.scene_laws.proofs.Scenes.Scene.{Scene}
use Rattle.scene_laws.proofs.Scenes.Scene.{ShowsIn, header}
use Rattle.scene_laws.proofs.Scenes.Tables.{table_names}

-- a mark is behind others
pub has_last : (ms : List Mark) (m : Mark) → is_some (slice_get (ms ++ m ∷ []) 0) ≡ true
has_last [] m = refl
has_last (o ∷ os) m = refl

not_none : (ms : List Mark) (m : Mark) → ms ++ m ∷ [] ≡ [] → ⊥
not_none [] m none = cc
not_none (o ∷ os) m none = cc

-- a task of a world is one with other registers too, and at another place
runs_elsewhere : {y size fuel : ℕ} {world : Facts} {more : List Mark} {st : meaning.State}
    (u : machine.State) → RunsIn y size fuel world more st u → (words : List Word)
    (beat : BeatState) (label at : ℕ) → length words ≡ 32
    → RunsIn y size fuel world more st
    (record u { registers = words; beat = beat; block = label; at = at })
runs_elsewhere u runs words beat label at size = record {
  many = size;
  limit = runs.limit;
  ticks = runs.ticks;
  within = runs.within;
  begun = runs.begun;
  printed = runs.printed;
  ends = runs.ends;
  free = runs.free;
  unmet = runs.unmet;
  marked = runs.marked;
  held = runs.held;
  can = runs.can;
  ranged = runs.ranged;
  low = runs.low;
  tall = runs.tall;
  keeps = runs.keeps;
}

module _ {code : Listing} {heartbeat z : ℕ} {act : Activation} (q : PairAt code heartbeat z act)
    (there : CalledAt code act q.p.funcs.items q.f.text.items q.first) (own : CutsOwed q) where
  abbrev pub first_act : Activation
  first_act = record act { most = there.most; size = q.first.size }

  abbrev pub C : Scene code heartbeat (z + act.size)
  C = scene_in q own

  -- what the first function owes where it begins
  abbrev pub FirstOwed : Type 0
  FirstOwed =
      OwedAt code heartbeat (z + act.size) first_act q.fuel C (texts there.func.params.items)
      q.first.label
      (λ st.
      then (result (run_list (body_set q.p.funcs.items q.fuel q.room) there.func.body.items
      st))
      (value_then there.func.result))

  -- a task whose first call is about to begin: its arguments and its levels stand in the function's
  -- activation, above its own
  pub record IsAtGo (a : Args q) (st : meaning.State) (i : Worlds q) (u : machine.State) : Type 0
    where
      pub runs : Runs q i [] (later_of q there st) u
      pub base : register u.registers 31 ≡ word.Int (pos z)
      pub levels : word_at u.stack (pos (z + act.size + levels_cell))
          ≡ Some (word.Int (pos q.room))
      pub params : AreIn u.stack z (parameter_cell code act) 0 a.numbers
      pub top : u.stack.base + length u.stack.cells ≡ z + act.size + q.first.size
      pub tabled : table_names st.tables ≡ act.tables

  -- it shows the function's parameters, where the function's activation is the one that runs
  shows_first : (a : Args q) (st : meaning.State) (i : Worlds q) (u : machine.State)
      → IsAtGo a st i u → (words : List Word) (beat : BeatState) (label at : ℕ)
      → length words ≡ 32 → register words 31 ≡ word.Int (pos (z + act.size))
      → ShowsIn code heartbeat (z + act.size) first_act q.fuel C i (texts there.func.params.items)
      (entered_with there.func a.numbers (later_of q there st))
      (record u { registers = words; beat = beat; block = label; at = at })
  shows_first a st i u h words beat label at size base = record {
    size = size;
    base = base;
    limit = h.runs.limit ∙ q.fuel_is;
    limited = q.fuel_is;
    tall = omega (arith, there.has_room.room);
    ticks = h.runs.ticks;
    within = omega (arith, h.runs.within, q.fuel_is);
    begun = h.runs.begun;
    printed = h.runs.printed;
    ends = h.runs.ends;
    free = h.runs.free;
    unmet = h.runs.unmet;
    marked = h.runs.marked ∙ append-nil (C.marks i);
    named = names_bound there.func.params.items a.numbers (a.as_many ∙ sym there.arity);
    few = omega (
      arith,
      there.params,
      length-map there.func.params.items
          (λ (x : Name). x.text.items),
    );
    tabled = h.tabled;
    held = h.runs.held;
    can = h.runs.can;
    ranged = h.runs.ranged;
    levels = h.levels;
    unmarked = subst (λ (ms : List Mark). is_marked_from ms (z + act.size + q.first.size) ≡ false)
        (sym (h.runs.marked ∙ append-nil (C.marks i)))
        (clear_first code heartbeat z act q.fuel q.S q.names q.lowest q.has_room (Args q) (kept q)
        (next_in q) q.k q.room q.code_is.between q.site q.mark_is q.mark_fits (first_call q) q.modes
        i (z + act.size + q.first.size) (omega arith));
    top = h.top;
    low = h.runs.low;
    room = omega (arith, h.top, there.has_room.room);
    vars = held_bound u.stack z act.size 0 there.func.params.items a.numbers h.params;
    keeps = h.runs.keeps;
  }

  ready : note_of (block_at code q.code_is.go) ≡ note.Ready q.S.dispatch
  ready = ap note_of q.code_is.enters.found ∙ q.code_is.enters.noted

  opens_go : Remains code q.code_is.go 0 (call_enters act.size) (to q.first.label)
  opens_go = record {
    block = q.code_is.enters.block;
    found = q.code_is.enters.found;
    rest = q.code_is.enters.body;
    ends = q.code_is.enters.ends;
  }

  module _ (owed : FirstOwed) (a : Args q) (st : meaning.State) where
    abbrev G : Result
    G = given_first q there a st

    -- from the begin of the block on
    pub go_owed : (i : Worlds q) (u : machine.State) → IsAtGo a st i u
        → u.block ≡ q.code_is.go → u.at ≡ 0 → ((Firsts q).owing i G).Holds u
    go_owed i u h at_label at_begin =
        on_calc code heartbeat K u 31 31 alu.Add (value.Int (pos act.size))
        (word.Int (pos (z + act.size))) (next code u _ _ (to q.first.label) here)
        (rw h.base (ap (λ m. Ok (word.Int m)) (base_more z act.size q.low)))
        (jumps code heartbeat K one q.first.label there.instrs there.end
        (behind code u.block u.at _ _ (to q.first.label) here) there.begins
        (owed i (entered_with there.func a.numbers (later_of q there st))
        (at_block q.first.label (advanced one))
        (shows_first a st i u h words (at_block q.first.label (advanced one)).beat q.first.label 0
        (length-set u.registers 31 (word.Int (pos (z + act.size))) ∙ h.runs.many)
        (register_set u.registers 31 (word.Int (pos (z + act.size))) (omega (arith, h.runs.many))))
        refl refl))
      where
        K : Back code heartbeat
        K = (Firsts q).owing i G

        here : Remains code u.block u.at (call_enters act.size) (to q.first.label)
        here = rw (at_label, at_begin) opens_go

        words : List Word
        words = slice_set u.registers 31 (word.Int (pos (z + act.size)))

        one : machine.State
        one = with_register (advanced u) 31 (word.Int (pos (z + act.size)))

    -- where it is entered without a diversion
    pub enters_go : (i : Worlds q) (u : machine.State) → IsAtGo a st i u → (beat : BeatState)
        → ((Firsts q).owing i G).Holds (record u { beat = beat; block = q.code_is.go; at = 0 })
    enters_go i u h beat =
        go_owed i (record u { beat = beat; block = q.code_is.go; at = 0 }) (record {
          runs = runs_elsewhere u h.runs u.registers beat q.code_is.go 0 h.runs.many;
          base = h.base;
          levels = h.levels;
          params = h.params;
          top = h.top;
          tabled = h.tabled;
        }) refl refl

    -- ---- a task that a beat diverts there

    module _ (opened : q.S.is_open ≡ true) (w : Waiting q) (state : machine.State)
        (h : IsAtGo a st (Host w) state)
        (beats : is_diverted heartbeat (has_mark state.stack) true (advanced state).beat ≡ true)
      where
        abbrev other : machine.State
        other = diverted_to heartbeat q.code_is.go q.S.dispatch state

        is_turned : IsDiverted q.S.dispatch other
        is_turned =
            let is = beat_is heartbeat (has_mark state.stack) (advanced state).beat beats in
            record {
              block = refl;
              at = refl;
              quiet = ap (λ (b : BeatState). b.quiet) is;
              granted = ap (λ (b : BeatState). b.granted) is;
            }

        base_kept : register other.registers 31 ≡ word.Int (pos z)
        base_kept =
            register_other state.registers 30 31 (word.Label q.code_is.go)
            (λ (e : 31 ≡ 30). absurd (omega (arith, e))) ∙ h.base

        runs_other : Runs q (Host w) [] (later_of q there st) other
        runs_other =
            runs_elsewhere state h.runs other.registers other.beat q.S.dispatch 0
            (length-set state.registers 30 (word.Label q.code_is.go) ∙ h.runs.many)

        -- a task that goes back enters the block again
        again : (i : Worlds q) (u : machine.State) → GoesBack code other u → IsAtGo a st i u
            → ((Firsts q).owing i G).Holds u
        again i u gone at_go =
            goes_back_in code heartbeat ((Firsts q).owing i G) u q.code_is.go q.S.dispatch
            (at_end code u (term.Jump (value.Reg 30)) gone.stands)
            (gone.label ∙ register_set state.registers 30 (word.Label q.code_is.go)
            (omega (arith, h.runs.many))) ready gone.quiet
            (enters_go i u at_go (goes_in heartbeat q.code_is.go u).beat)

        uncut_goes : (u : machine.State) → GoesBack code other u → IsUncut other u
            → ((Firsts q).owing (Host w) G).Holds u
        uncut_goes u gone uncut = again (Host w) u gone (record {
          runs = record {
            many = gone.size;
            limit = ap (λ f. f.limit) uncut.fuel ∙ h.runs.limit;
            ticks = ap (λ f. f.ticks) uncut.fuel ∙ h.runs.ticks;
            within = h.runs.within;
            begun = h.runs.begun;
            printed = h.runs.printed ∙ ap (λ bytes. q.S.before w.world ++ bytes) (sym uncut.output);
            ends = uncut.goal ∙ h.runs.ends;
            free = uncut.free;
            unmet = uncut.unmet;
            marked = ap (λ (s : StackValue). s.marks) uncut.stack ∙ h.runs.marked;
            held = rw uncut.tables h.runs.held;
            can = h.runs.can;
            ranged = h.runs.ranged;
            low = rw uncut.stack h.runs.low;
            tall = rw uncut.stack h.runs.tall;
            keeps = rw uncut.stack h.runs.keeps;
          };
          base = gone.base ∙ base_kept;
          levels = rw uncut.stack h.levels;
          params = rw uncut.stack h.params;
          top = rw uncut.stack h.top;
          tabled = h.tabled;
        })

        cut_goes : (n : ℕ) (u : machine.State) → GoesBack code other u
            → Near (z + act.size) (λ c. header ≤ c) 0 state.stack u.stack
            → Runs q (C.cut (Host w) n st.output) [] (later_of q there st) u
            → ((Firsts q).owing (C.cut (Host w) n st.output) G).Holds u
        cut_goes n u gone near runs_u = again (C.cut (Host w) n st.output) u gone (record {
          runs = runs_u;
          base = gone.base ∙ base_kept;
          levels = near.levels ∙ h.levels;
          params = are_in_same state.stack u.stack z (parameter_cell code act) 0 a.numbers
              (λ j from below. near.above (z + parameter_cell code act j) (omega arith)) h.params;
          top = near.top ∙ h.top;
          tabled = h.tabled;
        })

        pub diverted_owed : ((Firsts q).diverted (Host w) G).Holds other
        diverted_owed =
            C.handles opened (Host w) [] G (later_of q there st) other
            (not_none (q.S.marks w.world) (call_mark q.site z)) tt is_turned runs_other uncut_goes
            cut_goes
