-- The law of a call: from the tick on, where the arguments stand in the new activation.
use Rattle.std.proofs.Common.{◌≡◌, ℕ, zero, suc, ◌+◌, ◌-◌, ◌≤◌, ◌^◌, false, List, [], ◌∷◌, length}
use Rattle.std.proofs.Common.{Some, Ok, refl, sym, ap, subst, ◌∙◌, arith}
use Rattle.std.specs.Prelude.{ℤ, pos, slice_set}
use Rattle.std.proofs.lemmas.List.{length-map, length-set}
use Rattle.beat_count.specs.BeatState.{BeatState}
use Rattle.beat_count.specs.FuelState.{FuelState}
use Rattle.beat_count.specs.Heartbeat.{counted}
use Rattle.beat_count.specs.Ticks.{ticked}
use Rattle.stack_marks.specs.declared.mark.Mark.{Mark}
use Rattle.stack_marks.specs.Stacks.{popped}
use Rattle.tp_value.specs.declared.Place.{Place}
use Rattle.tp_value.specs.declared.TrapKind.TheVariants.{Deep}
use Rattle.tp_value.specs.declared.Stop.TheVariants.{Trap}
use Rattle.loop_syntax.specs.declared.Stmt.{Stmt}
use Rattle.loop_syntax.specs.declared.Program.{Program}
use Rattle.loop_syntax.specs.declared.Func.{Func}
use Rattle.loop_syntax.specs.declared.Name.{Name}
use Rattle.loop_rules.specs.Names.{texts}
use Rattle.loop_meaning.specs.Calls.{enter, call_at}
use Rattle.loop_meaning.specs.InRange.{InRange}
use Rattle.loop_meaning.specs.State as meaning
use Rattle.loop_meaning.specs.State.{Note, Ran, Writes, after, tick, trapped}
use Rattle.loop_meaning.specs.Statements.{run_list, with_call}
use Rattle.tpal_syntax.specs.declared.instructions.Alu.TheVariants as alu
use Rattle.tpal_syntax.specs.declared.instructions.Instr.{Instr}
use Rattle.tpal_syntax.specs.declared.instructions.Instr.TheVariants as instr
use Rattle.tpal_syntax.specs.declared.instructions.Term.{Term}
use Rattle.tpal_syntax.specs.declared.instructions.Term.TheVariants as term
use Rattle.tpal_syntax.specs.declared.instructions.Value.TheVariants as value
use Rattle.tpal_syntax.specs.declared.words.Word.{Word}
use Rattle.tpal_syntax.specs.declared.words.Word.TheVariants as word
use Rattle.tpal_syntax.specs.Listing.{Listing}
use Rattle.tpal_machine.specs.Effect as effect
use Rattle.tpal_machine.specs.Effect.{is_marked_from}
use Rattle.tpal_machine.specs.Reading.{register, with_register}
use Rattle.tpal_machine.specs.State as machine
use Rattle.tpal_machine.specs.Step.{advanced, at_block}
use Rattle.tpal_machine.proofs.Kit.{Back, on_calc, on_load, on_sfree, on_if, on_if_not}
use Rattle.expr_lower.specs.Standing.{Remains}
use Rattle.expr_lower.proofs.Keeping.{register_set, register_other}
use Rattle.expr_lower.proofs.Standing.{next, behind, regrouped}
use Rattle.scene_laws.specs.Code.{Opens, Calls, call_test, call_exit}
use Rattle.scene_laws.specs.Layout.{levels_cell, Entry, entry_of, Activation}
use Rattle.form_laws.specs.Functions.{HasRoom, FunctionAt, bare}
use Rattle.scene_laws.specs.Quiet.{list_is_quiet}
use Rattle.form_laws.proofs.Forms.Arguments.{wider}
use Rattle.scene_laws.proofs.Scenes.Called.{with_value, value_then, back_with, body_set}
use Rattle.scene_laws.proofs.Scenes.Called.{entered_with}
use Rattle.scene_laws.proofs.Scenes.Called.{enter_is, deep_call, open_call}
use Rattle.form_laws.proofs.Forms.Callees.{Returns, HasPlace, CallsOwe}
use Rattle.form_laws.proofs.Forms.Calls.{Caller, Calling, Keeping, also_back, base_less, callee}
use Rattle.form_laws.proofs.Forms.Calls.{clear}
use Rattle.form_laws.proofs.Forms.Calls.{entered_stack, entering, inner, shows_back, shows_callee}
use Rattle.form_laws.proofs.Forms.Choices.{above_zero}
use Rattle.scene_laws.proofs.Scenes.Moves.{opened, calm, traps}
use Rattle.form_laws.proofs.Premises.Occurring.{Called}
use Rattle.form_laws.proofs.Premises.Permitting.{PermitsCall, PermitsOne, loud_calls}
use Rattle.scene_laws.proofs.Scenes.Results.{Result, fin, out, result, then}
use Rattle.scene_laws.proofs.Scenes.Scene.{Scene, Shows, ShowsIn}
use Rattle.form_laws.proofs.Premises.Serving.{Served, served_call}
use Rattle.scene_laws.proofs.Scenes.Showing.{shows_words, shows_ticked}
use Rattle.form_laws.proofs.Forms.Ticks.{ticks}

module _ (code : Listing) (heartbeat z : ℕ) (act : Activation) (fuel : ℕ) (S : Scene code heartbeat
    z) (names : List (List ℕ)) (entry : Entry) (A : Type 0) (kept : Keeping code heartbeat z act
    fuel S names A) (next_in : A → ℤ → meaning.State → Ran) (k : meaning.State → Result) where
  abbrev Waiting : Type 0
  Waiting = Caller code heartbeat z act fuel S names A

  abbrev Making : Waiting → Type 0
  Making w = Calling code heartbeat z act fuel S names kept entry w

  -- what a task owes behind the call that shows the caller's variables, with the value in register
  -- 0
  abbrev pub GoesOn : List Instr → Term → Type 0
  GoesOn more last =
      (w : Waiting) (v : ℤ) (u : meaning.State) (task : machine.State) → InRange v → ShowsIn code
      heartbeat z act fuel S w.world names (back_with w.state.vars u) task → kept.Holds w.value
      task.stack
      → register task.registers 0 ≡ word.Int v → Remains code task.block task.at more last →
      (S.owing w.world (then (result (next_in w.value v (back_with w.state.vars u))) k)).Holds
      task

  abbrev later : meaning.State → meaning.State
  later st = record st { ticks = ticked fuel st.ticks }

  -- the tick, and the levels that are left in register 0
  at_test : (w : Waiting) (c : Making w) (g : meaning.State → Ran) (go : ℕ) (place : Place) →
      Remains code c.task.block c.task.at (call_test go place) term.Halt
      → ((words : List Word) (spent : FuelState) (beat : BeatState) (at : ℕ) → Shows code heartbeat
      z (wider act entry.size) fuel S w.world names (later w.state) words c.task.stack
      c.task.tables spent c.task.output c.task.goal (c.task.pending, c.task.met)
      → register words 0 ≡ word.Int (pos S.levels) → Remains code c.task.block at (instr.IfJump 0 go
      ∷ instr.Trap Deep place ∷ []) term.Halt → (S.owing w.world (then (result (g (later
      w.state))) k)).Holds (record c.task {
        registers = words;
        fuel = spent;
        beat = beat;
        at =
            at;
      }))
      → (S.owing w.world (then (result (after (tick fuel w.state) g)) k)).Holds c.task
  at_test w c g go place stands goes =
      ticks code heartbeat z (wider act entry.size) fuel S w.world names w.state c.task c.shows _
      term.Halt g k stands
      (λ below.
      let one : machine.State = effect.with_tick (advanced c.task) in
      let shows_one : ShowsIn code heartbeat z (wider act entry.size) fuel S w.world names (later
      w.state) one = shows_ticked code heartbeat z (wider act entry.size) fuel S w.world c.shows
      below in
      let second : Remains code c.task.block (c.task.at + 1) _ term.Halt = behind code c.task.block
      c.task.at _ _ term.Halt stands in
      let words : List Word = slice_set c.task.registers 0 (word.Int (pos S.levels)) in
      on_load code heartbeat (S.owing w.world (then (result (g (later w.state))) k)) one 0 31
      levels_cell (pos z) (word.Int (pos S.levels)) (next code one _ _ term.Halt second)
      shows_one.base shows_one.levels
      (goes words one.fuel (counted (counted c.task.beat)) (c.task.at + 1 + 1)
      (shows_words code heartbeat z (wider act entry.size) fuel S w.world shows_one words
      (length-set c.task.registers 0 (word.Int (pos S.levels))) (register_other c.task.registers
      0 31 (word.Int (pos S.levels)) (λ (q : 31 ≡ 0). absurd (omega (arith, q)))))
      (register_set c.task.registers 0 (word.Int (pos S.levels)) (omega (arith, c.shows.size)))
      (behind code c.task.block (c.task.at + 1) _ _ term.Halt second)))

  -- where no level is left the call traps
  too_deep : (w : Waiting) (c : Making w) (go : ℕ) (place : Place) → S.levels ≡ 0 → Remains code
      c.task.block c.task.at (call_test go place) term.Halt → (S.owing w.world (then (result (after
      (tick fuel w.state) (trapped Deep place))) k)).Holds c.task
  too_deep w c go place none stands =
      at_test w c (trapped Deep place) go place stands
      (λ words spent beat at shows left here.
      let one : machine.State = record c.task {
        registers = words;
        fuel = spent;
        beat = beat;
        at =
            at;
      } in
      let two : machine.State = advanced one in
      let last : Remains code c.task.block (at + 1) (instr.Trap Deep place ∷ []) term.Halt = behind
      code c.task.block at _ _ term.Halt here in
      on_if_not code heartbeat (S.owing w.world (out (Trap Deep place) (later w.state))) one 0 go
      (next code one _ _ term.Halt here) (left ∙ ap (λ n. word.Int (pos n)) none)
      (S.stops w.world (Trap Deep place) (later w.state) two (advanced two) tt shows.ticks
      shows.printed shows.ends (traps code heartbeat two Deep place (next code two _ _ term.Halt
      last) shows.free)))

  module _ (lowest : S.lowest ≤ length names) (has_room : HasRoom act) (low : z + act.size ≤ 2 ^ 62)
      (room back : ℕ) (most : ℕ) (more : List Instr) (last : Term) (behind_it : Opens code back
      (call_exit entry.size act.size more) last) (goes : GoesOn more last) where
    abbrev scene : Scene code heartbeat (z + act.size)
    scene = callee code heartbeat z act fuel S names lowest has_room A kept next_in k room back

    abbrev act_in : Activation
    act_in = inner code heartbeat z act fuel S names lowest has_room A kept next_in k room back
        entry most

    -- the caller's activation runs again
    pub returns : Returns code heartbeat fuel (z + act.size) act_in scene
    returns = record {
      label = λ w. back;
      calm = λ w. calm code back (call_exit entry.size act.size more) last behind_it;
      held = λ w s held. held.label;
      bare = refl;
      goes_on = again;
    }
      where
        again : (w : Waiting) (names_in : List (List ℕ)) (st : meaning.State) (state :
            machine.State) (n : ℤ) (beat : BeatState) → ShowsIn code heartbeat (z + act.size) act_in
            fuel scene w names_in st state → InRange n → register state.registers 0 ≡ word.Int n
            → (scene.owing w (fin (with_value n st))).Holds (record state {
              beat = beat;
              block =
                  back;
              at = 0;
            })
        again w names_in st state n beat shows fits is =
            let one : machine.State = record state { beat = beat; block = back; at = 0 } in
            let two : machine.State = effect.with_stack (advanced one) (popped state.stack
            entry.size) in
            let here : Remains code back 0 (call_exit entry.size act.size more) last = opened code
            back (call_exit entry.size act.size more) last behind_it in
            let second : Remains code back 1 (instr.Calc 31 31 alu.Sub (value.Int (pos act.size)) ∷
            more) last = behind code back 0 _ _ last here in
            let top : z + act.size ≡ state.stack.base + (length state.stack.cells - entry.size) =
            omega (arith, shows.top, shows.low) in
            let unmarked : is_marked_from state.stack.marks (z + act.size) ≡ false =
            subst (λ (ms : List Mark). is_marked_from ms (z + act.size) ≡ false) (sym shows.marked)
            (clear code heartbeat z act fuel S names lowest has_room A kept next_in k room back
            w (z + act.size) (omega arith)) in
            let words : List Word = slice_set state.registers 31 (word.Int (pos z)) in
            on_sfree code heartbeat (scene.owing w (fin (with_value n st))) one entry.size (next
            code one _ _ last here) (omega (arith, shows.top, shows.low))
            (subst (λ (a : ℕ). is_marked_from state.stack.marks a ≡ false) top unmarked)
            (on_calc code heartbeat (scene.owing w (fin (with_value n st))) two 31 31 alu.Sub
            (value.Int (pos act.size)) (word.Int (pos z)) (next code two _ more last second) (rw
            shows.base (ap (λ m. Ok (word.Int m)) (base_less z act.size low)))
            (goes w n st (with_register (advanced two) 31 (word.Int (pos z))) fits
            (shows_back code heartbeat z act fuel S names lowest has_room A kept next_in k room back
            entry w state.stack shows.keeps shows.top most names_in st state.registers words
            state.tables state.fuel state.output state.goal (state.pending, state.met) shows
            (length-set state.registers 31 (word.Int (pos z)) ∙ shows.size) (register_set
            state.registers 31 (word.Int (pos z)) (omega (arith, shows.size))))
            (also_back code heartbeat z act fuel S names lowest has_room A kept next_in k room back
            entry w state.stack shows.keeps shows.top)
            (register_other state.registers 31 0 (word.Int (pos z)) (λ (q : 0 ≡ 31). absurd (omega
            (arith, q))) ∙ is)
            (behind code back 1 _ more last second)))

  module _ (lowest : S.lowest ≤ length names) (stmt : Stmt) (p : Program) (permits : act.calls ≡
      false → PermitsOne code heartbeat z p act.dispatch S names stmt) (f : Name) (is_called :
      Called f.text.items stmt) (is_entry : entry_of act.functions f.text.items ≡ Some entry)
      (instrs more : List Instr) (end last : Term) (call : Calls code act f.place entry instrs end
      more last) (goes : GoesOn more last) where
    abbrev fs : List Func
    fs = p.funcs.items

    -- what a task owes at the tick, where calls have so many levels left
    abbrev Owing : ℕ → (w : Waiting) → Making w → Type 0
    Owing room w c = (S.owing w.world (then (result (with_call (call_at fs fuel room f.text.items
        f.place c.numbers [] w.state) (next_in w.value))) k)).Holds c.task

    tested : (w : Waiting) (c : Making w) → Remains code c.task.block c.task.at instrs end → Remains
        code c.task.block c.task.at (call_test call.go f.place) term.Halt
    tested w c stands = regrouped code c.task.block c.task.at instrs (call_test call.go f.place)
        term.Halt call.test (subst (λ (t : Term). Remains code c.task.block c.task.at instrs t)
        call.stops stands)

    goes_in : (room : ℕ) → S.levels ≡ suc room → CallsOwe code heartbeat fuel (bare act) p (suc
        room) → HasPlace z act (suc room) → (w : Waiting) (c : Making w) → Remains code c.task.block
        c.task.at instrs end → Owing (suc room) w c
    goes_in room levels calls place w c stands =
        subst (λ (r : Result). (S.owing w.world r).Holds c.task) (sym (open_call fs fuel
        f.text.items f.place c.numbers [] w.state (next_in w.value) k room there.func
        there.named))
        (at_test w c (λ u. with_call (enter (body_set fs fuel room) (Some there.func) c.numbers []
        u) (next_in w.value)) call.go f.place (tested w c stands)
        (λ words spent beat at shows left here.
        let one : machine.State = record c.task {
          registers = words;
          fuel = spent;
          beat = beat;
          at =
              at;
        } in
        let two : machine.State = at_block call.go (advanced one) in
        let is_left : register words 0 ≡ word.Int (pos (suc room)) = left ∙ ap (λ n. word.Int (pos
        n)) levels in
        let given : Result = then (result (run_list (body_set fs fuel room) there.func.body.items
        (entered_with there.func c.numbers (later w.state)))) (value_then there.func.result) in
        let K : Back code heartbeat = (callee code heartbeat z act fuel S names lowest
        place.has_room A kept next_in k room call.return).owing w given in
        subst (λ (r : Result). (S.owing w.world r).Holds one) (sym (enter_is (body_set fs fuel room)
        there.func c.numbers [] (later w.state) (next_in w.value) k))
        (on_if code heartbeat K one 0 call.go (pos (suc room)) (next code one _ _ term.Halt here)
        is_left (above_zero room) (calm code call.go _ _ call.enters)
        (entering code heartbeat z act fuel room call.return K two entry.label there.is.instrs
        there.is.end there.is.begins (opened code call.go _ _ call.enters) shows.size shows.base
        is_left (omega (arith, calls.few)) low shows.low (omega (
          arith,
          shows.top,
          there.is.has_room.room,
        ))
        (λ words_in beat_in many base.
        calls.owe f.text.items entry is_entry (z + act.size) place_in (callee code heartbeat z act
        fuel S names lowest place.has_room A kept next_in k room call.return) refl refl (λ c
        from. from) permits_in (returns lowest place.has_room low room call.return there.most
        more last call.behind goes) w (entered_with there.func c.numbers (later w.state))
        (record two {
          registers = words_in;
          stack = entered_stack z act.size room call.return
              c.task.stack;
          beat = beat_in;
          block = entry.label;
          at = 0;
        })
        (shows_callee code heartbeat z act fuel S names lowest place.has_room A kept next_in k room
        call.return entry w c there.most there.func words_in spent (later w.state) there.arity
        (omega (
          arith,
          there.is.params,
          length-map there.func.params.items (λ (x : Name).
              x.text.items),
        )) there.is.has_room
        (shows_words code heartbeat z (wider act entry.size) fuel S w.world shows c.task.registers
        (c.shows.size ∙ sym shows.size) (c.shows.base ∙ sym shows.base)) many base) refl
        refl)))))
      where
        there : FunctionAt code (bare act) fs f.text.items entry
        there = calls.are f.text.items entry is_entry

        low : z + act.size ≤ 2 ^ 62
        low = omega (arith, place.deep, place.has_room.fits)

        -- where a point of promotion can be reached in the function, one can in the call
        permits_in : list_is_quiet act.calls there.func.body.items ≡ false
            → PermitsCall code heartbeat (z + act.size) p act.dispatch
            (callee code heartbeat z act fuel S names lowest place.has_room A kept next_in k room
            call.return)
            (texts there.func.params.items) f.text.items
        permits_in loud =
            let outside : PermitsOne code heartbeat z p act.dispatch S names stmt =
            permits (loud_calls fs f.text.items there.func there.named act.calls calls.quiet loud)
            in
            let served : Served code heartbeat z S outside.around names = outside.served in
            record {
              opened = outside.opened;
              diverts = outside.diverts;
              around = outside.around;
              callable = outside.calls f.text.items is_called;
              served = served_call code heartbeat (z + act.size)
                  (callee code heartbeat z act fuel S names lowest place.has_room A kept next_in k
                  room call.return)
                  outside.around (texts there.func.params.items)
                  (λ v s kept_in t is. served.whole v.world s kept_in.keeps t is)
                  (λ v. served.early v.world);
            }

        place_in : HasPlace (z + act.size) (inner code heartbeat z act fuel S names lowest
            place.has_room A kept next_in k room call.return entry there.most) room
        place_in = record {
          has_room = there.is.has_room;
          deep = omega (
            arith,
            place.deep,
            place.has_room.fits,
          );
        }

    -- a call, with what follows it
    pub calls_law : (room : ℕ) → S.levels ≡ room → CallsOwe code heartbeat fuel (bare act) p room →
        HasPlace z act room → (w : Waiting) (c : Making w) → Remains code c.task.block c.task.at
        instrs end → Owing room w c
    calls_law zero levels calls place w c stands =
        subst (λ (r : Result). (S.owing w.world r).Holds c.task) (sym (deep_call fs fuel
        f.text.items f.place c.numbers [] w.state (next_in w.value) k)) (too_deep w c call.go
        f.place levels (tested w c stands))
    calls_law (suc room) levels calls place w c stands = goes_in room levels calls place w c stands
