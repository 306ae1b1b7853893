-- Behind the first function of a pair of calls: where no part was cut off the second call is made,
-- and the left of a cut ends.
use Rattle.std.proofs.Common.{◌≡◌, ℕ, ◌+◌, ◌<◌, Bool, true, false, List, [], ◌∷◌, ◌++◌, length}
use Rattle.std.proofs.Common.{Some, Ok, refl, sym, ap, subst, ◌∙◌, arith}
use Rattle.std.specs.Prelude.{ℤ, pos, ⊤, cond, nat_eq, filter, slice_set}
use Rattle.std.specs.Ordering.{int_eq}
use Rattle.std.proofs.lemmas.Bool.{eqb-true}
use Rattle.std.proofs.lemmas.Bool.Decides.{Decides-int_eq}
use Rattle.std.proofs.lemmas.List.{length-set}
use Rattle.beat_count.specs.BeatState.{BeatState}
use Rattle.stack_marks.specs.declared.mark.Mark.{Mark}
use Rattle.stack_marks.specs.Stacks.{StackValue, popped, unmarked, with_word, word_at}
use Rattle.loop_meaning.specs.InRange.{InRange}
use Rattle.loop_meaning.specs.State as meaning
use Rattle.loop_meaning.specs.Statements.{set_var, with_call}
use Rattle.tpal_syntax.specs.declared.instructions.Alu.TheVariants as alu
use Rattle.tpal_syntax.specs.declared.instructions.Instr.{Instr}
use Rattle.tpal_syntax.specs.declared.instructions.Instr.TheVariants as instr
use Rattle.tpal_syntax.specs.declared.instructions.Term.{Term}
use Rattle.tpal_syntax.specs.declared.instructions.Value.TheVariants as value
use Rattle.tpal_syntax.specs.declared.words.Word.{Word}
use Rattle.tpal_syntax.specs.declared.words.Word.TheVariants as word
use Rattle.tpal_syntax.specs.Listing.{Listing}
use Rattle.tpal_machine.specs.Effect as effect
use Rattle.tpal_machine.specs.Effect.{is_marked_from}
use Rattle.tpal_machine.specs.Reading.{register, with_register}
use Rattle.tpal_machine.specs.State as machine
use Rattle.tpal_machine.specs.Step.{advanced}
use Rattle.tpal_machine.proofs.Kit.{Back, IsCalm, on_calc, on_sfree}
use Rattle.expr_lower.specs.Standing.{Remains}
use Rattle.expr_lower.proofs.Keeping.{register_other, register_set}
use Rattle.expr_lower.proofs.Standing.{behind, next}
use Rattle.handler_gen.specs.CallCuts.{call_mark}
use Rattle.handler_gen.specs.Sites.{left_end_label}
use Rattle.handler_gen.proofs.Marks.{on_prmpop}
use Rattle.expr_lower.specs.Registers.{base_register}
use Rattle.handler_gen.proofs.Words.{word_other, word_there}
use Rattle.scene_laws.specs.Code.{IsCell, store, to}
use Rattle.scene_laws.specs.Layout.{Activation, return_cell, value_cell, kept_argument}
use Rattle.scene_laws.specs.Pairs.{first_exit, fitted, passed_call}
use Rattle.scene_laws.proofs.Scenes.Activations.{clear_above, word_popped}
use Rattle.form_laws.proofs.Forms.Arguments.{AreIn, are_in_same, wider}
use Rattle.scene_laws.proofs.Scenes.Called.{back_with, set_before, with_value}
use Rattle.form_laws.proofs.Forms.Callees.{Returns, shows_popped}
use Rattle.form_laws.proofs.Forms.Calls.{Caller, Keeping, base_less, callee, clear, kept_same}
use Rattle.form_laws.proofs.Forms.Calls.{shows_below}
use Rattle.scene_laws.proofs.Scenes.Moves.{calm, opened}
use Rattle.form_laws.proofs.CallPairs.PairPlaces.{Args, CutsOwed, KeptIn, PairAt, Waiting, Worlds}
use Rattle.form_laws.proofs.CallPairs.PairPlaces.{calls, kept}
use Rattle.form_laws.proofs.CallPairs.PairPlaces.{next_in, scene_in}
use Rattle.scene_laws.proofs.Pairs.PairPromises.{side_ends}
use Rattle.form_laws.proofs.CallPairs.PairSeconds.{CalledAt, FunctionOwed, calls_second}
use Rattle.form_laws.proofs.CallPairs.PairSeconds.{passes_second}
use Rattle.scene_laws.proofs.Scenes.Pieces.{Apart, Host}
use Rattle.form_laws.proofs.Marks.{not_at, unmarked_is}
use Rattle.scene_laws.proofs.Scenes.Results.{Result, fin, result, then}
use Rattle.scene_laws.proofs.Scenes.Scene.{Scene, Shows, ShowsIn}
use Rattle.scene_laws.proofs.Scenes.Showing.{shows_assigned}
use Rattle.scene_laws.proofs.Cuts.Sides.{Part}
use Rattle.form_laws.proofs.Forms.Simple.{stores_in}

module _ {code : Listing} {heartbeat z : ℕ} {act : Activation} (q : PairAt code heartbeat z act)
  where
    -- the first call's value is in its variable: no other is kept
    abbrev pub nothing_kept : Keeping code heartbeat z act q.fuel q.S q.names ⊤
    nothing_kept = record { Holds = λ a s. ⊤; same = λ most a s t alike holds. tt }

    abbrev pub next_second : ⊤ → ℤ → meaning.State → meaning.Ran
    next_second a = q.ends

    module _ (there : CalledAt code act q.p.funcs.items q.g.text.items q.second) where
      -- what the second function owes where nothing was cut off
      abbrev pub SecondOwed : Type 0
      SecondOwed = FunctionOwed code heartbeat z act q.fuel q.S q.names q.lowest q.has_room q.low
          ⊤ nothing_kept next_second q.k q.room q.code_is.return q.levels q.few
          q.p.funcs.items q.g q.second there

      module _ (owed : SecondOwed) (own : CutsOwed q) (most : ℕ) where
        abbrev pub first_act : Activation
        first_act = record act { most = most; size = q.first.size }

        abbrev pub C : Scene code heartbeat (z + act.size)
        C = scene_in q own

        -- ---- the whole goes on

        module _ (w : Waiting q) (names_in : List (List ℕ)) (st : meaning.State)
            (state : machine.State) (v : ℤ) (beat : BeatState)
            (shows : ShowsIn code heartbeat (z + act.size) first_act q.fuel C (Host w) names_in st
            state)
            (fits_v : InRange v) (is : register state.registers 0 ≡ word.Int v) where
          abbrev place : ℕ
          place = z + q.site.mark

          -- the stack without the pair's mark
          abbrev bare : StackValue
          bare = unmarked state.stack (pos place)

          abbrev there_again : machine.State
          there_again = record state { beat = beat; block = q.code_is.between; at = 0 }

          abbrev K : Back code heartbeat
          K = q.S.owing w.world
              (then (result (next_in q w.value v (back_with w.state.vars st))) q.k)

          marks_are : bare.marks ≡ q.S.marks w.world
          marks_are =
              ap (filter (not_at place)) shows.marked
              ∙ unmarked_is (q.S.marks w.world) (call_mark q.site z ∷ []) place
              (clear_above (q.S.marks w.world) (z + value_cell q.S.lowest) place
              (omega (arith, q.lowest, w.few, q.mark_is)) (q.S.below w.world)) gone
            where
              gone : filter (not_at place) (call_mark q.site z ∷ []) ≡ []
              gone =
                  let same : int_eq (pos place) (pos place) ≡ true =
                  (Decides-int_eq (pos place) (pos place)).1 refl in
                  rw same refl

          kept_there : KeptIn q w bare
          kept_there = kept_same code heartbeat z act q.fuel q.S q.names q.lowest q.has_room (Args q)
              (kept q) (next_in q) q.k q.room q.code_is.between w state.stack bare refl
              (λ a below. refl) shows.keeps

          -- it shows the callee's state in the scene of a call that can't be cut
          shows_bare : Shows code heartbeat (z + act.size) first_act q.fuel
              (callee code heartbeat z act q.fuel q.S q.names q.lowest q.has_room (Args q) (kept q)
              (next_in q) q.k q.room q.code_is.between) w names_in st state.registers bare
              state.tables state.fuel state.output state.goal (state.pending, state.met)
          shows_bare = record {
            size = shows.size;
            base = shows.base;
            limit = shows.limit;
            limited = shows.limited;
            tall = omega arith;
            ticks = shows.ticks;
            within = shows.within;
            begun = shows.begun;
            printed = shows.printed;
            ends = shows.ends;
            free = shows.free;
            unmet = shows.unmet;
            marked = marks_are;
            named = shows.named;
            few = shows.few;
            tabled = shows.tabled;
            held = shows.held;
            can = shows.can.0;
            ranged = shows.ranged;
            levels = shows.levels;
            unmarked = subst
                (λ (ms : List Mark). is_marked_from ms (z + act.size + q.first.size) ≡ false)
                (sym marks_are)
                (clear code heartbeat z act q.fuel q.S q.names q.lowest q.has_room (Args q) (kept q)
                (next_in q) q.k q.room q.code_is.between w (z + act.size + q.first.size)
                (omega arith));
            top = shows.top;
            low = shows.low;
            room = shows.room;
            vars = shows.vars;
            keeps = kept_there;
          }

          -- ---- the caller's activation runs again

          abbrev words : List Word
          words = slice_set state.registers 31 (word.Int (pos z))

          many : length words ≡ 32
          many = length-set state.registers 31 (word.Int (pos z)) ∙ shows.size

          base : register words 31 ≡ word.Int (pos z)
          base = register_set state.registers 31 (word.Int (pos z)) (omega (arith, shows.size))

          value_there : register words 0 ≡ word.Int v
          value_there =
              register_other state.registers 31 0 (word.Int (pos z))
              (λ (e : 0 ≡ 31). absurd (omega (arith, e))) ∙ is

          -- it shows the caller's state, below the cells of the first function
          shows_caller : Shows code heartbeat z (wider act q.first.size) q.fuel q.S w.world q.names
              (back_with w.state.vars st) words bare state.tables state.fuel state.output state.goal
              (state.pending, state.met)
          shows_caller =
              shows_below code heartbeat z act q.fuel q.S q.names q.lowest q.has_room (Args q)
              (kept q) (next_in q) q.k q.room q.code_is.between q.first w bare kept_there shows.top most
              names_in st state.registers words state.tables state.fuel state.output state.goal
              (state.pending, state.met) shows_bare many base

          -- ---- its instructions

          abbrev end : Term
          end = to q.second.label

          abbrev call : List Instr
          call = passed_call code act q.second.parameters q.code_is.return

          abbrev last : List Instr
          last = fitted q.first.size q.second.size ++ call

          one : Remains code q.code_is.between 0
              (first_exit act.size q.site.mark q.cell last) end
          one = opened code q.code_is.between _ end q.code_is.after

          two : Remains code q.code_is.between (0 + 1)
              (instr.PrmPop base_register q.site.mark
              ∷ store q.cell (value.Reg 0) ∷ last) end
          two = behind code q.code_is.between 0 _ _ end one

          three : Remains code q.code_is.between (0 + 1 + 1)
              (store q.cell (value.Reg 0) ∷ last) end
          three = behind code q.code_is.between (0 + 1) _ _ end two

          four : Remains code q.code_is.between (0 + 1 + 1 + 1) last end
          four = behind code q.code_is.between (0 + 1 + 1) _ last end three

          -- ---- its tasks

          abbrev lowered : machine.State
          lowered = with_register (advanced there_again) 31 (word.Int (pos z))

          abbrev unset : machine.State
          unset = effect.with_stack (advanced lowered) bare

          abbrev stack : StackValue
          stack = with_word bare (pos (z + q.cell)) (word.Int v)

          abbrev stored : machine.State
          stored = effect.with_stack (advanced unset) stack

          abbrev freed : machine.State
          freed = effect.with_stack (advanced stored) (popped stack q.first.size)

          inside : z + q.cell < bare.base + length bare.cells
          inside = omega (
            arith,
            shows_caller.top,
            q.is_cell.at_level,
            q.is_cell.below,
            q.has_room.room,
          )

          -- ---- the second call, where the first one's value is in its variable

          abbrev set : meaning.State
          set = set_var q.x v (back_with w.state.vars st)

          -- what it owes
          abbrev L : Back code heartbeat
          L = q.S.owing w.world (then (result (with_call
              (calls q q.g.text.items q.g.place w.value.kept_numbers [] set) q.ends)) q.k)

          is_wider : IsCell code (wider act q.first.size) q.names q.fixed q.x.text.items q.cell
          is_wider = record {
            scope = q.is_cell.scope;
            sees = q.is_cell.sees;
            inside = q.is_cell.inside;
            is = q.is_cell.is;
            level = q.is_cell.level;
            at_level = q.is_cell.at_level;
            below = q.is_cell.below;
            free = q.is_cell.free;
          }

          shows_stored : ShowsIn code heartbeat z (wider act q.first.size) q.fuel q.S w.world
              q.names set stored
          shows_stored =
              shows_assigned code heartbeat z (wider act q.first.size) q.fuel q.S w.world
              shows_caller q.fixed q.x.text.items q.cell v is_wider q.may q.lowest fits_v

          abbrev caller : Caller code heartbeat z act q.fuel q.S q.names ⊤
          caller = record {
            world = w.world;
            state = set;
            value = tt;
            named = shows_stored.named;
            few = w.few;
            tall = w.tall;
          }

          are_stored : AreIn stack z (kept_argument act) 0 w.value.kept_numbers
          are_stored =
              are_in_same bare stack z (kept_argument act) 0 w.value.kept_numbers
              (λ j from below. word_other bare (z + q.cell) (z + kept_argument act j)
              (word.Int v) (omega (arith, shows_caller.low))
              (λ e. absurd (omega (arith, e, q.is_cell.at_level, q.is_cell.below)))) kept_there.also

          -- in the cells of the first function, where the second has as many
          goes_in_place : q.first.size ≡ q.second.size
              → Remains code q.code_is.between (0 + 1 + 1 + 1) call end → L.Holds stored
          goes_in_place as_many here =
              passes_second code heartbeat z act q.fuel q.S q.names q.lowest q.has_room q.low
              ⊤ nothing_kept next_second q.k q.room q.code_is.return q.levels q.few
              q.p.funcs.items q.g q.second there owed caller stored q.second.parameters
              w.value.kept_numbers w.value.kept_many refl q.eight q.fits
              (subst (λ (n : ℕ). ShowsIn code heartbeat z (wider act n) q.fuel q.S w.world q.names
              caller.state stored) as_many shows_stored)
              are_stored tt here

          clear_stored : is_marked_from stack.marks (z + act.size) ≡ false
          clear_stored =
              subst (λ (ms : List Mark). is_marked_from ms (z + act.size) ≡ false) (sym marks_are)
              (clear code heartbeat z act q.fuel q.S q.names q.lowest q.has_room (Args q) (kept q)
              (next_in q) q.k q.room q.code_is.between w (z + act.size) (omega arith))

          as_before : (a : ℕ) → a < z + act.size
              → word_at (popped stack q.first.size) (pos a) ≡ word_at stack (pos a)
          as_before a below =
              word_popped stack q.first.size a
              (omega (arith, below, shows_stored.top, shows_stored.low))

          -- in others
          goes_anew : Remains code q.code_is.between (0 + 1 + 1 + 1)
              (instr.Sfree q.first.size ∷ instr.Salloc q.second.size ∷ call) end → L.Holds stored
          goes_anew here =
              on_sfree code heartbeat L stored q.first.size (next code stored _ _ end here)
              (omega (arith, shows_stored.top, shows_stored.low))
              (subst (λ (a : ℕ). is_marked_from stack.marks a ≡ false)
              (omega (arith, shows_stored.top, shows_stored.low)) clear_stored)
              (calls_second code heartbeat z act q.fuel q.S q.names q.lowest q.has_room q.low
              ⊤ nothing_kept next_second q.k q.room q.code_is.return q.levels q.few
              q.p.funcs.items q.g q.second there owed caller freed q.second.parameters
              w.value.kept_numbers w.value.kept_many refl q.eight q.fits q.high
              (shows_popped code heartbeat z act q.first.size q.fuel q.S w.world q.names q.lowest
              caller.state q.has_room w.tall clear_stored shows_stored)
              (are_in_same stack freed.stack z (kept_argument act) 0 w.value.kept_numbers
              (λ j from below. as_before (z + kept_argument act j)
              (omega (arith, below, w.value.kept_many, q.eight, q.fits))) are_stored)
              tt
              (behind code q.code_is.between (0 + 1 + 1 + 1) _ _ end here))

          goes_second : K.Holds stored
          goes_second =
              subst (λ (r : Result). (q.S.owing w.world r).Holds stored)
              (set_before q.p.funcs.items q.fuel q.g.text.items q.g.place w.value.kept_numbers
              (back_with w.state.vars st) q.ends q.k q.x v q.room there.func there.named)
              (by_size (nat_eq q.first.size q.second.size) refl four)
            where
              by_size : (same : Bool) → nat_eq q.first.size q.second.size ≡ same
                  → Remains code q.code_is.between (0 + 1 + 1 + 1)
                  (cond same [] (instr.Sfree q.first.size ∷ instr.Salloc q.second.size ∷ [])
                  ++ call) end
                  → L.Holds stored
              by_size true e here = goes_in_place (eqb-true q.first.size q.second.size e) here
              by_size false e here = goes_anew here

          host_returns : K.Holds there_again
          host_returns =
              on_calc code heartbeat K there_again 31 31 alu.Sub (value.Int (pos act.size))
              (word.Int (pos z)) (next code there_again _ _ end one)
              (rw shows.base (ap (λ m. Ok (word.Int m)) (base_less z act.size q.low)))
              (on_prmpop code heartbeat K lowered 31 q.site.mark (pos z) _
              (next code lowered _ _ end two) base
              (word_there state.stack place (omega (arith, shows_caller.low))
              (omega (arith, shows_caller.top, q.mark_is, q.fits)))
              (stores_in code heartbeat z act q.fuel K unset q.cell
              (value.Reg 0) _ end three base shows_caller.low inside
              (subst (λ (x : Word). K.Holds (effect.with_stack (advanced unset)
              (with_word bare (pos (z + q.cell)) x))) (sym value_there)
              goes_second)))

        -- ---- both worlds

        abbrev label_of : Worlds q → ℕ
        label_of (Host w) = q.code_is.between
        label_of (Apart p) = left_end_label q.site.label

        module _ (calm_left : IsCalm code (left_end_label q.site.label)) where
          calm_of : (i : Worlds q) → IsCalm code (label_of i)
          calm_of (Host w) = calm code q.code_is.between _ (to q.second.label) q.code_is.after
          calm_of (Apart p) = calm_left

          held_of : (i : Worlds q) (s : StackValue) → C.kept i s
              → word_at s (pos (z + act.size + return_cell)) ≡ Some (word.Label (label_of i))
          held_of (Host w) s h = h.label
          held_of (Apart p) s h = h.label

          goes_of : (i : Worlds q) (names_in : List (List ℕ)) (st : meaning.State)
              (state : machine.State) (v : ℤ) (beat : BeatState)
              → ShowsIn code heartbeat (z + act.size) first_act q.fuel C i names_in st state
              → InRange v → register state.registers 0 ≡ word.Int v
              → (C.owing i (fin (with_value v st))).Holds
              (record state { beat = beat; block = label_of i; at = 0 })
          goes_of (Host w) names_in st state v beat shows fits_v is = λ given.
              host_returns w names_in st state v beat shows fits_v is
          goes_of (Apart p) names_in st state v beat shows fits_v is =
              side_ends code heartbeat (λ (part : Part). part) p v st task
              (q.joins.left_ends (z + act.size) p.rec p.which (word.Int v) task (record {
                block = refl;
                at = refl;
                size = shows.size;
                base = shows.base;
                value = is;
                goal = shows.ends;
                free = shows.free;
                unmet = shows.unmet;
              }) shows.keeps.rec) shows.ticks shows.printed shows.begun fits_v
            where
              task : machine.State
              task = record state { beat = beat; block = left_end_label q.site.label; at = 0 }

          pub first_returns : Returns code heartbeat q.fuel (z + act.size) first_act C
          first_returns = record {
            label = label_of;
            calm = calm_of;
            held = held_of;
            bare = refl;
            goes_on = goes_of;
          }
