-- The result of the first function, where it begins, is that of the first call of a pair.
use Rattle.std.proofs.Common.{◌≡◌, ℕ, suc, ◌<◌, Bool, true, false, cond, List, [], ◌∷◌, Some, refl}
use Rattle.std.proofs.Common.{sym, ap, subst, ◌∙◌, arith}
use Rattle.std.proofs.lemmas.Bool.Decides.{nat_tests}
use Rattle.beat_count.specs.Ticks.{is_tick_allowed, ticked}
use Rattle.loop_syntax.specs.declared.Expr.{Expr}
use Rattle.loop_meaning.specs.declared.value.Answer.{Answer}
use Rattle.loop_meaning.specs.declared.value.Answer.TheVariants.{Number, Traps}
use Rattle.loop_meaning.specs.declared.value.Variable.{Variable}
use Rattle.loop_meaning.specs.Calls.{enter}
use Rattle.loop_meaning.specs.Expressions.{eval}
use Rattle.loop_meaning.specs.State as meaning
use Rattle.loop_meaning.specs.State.{Chance, Note, Ran, after, done, out_of_fuel, tick}
use Rattle.loop_meaning.specs.Statements.{Called, given_answer, run_list, with_call}
use Rattle.tpal_syntax.specs.Listing.{Listing}
use Rattle.frame_machine.specs.FrameLaws.{WholeCells}
use Rattle.frame_machine.specs.Iterating.{NoCell}
use Rattle.frame_machine.specs.Parts.{NotesKeep}
use Rattle.scene_laws.specs.Layout.{Activation}
use Rattle.scene_laws.proofs.Scenes.Called.{body_set, enter_is, entered_with, going_back, open_call}
use Rattle.scene_laws.proofs.Scenes.Called.{value_then, with_value}
use Rattle.scene_laws.proofs.Scenes.Changing.{first_kept}
use Rattle.form_laws.proofs.CallPairs.PairChildren.{its_value, value_end, value_notes}
use Rattle.form_laws.proofs.CallPairs.PairPlaces.{Args, First, PairAt, Waiting, first_call}
use Rattle.scene_laws.proofs.Pairs.PairRuns.{call_end, low_keeps}
use Rattle.form_laws.proofs.CallPairs.PairSeconds.{CalledAt}
use Rattle.scene_laws.proofs.Scenes.Results.{End, Fin, Out, Result, fin, noting, notes_behind}
use Rattle.scene_laws.proofs.Scenes.Results.{notes_then}
use Rattle.scene_laws.proofs.Scenes.Results.{result, then, then_end}
use Rattle.scene_laws.proofs.Scenes.Tables.{table_names}

-- back in the caller the value of a function alone tells nothing more than the function's end
back_alone : (e : Expr) (vs : List Variable) (b : Result)
    → (then (then b (value_then e)) (going_back vs its_value fin)).end ≡ (then b (value_then e)).end
back_alone e vs b = by_end b.end
  where
    by_end : (x : End)
        → (then (then_end b.notes x (value_then e)) (going_back vs its_value fin)).end
        ≡ (then_end b.notes x (value_then e)).end
    by_end (Out stop ticks output) = refl
    by_end (Fin s) = by_answer (eval s.vars s.tables e).answer
      where
        answered : Answer → Result
        answered a = noting b.notes (then (result (given_answer a (eval s.vars s.tables e).notes s
            (λ n. done (with_value n s)))) fin)

        by_answer : (a : Answer)
            → (then (answered a) (going_back vs its_value fin)).end ≡ (answered a).end
        by_answer (Number n) = refl
        by_answer (Traps kind place) = refl

-- a tick within the fuel
ticked_on : (fuel : ℕ) (st : meaning.State) (g : meaning.State → Ran)
    (k : meaning.State → Result) → st.ticks < fuel
    → then (result (after (tick fuel st) g)) k
    ≡ then (result (g (record st { ticks = ticked fuel st.ticks }))) k
ticked_on fuel st g k below =
    by_test (is_tick_allowed fuel st.ticks) (grind (arith, nat_tests, below))
  where
    later : meaning.State
    later = record st { ticks = ticked fuel st.ticks }

    by_test : (b : Bool) → b ≡ true
        → then (result (after (cond b (done later) (out_of_fuel later)) g)) k
        ≡ then (result (g later)) k
    by_test true is = refl
    by_test false is = cc

module _ {code : Listing} {heartbeat z : ℕ} {act : Activation} (q : PairAt code heartbeat z act)
    (there : CalledAt code act q.p.funcs.items q.f.text.items q.first) where
  -- the caller's state behind the call's tick
  abbrev pub later_of : meaning.State → meaning.State
  later_of st = record st { ticks = ticked q.fuel st.ticks }

  -- what the function gives with these arguments from there on
  abbrev pub given_first : Args q → meaning.State → Result
  given_first a st =
      then (result (run_list (body_set q.p.funcs.items q.fuel q.room) there.func.body.items
      (entered_with there.func a.numbers (later_of st)))) (value_then there.func.result)

  module _ (w : Waiting q) (below : w.state.ticks < q.fuel) where
    abbrev G : Result
    G = given_first w.value w.state

    abbrev call : Called
    call = first_call q w.value w.state

    whole_is : then (result (with_call call its_value)) fin
        ≡ noting (Chance ∷ []) (then G (going_back w.state.vars its_value fin))
    whole_is =
        open_call q.p.funcs.items q.fuel q.f.text.items q.f.place w.value.numbers (Chance ∷ [])
        w.state its_value fin q.room there.func there.named
        ∙ (ticked_on q.fuel w.state
        (λ u. with_call (enter (body_set q.p.funcs.items q.fuel q.room) (Some there.func)
        w.value.numbers (Chance ∷ []) u) its_value) fin below
        ∙ enter_is (body_set q.p.funcs.items q.fuel q.room) there.func w.value.numbers (Chance ∷ [])
        (later_of w.state) its_value fin)

    ends : G.end ≡ call_end call
    ends =
        sym (back_alone there.func.result w.state.vars
        (result (run_list (body_set q.p.funcs.items q.fuel q.room) there.func.body.items
        (entered_with there.func w.value.numbers (later_of w.state)))))
        ∙ (ap (λ (r : Result). r.end) (sym whole_is) ∙ value_end call)

    keeps : NotesKeep (WholeCells q.modes) NoCell G.notes
    keeps =
        first_kept (WholeCells q.modes) NoCell G.notes
        (notes_behind G (going_back w.state.vars its_value fin))
        (subst (NotesKeep (WholeCells q.modes) NoCell)
        (notes_then G (going_back w.state.vars its_value fin))
        (subst (λ (r : Result). NotesKeep (WholeCells q.modes) NoCell r.notes) whole_is
        (subst (NotesKeep (WholeCells q.modes) NoCell) (sym (value_notes call)) of_call)).1)
      where
        of_call : NotesKeep (WholeCells q.modes) NoCell call.ran.notes
        of_call =
            low_keeps q.p q.modes q.fuel (suc q.room) q.f.text.items q.g.text.items q.f.place
            q.g.place q.rules w.value.numbers w.value.kept_numbers w.state (omega (arith, below))

    pub is_first : table_names w.state.tables ≡ act.tables → First q w (noting (Chance ∷ []) G)
    is_first tabled = record {
      ends = ends;
      keeps = (tt, keeps);
      within = omega (arith, below);
      tabled = tabled;
    }
