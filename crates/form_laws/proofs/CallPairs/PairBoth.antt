-- What both calls of a pair come to that is cut, together with what follows them.
use Rattle.std.proofs.Common.{◌≡◌, ℕ, suc, ◌≤◌, true, List, [], ◌∷◌, ◌++◌, length, drop, refl, sym}
use Rattle.std.proofs.Common.{ap, subst, ◌∙◌, append_assoc}
use Rattle.beat_count.specs.Joining.{joined_stop}
use Rattle.tp_value.specs.declared.Stop.{Stop}
use Rattle.tp_value.specs.declared.Stop.TheVariants.{Done, Left, NoFuel, Trap}
use Rattle.loop_meaning.specs.InRange.{InRange}
use Rattle.loop_meaning.specs.State as meaning
use Rattle.loop_meaning.specs.State.{Chance, Ran}
use Rattle.loop_meaning.specs.Statements.{Called}
use Rattle.loop_meaning.proofs.Spending.{Sound, sound_call}
use Rattle.tpal_syntax.specs.Listing.{Listing}
use Rattle.tpal_machine.specs.declared.ends.Ending.{Ending}
use Rattle.tpal_machine.specs.Merge.{ended_together}
use Rattle.tpal_machine.specs.Reading.{note_of, or_plain, target_of, the_target}
use Rattle.tpal_machine.specs.RestState.{RestState}
use Rattle.tpal_machine.specs.declared.ends.Side.{Side}
use Rattle.frame_machine.proofs.Joining as joining
use Rattle.handler_gen.specs.Blocks.{call_target}
use Rattle.scene_laws.specs.Layout.{Activation}
use Rattle.scene_laws.proofs.Scenes.Called.{with_value}
use Rattle.form_laws.proofs.CallPairs.PairChildren.{child_part}
use Rattle.form_laws.proofs.CallPairs.PairCuts.{pair_rest}
use Rattle.form_laws.proofs.CallPairs.PairPlaces.{PairAt, PairCut, after_first, finish}
use Rattle.scene_laws.proofs.Pairs.PairPromises.{begun_rest, end_begun, end_in_range}
use Rattle.scene_laws.proofs.Pairs.PairPromises.{end_later}
use Rattle.scene_laws.proofs.Pairs.PairPromises.{is_end_of, output_of}
use Rattle.form_laws.proofs.CallPairs.PairResults.{done_is, early_is}
use Rattle.scene_laws.proofs.Pairs.PairRuns.{call_end, call_side_by, joins, low, low_output}
use Rattle.scene_laws.proofs.Pairs.PairRuns.{low_tables}
use Rattle.scene_laws.proofs.Pairs.PairRuns.{next, next_tables, up, whole}
use Rattle.form_laws.proofs.CallPairs.PairScenes.{left_part_of, shared_region}
use Rattle.scene_laws.proofs.Scenes.Results.{End, Fin, Result, noting, out, out_noting, result}
use Rattle.scene_laws.proofs.Scenes.Results.{then}
use Rattle.scene_laws.proofs.Scenes.Scene.{IsEarly}
use Rattle.scene_laws.proofs.Cuts.Sides.{Part}

-- the end of a call, as far as it tells what was printed
printed_end : (c : Called) → output_of (call_end c) ≡ c.ran.state.output
printed_end c = by_stop c.ran.stop refl
  where
    by_stop : (stop : Stop) → c.ran.stop ≡ stop → output_of (call_end c) ≡ c.ran.state.output
    by_stop Done is = rw is refl
    by_stop (Left number) is = rw is refl
    by_stop (Trap kind at) is = rw is refl
    by_stop NoFuel is = rw is refl

-- where the call is done, its end is done
pub end_done : (c : Called) → c.ran.stop ≡ Done
    → call_end c ≡ Fin (with_value c.value c.ran.state)
end_done c done = rw done refl

-- a run that goes on, where it is done
went_on : (r : Ran) (f : meaning.State → Ran) → r.stop ≡ Done
    → (meaning.go_on r.stop r f).state ≡ (f r.state).state
went_on r f done = rw done refl

module _ {code : Listing} {heartbeat z : ℕ} {act : Activation} (q : PairAt code heartbeat z act)
    (c : PairCut q) where
  -- the first call, the second as the child makes it and behind the first one, and both
  abbrev pub Low : Called
  Low =
      low q.p q.modes q.fuel (suc q.room) q.f.text.items q.g.text.items q.f.place q.g.place q.rules
      c.w.value.numbers c.w.value.kept_numbers c.w.state c.given.within

  abbrev pub Up : Called
  Up = up q.p q.modes q.fuel (suc q.room) q.f.text.items q.g.text.items q.f.place q.g.place q.rules
      c.w.value.numbers c.w.value.kept_numbers c.w.state c.given.within

  abbrev pub Next : Called
  Next = next q.p q.modes q.fuel (suc q.room) q.f.text.items q.g.text.items q.f.place q.g.place
      q.rules c.w.value.numbers c.w.value.kept_numbers c.w.state c.given.within Low.ran.state

  abbrev pub Both : Ran
  Both = whole q.p q.modes q.fuel (suc q.room) q.f.text.items q.g.text.items q.f.place q.g.place
      q.rules c.w.value.numbers c.w.value.kept_numbers c.w.state c.given.within

  -- the result of the first call, with what follows it, and what the whole task ends with
  abbrev pub R : Result
  R = then c.r (after_first q c.w)

  abbrev pub ending_of_both : Ending
  ending_of_both = q.S.ending c.w.world R

  -- both sides under a record, and the rest of the task
  abbrev pub left_of : ℕ → Part
  left_of n =
      left_part_of n (q.S.since c.w.world) c.st.output (shared_region (q.S.region c.w.world))

  abbrev pub right_of : ℕ → Part
  right_of n = child_part n (shared_region (q.S.region c.w.world))

  abbrev pub rest : ℕ → RestState
  rest n = pair_rest q.site z n c.state

  abbrev pub left_side : ℕ → Side
  left_side n = call_side_by n c.st.output (call_end Low)

  abbrev pub right_side : ℕ → Side
  right_side n = call_side_by n [] (call_end Up)

  -- what was printed up to the cut, and by both sides
  abbrev pub printed_both : List ℕ
  printed_both = c.state.output ++ drop (length c.st.output) c.w.state.output

  pub both_output : Both.state.output ≡ c.w.state.output
  both_output = (joins q.p q.modes q.fuel (suc q.room) q.f.text.items q.g.text.items q.f.place
      q.g.place q.rules c.w.value.numbers c.w.value.kept_numbers c.w.state c.given.within).output

  pub target_is : (n : ℕ) → the_target code (rest n).target ≡ call_target q.site
  target_is n = ap (λ b. or_plain (target_of (note_of b))) q.place.join.0

  pub limit_is : (n : ℕ) → (rest n).limit ≡ q.fuel
  limit_is n = c.runs.limit ∙ q.fuel_is

  -- ---- where the left comes to its end

  module _ (n : ℕ) (left_ends : is_end_of (left_of n) (call_end Low) ≡ true) where
    -- what was printed up to the cut, and behind it, is what the caller had printed
    all_printed : q.S.before c.w.world ++ printed_both ≡ c.w.state.output
    all_printed =
        sym (append_assoc (q.S.before c.w.world) c.state.output
        (drop (length c.st.output) c.w.state.output))
        ∙ (ap (λ (front : List ℕ). front ++ drop (length c.st.output) c.w.state.output)
        (sym c.runs.printed)
        ∙ (ap (λ (bytes : List ℕ). c.st.output ++ drop (length c.st.output) bytes)
        (sym caller_printed)
        ∙ (begun_rest c.st.output (output_of (call_end Low))
        (end_begun (left_of n) (call_end Low) left_ends) ∙ caller_printed)))
      where
        caller_printed : output_of (call_end Low) ≡ c.w.state.output
        caller_printed =
            printed_end Low
            ∙ low_output q.p q.modes q.fuel (suc q.room) q.f.text.items q.g.text.items q.f.place
            q.g.place q.rules c.w.value.numbers c.w.value.kept_numbers c.w.state c.given.within

    pub both_printed : Both.state.output ≡ q.S.before c.w.world ++ printed_both
    both_printed = both_output ∙ sym all_printed

    -- an early stop of both
    pub both_early : IsEarly Both.stop
        → ending_of_both ≡ ended_together c.state.goal Both.stop Both.state.ticks printed_both
    both_early early =
        ap (λ (x : Result). q.S.ending c.w.world x) result_is
        ∙ (q.S.blind c.w.world R.notes (out Both.stop Both.state)
        ∙ (q.S.stopped c.w.world Both.stop Both.state printed_both early both_printed
        ∙ ap (λ goal. ended_together goal Both.stop Both.state.ticks printed_both)
        (sym c.runs.ends)))
      where
        result_is : R ≡ noting R.notes (out Both.stop Both.state)
        result_is =
            ap (λ (end : End). record { notes = R.notes; end = end })
            (early_is q.p q.modes q.fuel (suc q.room) q.f.text.items q.g.text.items q.f.place
            q.g.place q.rules c.w.value.numbers c.w.value.kept_numbers c.w.state c.given.within
            (finish q) q.k c.r c.given.ends early)
            ∙ sym (out_noting R.notes Both.stop Both.state)

  -- ---- where both are done

  module _ (done : Both.stop ≡ Done) where
    together : joined_stop Low.ran.stop Low.ran.state.ticks Up.ran.stop Up.ran.state.ticks
        q.fuel ≡ Done
    together =
        sym (joins q.p q.modes q.fuel (suc q.room) q.f.text.items q.g.text.items q.f.place q.g.place
        q.rules c.w.value.numbers c.w.value.kept_numbers c.w.state c.given.within).stop ∙ done

    pub low_is_done : Low.ran.stop ≡ Done
    low_is_done = joining.low_done Low.ran.stop Low.ran.state.ticks Up.ran.stop Up.ran.state.ticks
        q.fuel together

    pub up_is_done : Up.ran.stop ≡ Done
    up_is_done = joining.up_done Low.ran.stop Low.ran.state.ticks Up.ran.stop Up.ran.state.ticks
        q.fuel together

    next_is_done : Next.ran.stop ≡ Done
    next_is_done = subst (λ (stop : Stop). (meaning.go_on stop Low.ran
        (λ (t : meaning.State). (next q.p q.modes q.fuel (suc q.room) q.f.text.items q.g.text.items
        q.f.place q.g.place q.rules c.w.value.numbers c.w.value.kept_numbers c.w.state
        c.given.within t).ran)).stop ≡ Done) low_is_done done

    -- the second call gives the same behind the first one as in the child
    pub same_value : Next.value ≡ Up.value
    same_value =
        let both : Low.value ∷ Next.value ∷ [] ≡ Low.value ∷ Up.value ∷ [] =
        (joins q.p q.modes q.fuel (suc q.room) q.f.text.items q.g.text.items q.f.place q.g.place
        q.rules c.w.value.numbers c.w.value.kept_numbers c.w.state c.given.within).results done in
        cc

    both_state : Both.state ≡ Next.ran.state
    both_state = went_on Low.ran (λ (t : meaning.State). (next q.p q.modes q.fuel (suc q.room)
        q.f.text.items q.g.text.items q.f.place q.g.place q.rules c.w.value.numbers
        c.w.value.kept_numbers c.w.state c.given.within t).ran) low_is_done

    pub both_vars : Both.state.vars ≡ c.w.state.vars
    both_vars = (joins q.p q.modes q.fuel (suc q.room) q.f.text.items q.g.text.items q.f.place
        q.g.place q.rules c.w.value.numbers c.w.value.kept_numbers c.w.state c.given.within).vars
        done

    pub both_tables : Both.state.tables ≡ c.w.state.tables
    both_tables =
        ap (λ (s : meaning.State). s.tables) both_state
        ∙ (next_tables q.p q.modes q.fuel (suc q.room) q.f.text.items q.g.text.items q.f.place
        q.g.place q.rules c.w.value.numbers c.w.value.kept_numbers c.w.state c.given.within
        Low.ran.state
        ∙ low_tables q.p q.modes q.fuel (suc q.room) q.f.text.items q.g.text.items q.f.place
        q.g.place q.rules c.w.value.numbers c.w.value.kept_numbers c.w.state c.given.within)

    -- the ticks of the second call come behind those of the first
    low_within : Low.ran.state.ticks ≤ q.fuel
    low_within = (sound_call q.p.funcs.items q.fuel (suc q.room) q.f.text.items q.f.place
        c.w.value.numbers (Chance ∷ []) c.w.state c.given.within).within
        (λ spent. let wrong : Done ≡ NoFuel = sym low_is_done ∙ spent in cc)

    second_sound : Sound q.fuel Low.ran.state Next.ran
    second_sound = sound_call q.p.funcs.items q.fuel (suc q.room) q.g.text.items q.g.place
        c.w.value.kept_numbers [] Low.ran.state low_within

    pub both_later : Low.ran.state.ticks ≤ Both.state.ticks
    both_later =
        subst (λ (s : meaning.State). Low.ran.state.ticks ≤ s.ticks) (sym both_state)
        second_sound.later

    pub both_within : Both.state.ticks ≤ q.fuel
    both_within =
        subst (λ (s : meaning.State). s.ticks ≤ q.fuel) (sym both_state)
        (second_sound.within (λ spent. let wrong : Done ≡ NoFuel = sym next_is_done ∙ spent in cc))

    -- what follows the first call is what ends the pair, with notes before
    pub both_done : R ≡ noting (c.r.notes ++ Next.ran.notes)
        (then (result (finish q Low.value Next.value Both.state)) q.k)
    both_done = done_is q.p q.modes q.fuel (suc q.room) q.f.text.items q.g.text.items q.f.place
        q.g.place q.rules c.w.value.numbers c.w.value.kept_numbers c.w.state c.given.within
        (finish q) q.k c.r c.given.ends done

    -- what the ends of both sides tell
    pub left_later : (n : ℕ) → is_end_of (left_of n) (call_end Low) ≡ true
        → q.S.since c.w.world ≤ Low.ran.state.ticks
    left_later n ends =
        end_later (left_of n) (with_value Low.value Low.ran.state)
        (ap (λ (e : End). is_end_of (left_of n) e) (sym (end_done Low low_is_done)) ∙ ends)

    pub left_in_range : (n : ℕ) → is_end_of (left_of n) (call_end Low) ≡ true → InRange Low.value
    left_in_range n ends =
        end_in_range (left_of n) (with_value Low.value Low.ran.state)
        (ap (λ (e : End). is_end_of (left_of n) e) (sym (end_done Low low_is_done)) ∙ ends)

    pub right_in_range : (n : ℕ) → is_end_of (right_of n) (call_end Up) ≡ true
        → InRange Up.value
    right_in_range n ends =
        end_in_range (right_of n) (with_value Up.value Up.ran.state)
        (ap (λ (e : End). is_end_of (right_of n) e) (sym (end_done Up up_is_done)) ∙ ends)
