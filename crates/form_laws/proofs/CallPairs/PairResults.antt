-- What follows the first call of a pair gives, by how both calls stop together.
use Rattle.std.proofs.Common.{◌≡◌, ℕ, ◌≤◌, List, ◌++◌, refl, sym, ap, subst, ◌∙◌}
use Rattle.std.specs.Prelude.{ℤ}
use Rattle.tp_value.specs.declared.Place.{Place}
use Rattle.tp_value.specs.declared.Stop.{Stop}
use Rattle.tp_value.specs.declared.Stop.TheVariants.{Done, Left, NoFuel, Trap}
use Rattle.loop_syntax.specs.declared.Program.{Program}
use Rattle.loop_meaning.specs.declared.value.Variable.{Variable}
use Rattle.loop_meaning.specs.State as meaning
use Rattle.loop_meaning.specs.State.{Ran, after}
use Rattle.loop_meaning.specs.Statements.{Called, with_call}
use Rattle.frame_machine.specs.FrameLaws.{LawfulCalls}
use Rattle.frame_machine.specs.Modes.{Modes}
use Rattle.scene_laws.proofs.Scenes.Called.{going_back, with_value}
use Rattle.scene_laws.proofs.Pairs.PairRuns.{call_end, low, low_vars, next, whole}
use Rattle.scene_laws.proofs.Scenes.Results.{End, Out, Result, after_then, end_by, noting}
use Rattle.scene_laws.proofs.Scenes.Results.{noting_twice}
use Rattle.scene_laws.proofs.Scenes.Results.{result, then, then_end}
use Rattle.scene_laws.proofs.Scenes.Scene.{IsEarly}

module _ (p : Program) (m : Modes) (fuel room : ℕ) (f g : List ℕ) (place second_place : Place)
    (rules : LawfulCalls p m f g) (ns ms : List ℤ) (s : meaning.State) (within : s.ticks ≤ fuel)
    (finish : ℤ → ℤ → meaning.State → Ran) (k : meaning.State → Result) where
  abbrev Low : Called
  Low = low p m fuel room f g place second_place rules ns ms s within

  abbrev Next : meaning.State → Called
  Next = next p m fuel room f g place second_place rules ns ms s within

  abbrev Whole : Ran
  Whole = whole p m fuel room f g place second_place rules ns ms s within

  -- what follows the first call, where it gave a value
  abbrev pub second_then : ℤ → meaning.State → Ran
  second_then v t = with_call (Next t) (finish v)

  abbrev pub behind_both : meaning.State → Result
  behind_both = going_back s.vars second_then k

  abbrev behind_low : meaning.State → Result
  behind_low t = then (result (second_then Low.value t)) k

  abbrev ending_so : ℤ → Called → meaning.State → Result
  ending_so v c t = then (result (finish v c.value t)) k

  after_next : (v : ℤ) (c : Called)
      → then (result (with_call c (finish v))) k ≡ then (result c.ran) (ending_so v c)
  after_next v c = after_then c.ran (finish v c.value) k

  -- by the second call
  next_early : (v : ℤ) (c : Called) → IsEarly c.ran.stop
      → (then (result c.ran) (ending_so v c)).end
      ≡ Out c.ran.stop c.ran.state.ticks c.ran.state.output
  next_early v c early = by_stop c.ran.stop early
    where
      by_stop : (stop : Stop) → IsEarly stop
          → (then_end c.ran.notes (end_by stop c.ran.state) (ending_so v c)).end
          ≡ Out stop c.ran.state.ticks c.ran.state.output
      by_stop Done early = absurd early
      by_stop (Left number) early = absurd early
      by_stop (Trap kind at) early = refl
      by_stop NoFuel early = refl

  module _ (r : Result) (is_low : r.end ≡ call_end Low) where
    from_low : Low.ran.stop ≡ Done → then r behind_both ≡ noting r.notes (behind_low Low.ran.state)
    from_low done =
        ap (λ (e : End). then_end r.notes e behind_both) is_low
        ∙ (ap (λ (stop : Stop). then_end r.notes
        (end_by stop (with_value Low.value Low.ran.state)) behind_both) done
        ∙ ap (λ (vs : List Variable).
        noting r.notes (behind_low (record Low.ran.state { vars = vs })))
        (sym (low_vars p m fuel room f g place second_place rules ns ms s within done)))

    low_early : (stop : Stop) → Low.ran.stop ≡ stop → IsEarly stop
        → (then r behind_both).end ≡ Out stop Low.ran.state.ticks Low.ran.state.output
    low_early stop is early =
        ap (λ (e : End). (then_end r.notes e behind_both).end) is_low
        ∙ (ap (λ (x : Stop). (then_end r.notes (end_by x (with_value Low.value Low.ran.state))
        behind_both).end) is ∙ by_stop stop early)
      where
        by_stop : (stop : Stop) → IsEarly stop
            → (then_end r.notes (end_by stop (with_value Low.value Low.ran.state)) behind_both).end
            ≡ Out stop Low.ran.state.ticks Low.ran.state.output
        by_stop Done early = absurd early
        by_stop (Left number) early = absurd early
        by_stop (Trap kind at) early = refl
        by_stop NoFuel early = refl

    -- an early stop of both is that of what follows
    pub early_is : IsEarly Whole.stop
        → (then r behind_both).end ≡ Out Whole.stop Whole.state.ticks Whole.state.output
    early_is early = by_low Low.ran.stop refl early
      where
        both_by : Stop → Ran
        both_by stop = meaning.go_on stop Low.ran (λ t. (Next t).ran)

        by_low : (stop : Stop) → Low.ran.stop ≡ stop → IsEarly (both_by stop).stop
            → (then r behind_both).end
            ≡ Out (both_by stop).stop (both_by stop).state.ticks (both_by stop).state.output
        by_low Done is early =
            ap (λ (q : Result). q.end) (from_low is)
            ∙ (ap (λ (q : Result). q.end) (after_next Low.value (Next Low.ran.state))
            ∙ next_early Low.value (Next Low.ran.state) early)
        by_low (Left number) is early = absurd (subst IsEarly is early)
        by_low (Trap kind at) is early =
            low_early (Trap kind at) is tt
            ∙ ap (λ stop. Out stop Low.ran.state.ticks Low.ran.state.output) (sym is)
        by_low NoFuel is early =
            low_early NoFuel is tt
            ∙ ap (λ stop. Out stop Low.ran.state.ticks Low.ran.state.output) (sym is)

    -- where both are done, what follows is what the end of the pair gives, with notes before
    pub done_is : Whole.stop ≡ Done
        → then r behind_both
        ≡ noting (r.notes ++ (Next Low.ran.state).ran.notes)
        (then (result (finish Low.value (Next Low.ran.state).value Whole.state)) k)
    done_is done = by_low Low.ran.stop refl done
      where
        both_by : Stop → Ran
        both_by stop = meaning.go_on stop Low.ran (λ t. (Next t).ran)

        by_low : (stop : Stop) → Low.ran.stop ≡ stop → (both_by stop).stop ≡ Done
            → then r behind_both
            ≡ noting (r.notes ++ (Next Low.ran.state).ran.notes)
            (then (result (finish Low.value (Next Low.ran.state).value (both_by stop).state)) k)
        by_low Done is so =
            from_low is
            ∙ (ap (noting r.notes) (after_next Low.value (Next Low.ran.state)
            ∙ ap (λ (stop : Stop). then_end (Next Low.ran.state).ran.notes
            (end_by stop (Next Low.ran.state).ran.state)
            (ending_so Low.value (Next Low.ran.state))) so)
            ∙ sym (noting_twice r.notes (Next Low.ran.state).ran.notes
            (ending_so Low.value (Next Low.ran.state) (Next Low.ran.state).ran.state)))
        by_low (Left number) is so = let wrong : Left number ≡ Done = sym is ∙ so in cc
        by_low (Trap kind at) is so = let wrong : Trap kind at ≡ Done = sym is ∙ so in cc
        by_low NoFuel is so = let wrong : NoFuel ≡ Done = sym is ∙ so in cc
