-- What a task owes after a step and after a turn.
use Rattle.std.proofs.Common.{◌≡◌, ℕ, zero, suc, ◌+◌, ◌≤◌, Bool, true, false, refl, ap, sym, subst}
use Rattle.std.proofs.Common.{◌∙◌, arith}
use Rattle.tpal_syntax.specs.Conditions.{IsCode}
use Rattle.tpal_syntax.specs.Listing.{Listing}
use Rattle.tpal_machine.specs.declared.ends.Ending.{Ending}
use Rattle.tpal_machine.specs.declared.turn.Ran.{Ran}
use Rattle.tpal_machine.specs.declared.turn.Turn.{Turn}
use Rattle.tpal_machine.specs.declared.turn.Turn.TheVariants as turn
use Rattle.tpal_machine.specs.Answer.{IsTurn, IsRan, HadMemory}
use Rattle.tpal_machine.specs.Belonging.{RunsOn, IsStepOf, IsJoinedOf}
use Rattle.tpal_machine.specs.Effect.{answered}
use Rattle.tpal_machine.specs.Keeping.{IsUndiverted}
use Rattle.tpal_machine.specs.Memory.{IsWant, WhereWanting}
use Rattle.tpal_machine.specs.Merge as merging
use Rattle.tpal_machine.specs.Merge.{Joined}
use Rattle.tpal_machine.specs.Owed.{owing, AnswersOwe, StoppedOwes, AnsweredOwes, TurnOwes, RanOwes}
use Rattle.tpal_machine.specs.Owed.{due_after}
use Rattle.tpal_machine.specs.Owes.{Owes}
use Rattle.tpal_machine.specs.State.{State}
use Rattle.tpal_machine.specs.Step.{Step, Goes, Beats, Ends, Asks, Forks, Stuck, Strays, step}
use Rattle.tpal_machine.specs.Turn.{Stopped, Turned, turn_from, turn_of, went_on}
use Rattle.tpal_machine.specs.Within.{Owing, NextOwes, ForkOwes, JoinedOwes}
use Rattle.tpal_machine.proofs.Belonging.{step_of}
use Rattle.tpal_machine.proofs.Given.{answered_of, joined_of_code}
use Rattle.tpal_machine.proofs.Owing.{Some_bound, by_step, no_least}
use Rattle.tpal_machine.proofs.Undiverted.{agrees}

module _ (code : Listing) (heartbeat : ℕ) (right : IsCode code.tables code.blocks) where
  abbrev Owe : Owing
  Owe = owing code heartbeat

  made : (due : Bool) (state : State) (e : Ending) → RunsOn code state → Some_bound code heartbeat due state e → Owe due state e
  made due state e runs some = record { belongs = runs.belongs; waits_not = runs.waits_not; bound = no_least code heartbeat due some.least state e some.bound }

  joined_made : (e : Ending) (both : Joined) → IsJoinedOf code both → JoinedOwes (Some_bound code heartbeat) e both → JoinedOwes Owe e both
  joined_made e (merging.Goes joined) of some = made false joined e of some
  joined_made e (merging.Ends other) of same = same

  next_made : (due : Bool) (state : State) (e : Ending) (one : Step) → RunsOn code state → IsStepOf code one → IsStepOf code (step code heartbeat false state) → NextOwes code heartbeat (Some_bound code heartbeat) due state e one → NextOwes code heartbeat Owe due state e one
  next_made due state e (Ends other) runs of calm is = is
  next_made due state e (Goes after) runs of calm is = made due after e of is
  next_made due state e (Beats diverted) runs of calm is = (
    is.0,
    record {
      after = is.1.after;
      goes = is.1.goes;
      after_owes = made false is.1.after e (subst (IsStepOf code) is.1.goes calm) is.1.after_owes;
      diverted_owes = made true diverted e of is.1.diverted_owes;
    },
  )
  next_made due state e (Asks waits) runs of calm is = (is.0, λ rec fits. made false (answered rec waits) e (answered_of code waits rec of) (is.1 rec fits))
  next_made due state e (Forks parts) runs of calm is =
      let m = is.1.merged in (
        is.0,
        record {
          left = is.1.left;
          right = is.1.right;
          both = is.1.both;
          left_owes = made false parts.left _ of.left is.1.left_owes;
          child_owes = made false parts.child _ of.child is.1.child_owes;
          merged = m;
          joined_owes = joined_made e is.1.both (subst (IsJoinedOf code) m.gives (joined_of_code code parts.rest is.1.left is.1.right right m.rest_belongs m.left_belongs m.right_belongs)) is.1.joined_owes;
        },
      )
  next_made due state e (Stuck f) runs of calm is = absurd is
  next_made due state e Strays runs of calm is = absurd is

  runs : (due : Bool) (n : ℕ) (state : State) (e : Ending) → Owes code heartbeat due n state e → RunsOn code state
  runs due n state e owes = record { belongs = owes.belongs; waits_not = owes.waits_not }

  -- what a task owes after a step
  pub after_step : (due : Bool) (n : ℕ) (state : State) (e : Ending) → Owes code heartbeat due n state e → NextOwes code heartbeat Owe due state e (step code heartbeat true state)
  after_step due n state e owes =
      let can = runs due n state e owes in
      next_made due state e (step code heartbeat true state) can (step_of code heartbeat true state right can) (step_of code heartbeat false state right can) (by_step code heartbeat due n state e owes.bound)

  -- ---- a turn

  -- what a task owes after a step of a turn, whether diversions are allowed in it or not
  abbrev Here_owes : Bool → Ending → Step → Type 0
  Here_owes due e (Ends other) = (due ≡ false) × (other ≡ e)
  Here_owes due e (Goes after) = Owe due after e
  Here_owes due e (Beats diverted) = (due ≡ false) × Owe true diverted e
  Here_owes due e (Asks waits) = (due ≡ true) × AnswersOwe Owe waits e
  Here_owes due e (Forks parts) = (due ≡ false) × ForkOwes code Owe parts e
  Here_owes due e (Stuck fault) = ⊥
  Here_owes due e Strays = ⊥

  diverted_here : (due : Bool) (state : State) (e : Ending) (one : Step) → NextOwes code heartbeat Owe due state e one → Here_owes due e one
  diverted_here due state e (Ends other) is = is
  diverted_here due state e (Goes after) is = is
  diverted_here due state e (Beats diverted) is = (is.0, is.1.diverted_owes)
  diverted_here due state e (Asks waits) is = is
  diverted_here due state e (Forks parts) is = is
  diverted_here due state e (Stuck fault) is = is
  diverted_here due state e Strays is = is

  -- no beat comes where none is allowed
  abbrev Calm_owes : Bool → Ending → Step → Type 0
  Calm_owes due e (Ends other) = (due ≡ false) × (other ≡ e)
  Calm_owes due e (Goes after) = Owe due after e
  Calm_owes due e (Beats diverted) = ⊥
  Calm_owes due e (Asks waits) = (due ≡ true) × AnswersOwe Owe waits e
  Calm_owes due e (Forks parts) = (due ≡ false) × ForkOwes code Owe parts e
  Calm_owes due e (Stuck fault) = ⊥
  Calm_owes due e Strays = ⊥

  calm_here : (due : Bool) (state : State) (e : Ending) (one : Step) → NextOwes code heartbeat Owe due state e one → IsUndiverted one (step code heartbeat false state) → Calm_owes due e (step code heartbeat false state)
  calm_here due state e (Ends other) is calm = subst (Calm_owes due e) (sym calm) is
  calm_here due state e (Goes after) is calm = subst (Calm_owes due e) (sym calm) is
  calm_here due state e (Beats diverted) is calm = subst (Calm_owes due e) (sym is.1.goes) (subst (λ d. Owe d is.1.after e) (sym is.0) is.1.after_owes)
  calm_here due state e (Asks waits) is calm = subst (Calm_owes due e) (sym calm) is
  calm_here due state e (Forks parts) is calm = subst (Calm_owes due e) (sym calm) is
  calm_here due state e (Stuck fault) is calm = absurd is
  calm_here due state e Strays is calm = absurd is

  -- what a task owes by a turn that had so many beats before
  record From_owes (allowed due : Bool) (beats : ℕ) (e : Ending) (turned : Turned) : Type 0 where
    more : ℕ
    all : turned.beats ≡ beats + more
    stopped : StoppedOwes code Owe (due_after due more) e turned.stopped
    few : more ≤ 1
    calm : due ≡ true → more ≡ 0
    quiet : allowed ≡ false → more ≡ 0

  none_more : (allowed due : Bool) (beats : ℕ) (e : Ending) (turned : Turned) → turned.beats ≡ beats → StoppedOwes code Owe due e turned.stopped → From_owes allowed due beats e turned
  none_more allowed due beats e turned same stopped = record { more = 0; all = omega (arith, same); stopped = subst (λ d. StoppedOwes code Owe d e turned.stopped) (sym (not_more due)) stopped; few = omega arith; calm = λ _. refl; quiet = λ _. refl }
    where
      not_more : (d : Bool) → due_after d 0 ≡ d
      not_more true = refl
      not_more false = refl

  one_more : (due : Bool) (beats : ℕ) (e : Ending) (turned : Turned) → due ≡ false → From_owes false true (beats + 1) e turned → From_owes true due beats e turned
  one_more due beats e turned none is =
      let zero_more : is.more ≡ 0 = is.calm refl in
      let sum : turned.beats ≡ beats + 1 = let a = is.all in omega (arith, a, zero_more) in
      record {
        more = 1;
        all = sum;
        stopped = subst (λ d. StoppedOwes code Owe (due_after d 1) e turned.stopped) (sym none) is.stopped;
        few = omega arith;
        calm = λ also. absurd (true_false (sym also ∙ none));
        quiet = λ also. absurd (true_false also);
      }
    where
      true_false : true ≡ false → ⊥
      true_false same = cc

  went_calmly : (due : Bool) (steps beats : ℕ) (state : State) (e : Ending) (go divert : State → Turned) (one : Step) → Calm_owes due e one → ((t : State) → Owe due t e → From_owes false due beats e (go t)) → From_owes false due beats e (went_on one steps beats state go divert)
  went_calmly due steps beats state e go divert (Ends other) is each = none_more false due beats e _ refl is
  went_calmly due steps beats state e go divert (Goes after) is each = each after is
  went_calmly due steps beats state e go divert (Beats diverted) is each = absurd is
  went_calmly due steps beats state e go divert (Asks waits) is each = none_more false due beats e _ refl is
  went_calmly due steps beats state e go divert (Forks parts) is each = none_more false due beats e _ refl is
  went_calmly due steps beats state e go divert (Stuck fault) is each = absurd is
  went_calmly due steps beats state e go divert Strays is each = absurd is

  went_freely : (due : Bool) (steps beats : ℕ) (state : State) (e : Ending) (go divert : State → Turned) (one : Step) → Here_owes due e one → ((t : State) → Owe due t e → From_owes true due beats e (go t)) → ((t : State) → Owe true t e → From_owes false true (beats + 1) e (divert t)) → From_owes true due beats e (went_on one steps beats state go divert)
  went_freely due steps beats state e go divert (Ends other) is each other_way = none_more true due beats e _ refl is
  went_freely due steps beats state e go divert (Goes after) is each other_way = each after is
  went_freely due steps beats state e go divert (Beats diverted) is each other_way = one_more due beats e (divert diverted) is.0 (other_way diverted is.1)
  went_freely due steps beats state e go divert (Asks waits) is each other_way = none_more true due beats e _ refl is
  went_freely due steps beats state e go divert (Forks parts) is each other_way = none_more true due beats e _ refl is
  went_freely due steps beats state e go divert (Stuck fault) is each other_way = absurd is
  went_freely due steps beats state e go divert Strays is each other_way = absurd is

  from_owes : (n : ℕ) (allowed due : Bool) (steps beats : ℕ) (state : State) (e : Ending) → Owe due state e → From_owes allowed due beats e (turn_from n code heartbeat allowed steps beats state)
  unfolding turn_from
  from_owes zero allowed due steps beats state e owes = none_more allowed due beats e _ refl owes
  from_owes (suc n) false due steps beats state e owes =
      went_calmly due steps beats state e _ _ (step code heartbeat false state) (calm_here due state e (step code heartbeat true state) (after_step due 0 state e owes) (agrees code heartbeat state))
      (λ t is. from_owes n false due (steps + 1) beats t e is)
  from_owes (suc n) true due steps beats state e owes =
      went_freely due steps beats state e _ _ (step code heartbeat true state) (diverted_here due state e (step code heartbeat true state) (after_step due 0 state e owes))
      (λ t is. from_owes n true due (steps + 1) beats t e is)
      (λ t is. from_owes n false true (steps + 1) (beats + 1) t e is)

  -- what a task owes after a turn
  pub after_turn : (budget n : ℕ) (allowed due : Bool) (state : State) (e : Ending) → Owes code heartbeat due n state e → TurnOwes code Owe due e (turn_of budget code heartbeat allowed state)
  after_turn budget n allowed due state e owes =
      let is = from_owes budget allowed due 0 0 state e (made due state e (runs due n state e owes) (record { least = n; bound = owes.bound })) in
      let same : is.more ≡ (turn_of budget code heartbeat allowed state).beats = let a = is.all in omega (arith, a) in
      let all = is.all in
      let few = is.few in
      record {
        stopped = subst (λ m. StoppedOwes code Owe (due_after due m) e (turn_of budget code heartbeat allowed state).stopped) same is.stopped;
        few = omega (arith, all, few);
        calm = λ yet. let none = is.calm yet in omega (arith, all, none);
      }

  -- what the turn that is answered owes
  answered_owes : (due : Bool) (e : Ending) (stopped : Stopped) (t : Turn) → IsTurn stopped t → StoppedOwes code Owe due e stopped → AnsweredOwes code Owe due e t
  answered_owes due e stopped (turn.Pause task) is owes = subst (StoppedOwes code Owe due e) is owes
  answered_owes due e stopped (turn.NeedRecord task) is owes = subst (StoppedOwes code Owe due e) is owes
  answered_owes due e stopped (turn.Forked left rest child rec) is owes = subst (StoppedOwes code Owe due e) is owes
  answered_owes due e stopped (turn.Arrived rec side out) is owes = subst (StoppedOwes code Owe due e) is owes
  answered_owes due e stopped (turn.Halted outcome) is owes = subst (StoppedOwes code Owe due e) is owes
  answered_owes due e stopped (turn.Stuck fault block at) is owes = subst (StoppedOwes code Owe due e) is owes
  answered_owes due e stopped turn.NoMemory is owes = tt

  ran_owes_by : (due : Bool) (e : Ending) (ran : Ran) (turned : Turned) → IsTurn turned.stopped ran.turn → ran.beats ≡ turned.beats → TurnOwes code Owe due e turned → RanOwes code Owe due e ran
  ran_owes_by due e ran turned is beats owes =
      let few = owes.few in
      record {
        turn = answered_owes (due_after due ran.beats) e turned.stopped ran.turn is (subst (λ m. StoppedOwes code Owe (due_after due m) e turned.stopped) (sym beats) owes.stopped);
        few = omega (arith, beats, few);
        calm = λ yet. beats ∙ owes.calm yet;
      }

  -- what the turn that is answered owes, where memory is wanting too
  pub ran_owes : (budget n : ℕ) (allowed due : Bool) (state : State) (e : Ending) (ran : Ran) → IsRan (turn_of budget code heartbeat allowed state) ran → WhereWanting ran.turn (IsWant code heartbeat allowed budget state ran) → Owes code heartbeat due n state e → RanOwes code Owe due e ran
  ran_owes budget n allowed due state e ran is wants owes = by_turn ran.turn refl is.turn is.beats wants
    where
      had : (t : Turn) → ran.turn ≡ t → IsTurn (turn_of budget code heartbeat allowed state).stopped t → ran.beats ≡ (turn_of budget code heartbeat allowed state).beats → RanOwes code Owe due e ran
      had t same turned beats = ran_owes_by due e ran (turn_of budget code heartbeat allowed state) is.turn beats (after_turn budget n allowed due state e owes)

      by_turn : (t : Turn) → ran.turn ≡ t → IsTurn (turn_of budget code heartbeat allowed state).stopped t → HadMemory t (ran.beats ≡ (turn_of budget code heartbeat allowed state).beats) → WhereWanting t (IsWant code heartbeat allowed budget state ran) → RanOwes code Owe due e ran
      by_turn (turn.Pause task) same turned beats want = had (turn.Pause task) same turned beats
      by_turn (turn.NeedRecord task) same turned beats want = had (turn.NeedRecord task) same turned beats
      by_turn (turn.Forked left rest child rec) same turned beats want = had (turn.Forked left rest child rec) same turned beats
      by_turn (turn.Arrived rec side out) same turned beats want = had (turn.Arrived rec side out) same turned beats
      by_turn (turn.Halted outcome) same turned beats want = had (turn.Halted outcome) same turned beats
      by_turn (turn.Stuck f block at) same turned beats want = had (turn.Stuck f block at) same turned beats
      by_turn turn.NoMemory same turned beats want =
          let part = after_turn ran.steps n allowed due state e owes in
          let count : (turn_of ran.steps code heartbeat allowed state).beats ≡ ran.beats = ap (λ (t : Turned). t.beats) want.reached in
          let few = part.few in
          record {
            turn = subst (AnsweredOwes code Owe (due_after due ran.beats) e) (sym same) tt;
            few = omega (arith, count, few);
            calm = λ yet. sym count ∙ part.calm yet;
          }
