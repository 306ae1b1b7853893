-- What a task owes, and what it owes within a number of steps.
use Rattle.std.proofs.Common.{◌≡◌, ℕ, zero, suc, ◌+◌, ◌<◌, ◌≤◌, ◌^◌, ◌⊎◌, inl, inr, Bool, true}
use Rattle.std.proofs.Common.{false, Option, Some, None, refl, sym, ap, ◌∙◌, subst, ⊎_elim, arith}
use Rattle.std.proofs.lemmas.Bool.{cases_eq, cases_lt}
use Rattle.tpal_syntax.specs.Conditions.{IsCode}
use Rattle.tpal_syntax.specs.Listing.{Listing}
use Rattle.tpal_machine.specs.declared.ends.Ending.{Ending}
use Rattle.tpal_machine.specs.declared.ends.Ending.TheVariants as ending
use Rattle.tpal_machine.specs.declared.ends.Goal.{Goal}
use Rattle.tpal_machine.specs.declared.ends.Goal.TheVariants as goal
use Rattle.tpal_machine.specs.declared.ends.SideName.TheVariants.{Left, Right}
use Rattle.tpal_machine.specs.Belonging.{RunsOn, IsStepOf, IsJoinedOf}
use Rattle.tpal_machine.specs.Cut.{Forked}
use Rattle.tpal_machine.specs.Effect.{answered}
use Rattle.tpal_machine.specs.Merge as merging
use Rattle.tpal_machine.specs.Merge.{Joined}
use Rattle.tpal_machine.specs.Owes.{Bound, IsAnswer, IsOtherRecord}
use Rattle.tpal_machine.specs.Owes as owes
use Rattle.tpal_machine.specs.State.{State}
use Rattle.tpal_machine.specs.Step.{Step, Goes, Beats, Ends, Asks, Forks, Stuck, Strays, step}
use Rattle.tpal_machine.specs.Within.{Owing, JoinedOwes, ForkOwes, NextOwes, OwesWithin}
use Rattle.tpal_machine.specs.Within.{OwesInSteps}
use Rattle.tpal_machine.proofs.Belonging.{step_of}
use Rattle.tpal_machine.proofs.Given.{answered_of, joined_of_code}

-- ---- what is owed in one way is owed in another

-- one way to owe is another as well
abbrev Each : Owing → Owing → Type 0
Each first second = (due : Bool) (state : State) (e : Ending) → first due state e → second due state e

joined_each : (first second : Owing) (e : Ending) (both : Joined) → Each first second → JoinedOwes first e both → JoinedOwes second e both
joined_each first second e (merging.Goes joined) each owing = each false joined e owing
joined_each first second e (merging.Ends other) each owing = owing

next_each : (code : Listing) (heartbeat : ℕ) (first second : Owing) (due : Bool) (state : State) (e : Ending) (one : Step) → Each first second → NextOwes code heartbeat first due state e one → NextOwes code heartbeat second due state e one
next_each code heartbeat first second due state e (Ends other) each owing = owing
next_each code heartbeat first second due state e (Goes after) each owing = each due after e owing
next_each code heartbeat first second due state e (Beats diverted) each owing =
    (owing.0, record { after = owing.1.after; goes = owing.1.goes; after_owes = each false owing.1.after e owing.1.after_owes; diverted_owes = each true diverted e owing.1.diverted_owes })
next_each code heartbeat first second due state e (Asks waits) each owing = (owing.0, λ rec fits. each false (answered rec waits) e (owing.1 rec fits))
next_each code heartbeat first second due state e (Forks parts) each owing = (
  owing.0,
  record {
    left = owing.1.left;
    right = owing.1.right;
    both = owing.1.both;
    left_owes = each false parts.left _ owing.1.left_owes;
    child_owes = each false parts.child _ owing.1.child_owes;
    merged = owing.1.merged;
    joined_owes = joined_each first second e owing.1.both each owing.1.joined_owes;
  },
)
next_each code heartbeat first second due state e (Stuck f) each owing = owing
next_each code heartbeat first second due state e Strays each owing = owing

module _ (code : Listing) (heartbeat : ℕ) where
  abbrev Within : ℕ → Owing
  Within n due state e = OwesWithin code heartbeat n due state e

  -- within more steps too
  within_more : (n m : ℕ) (due : Bool) (state : State) (e : Ending) → n ≤ m → Within n due state e → Within m due state e
  within_more zero m due state e few owing = absurd owing
  within_more (suc n) zero due state e few owing = absurd (omega (arith, few))
  within_more (suc n) (suc m) due state e few owing =
      (owing.0, next_each code heartbeat (Within n) (Within m) due state e (step code heartbeat true state) (λ d s f is. within_more n m d s f (omega (arith, few)) is) owing.1)

  -- ---- from steps to what is owed

  -- a task that owes within a number of steps can be run
  pub runs_within : (n : ℕ) (due : Bool) (state : State) (e : Ending) → Within n due state e → RunsOn code state
  runs_within zero due state e owing = absurd owing
  runs_within (suc n) due state e owing = owing.0

  joined_bound : (parts : Forked) (state : State) (e : Ending) (both : Joined) (owing : ForkOwes code (λ due s f. Bound code heartbeat due 0 s f) parts e) → owing.both ≡ both → JoinedOwes (λ due s f. Bound code heartbeat due 0 s f) e both → step code heartbeat true state ≡ Forks parts → Bound code heartbeat false 0 state e
  joined_bound parts state e (merging.Goes joined) owing same after is =
      owes.forks_on state parts owing.left owing.right joined e is owing.left_owes owing.child_owes (subst (λ b. merging.MergeOf code parts.rest owing.left owing.right b) same owing.merged) after
  joined_bound parts state e (merging.Ends other) owing same after is =
      owes.forks state parts owing.left owing.right e is owing.left_owes owing.child_owes (subst (λ b. merging.MergeOf code parts.rest owing.left owing.right b) (same ∙ ap merging.Ends after) owing.merged)

  next_bound : (due : Bool) (state : State) (e : Ending) (one : Step) → step code heartbeat true state ≡ one → NextOwes code heartbeat (λ d s f. Bound code heartbeat d 0 s f) due state e one → Bound code heartbeat due 0 state e
  next_bound due state e (Ends other) is owing = subst (λ d. Bound code heartbeat d 0 state e) (sym owing.0) (owes.ends state e (is ∙ ap Ends owing.1))
  next_bound due state e (Goes after) is owing = owes.goes due 0 0 state after e (omega arith) is owing
  next_bound due state e (Beats diverted) is owing =
      subst (λ d. Bound code heartbeat d 0 state e) (sym owing.0) (owes.beats 0 0 state owing.1.after diverted e (omega arith) owing.1.goes is owing.1.after_owes owing.1.diverted_owes)
  next_bound due state e (Asks waits) is owing = subst (λ d. Bound code heartbeat d 0 state e) (sym owing.0) (owes.asks state waits e is owing.1)
  next_bound due state e (Forks parts) is owing =
      subst (λ d. Bound code heartbeat d 0 state e) (sym owing.0) (joined_bound parts state e owing.1.both owing.1 refl owing.1.joined_owes is)
  next_bound due state e (Stuck f) is owing = absurd owing
  next_bound due state e Strays is owing = absurd owing

  -- what is owed within a number of steps is owed
  pub bound_of_within : (n : ℕ) (due : Bool) (state : State) (e : Ending) → Within n due state e → Bound code heartbeat due 0 state e
  bound_of_within zero due state e owing = absurd owing
  bound_of_within (suc n) due state e owing =
      next_bound due state e (step code heartbeat true state) refl (next_each code heartbeat (Within n) (λ d s f. Bound code heartbeat d 0 s f) due state e (step code heartbeat true state) (λ d s f is. bound_of_within n d s f is) owing.1)

  -- ---- from what is owed to steps

  is_fitting : (g : Goal) (k : ℕ) → IsOtherRecord g k ⊎ (IsOtherRecord g k → ⊥)
  is_fitting goal.Root k = ⊎_elim (λ (small : k < 2 ^ 32). inl small) (λ (large : 2 ^ 32 ≤ k). inr (λ fits. omega (arith, large, fits))) (cases_lt k (2 ^ 32))
  is_fitting (goal.At rec side target) k =
      ⊎_elim
      (λ (small : k < 2 ^ 32). ⊎_elim (λ (same : k ≡ rec). inr (λ fits. absurd (fits.1 same))) (λ (other : k ≡ rec → ⊥). inl (small, other)) (cases_eq k rec))
      (λ (large : 2 ^ 32 ≤ k). inr (λ fits. let small : k < 2 ^ 32 = fits.0 in omega (arith, large, small)))
      (cases_lt k (2 ^ 32))

  is_record : (g : Goal) (k : ℕ) → IsOtherRecord g k → k < 2 ^ 32
  is_record goal.Root k fits = fits
  is_record (goal.At rec side target) k fits = fits.0

  -- a number of steps for an answer, also where no task is given it
  for_record : (waits : State) (e : Ending) (k : ℕ) → (IsOtherRecord waits.goal k → OwesInSteps code heartbeat false (answered (Some k) waits) e) → (n : ℕ) × (IsOtherRecord waits.goal k → Within n false (answered (Some k) waits) e)
  for_record waits e k each =
      ⊎_elim
      (λ (fits : IsOtherRecord waits.goal k). ((each fits).steps, λ _. (each fits).owes))
      (λ (none : IsOtherRecord waits.goal k → ⊥). (0, λ fits. absurd (none fits)))
      (is_fitting waits.goal k)

  -- one number of steps for the first so many records, where each has one
  for_records : (waits : State) (e : Ending) (records : ℕ) → ((k : ℕ) → (n : ℕ) × (IsOtherRecord waits.goal k → Within n false (answered (Some k) waits) e)) → (n : ℕ) × ((k : ℕ) → k < records → IsOtherRecord waits.goal k → Within n false (answered (Some k) waits) e)
  for_records waits e zero each = (0, λ k below fits. absurd (omega (arith, below)))
  for_records waits e (suc records) each =
      let a = for_records waits e records each in
      let b = each records in (
        a.0 + b.0,
        λ k below fits. ⊎_elim
            (λ (same : k ≡ records). within_more b.0 (a.0 + b.0) false (answered (Some k) waits) e (omega arith) (subst (λ j. IsOtherRecord waits.goal j → Within b.0 false (answered (Some j) waits) e) (sym same) b.1 fits))
            (λ (other : k ≡ records → ⊥). within_more a.0 (a.0 + b.0) false (answered (Some k) waits) e (omega arith) (a.1 k (omega (arith, below, other)) fits))
            (cases_eq k records),
      )

  -- one number of steps for every answer
  for_answers : (waits : State) (e : Ending) → ((rec : Option ℕ) → IsAnswer waits.goal rec → OwesInSteps code heartbeat false (answered rec waits) e) → (n : ℕ) × ((rec : Option ℕ) → IsAnswer waits.goal rec → Within n false (answered rec waits) e)
  for_answers waits e each =
      let a = each None tt in
      let b = for_records waits e (2 ^ 32) (λ k. for_record waits e k (each (Some k))) in
      let n = a.steps + b.0 in
      let answers : (rec : Option ℕ) → IsAnswer waits.goal rec → Within n false (answered rec waits) e = by_answer n (within_more a.steps n false (answered None waits) e (omega arith) a.owes) (λ k fits. within_more b.0 n false (answered (Some k) waits) e (omega arith) (b.1 k (is_record waits.goal k fits) fits)) in
      (n, answers)
    where
      by_answer : (n : ℕ) → Within n false (answered None waits) e → ((k : ℕ) → IsOtherRecord waits.goal k → Within n false (answered (Some k) waits) e) → (rec : Option ℕ) → IsAnswer waits.goal rec → Within n false (answered rec waits) e
      by_answer n first others None fits = first
      by_answer n first others (Some k) fits = others k fits

  -- one step more
  step_more : (n : ℕ) (due : Bool) (state : State) (e : Ending) (one : Step) → RunsOn code state → step code heartbeat true state ≡ one → NextOwes code heartbeat (Within n) due state e one → OwesInSteps code heartbeat due state e
  step_more n due state e one runs is owing = record { steps = suc n; owes = (runs, subst (NextOwes code heartbeat (Within n) due state e) (sym is) owing) }

  -- what a step gives can be run
  gives : (allowed : Bool) (state : State) (one : Step) → IsCode code.tables code.blocks → RunsOn code state → step code heartbeat allowed state ≡ one → IsStepOf code one
  gives allowed state one right runs is = subst (IsStepOf code) is (step_of code heartbeat allowed state right runs)

  -- what is owed is owed within some number of steps
  pub within_of_bound : IsCode code.tables code.blocks → (due : Bool) (n : ℕ) (state : State) (e : Ending) → RunsOn code state → Bound code heartbeat due n state e → OwesInSteps code heartbeat due state e
  within_of_bound right false n state e runs (owes.ends _ _ is) = step_more 0 false state e (Ends e) runs is (refl, refl)
  within_of_bound right due n state e runs (owes.goes _ _ m _ after _ few is bound) =
      let a = within_of_bound right due m after e (gives true state (Goes after) right runs is) bound in
      step_more a.steps due state e (Goes after) runs is a.owes
  within_of_bound right false n state e runs (owes.beats _ m _ after diverted _ few calmly is bound other) =
      let a = within_of_bound right false m after e (gives false state (Goes after) right runs calmly) bound in
      let b = within_of_bound right true 0 diverted e (gives true state (Beats diverted) right runs is) other in
      let both = a.steps + b.steps in
      step_more both false state e (Beats diverted) runs is (
        refl,
        record {
          after = after;
          goes = calmly;
          after_owes = within_more a.steps both false after e (omega arith) a.owes;
          diverted_owes = within_more b.steps both true diverted e (omega arith) b.owes;
        },
      )
  within_of_bound right true n state e runs (owes.asks _ waits _ is bound) =
      let waiting = gives true state (Asks waits) right runs is in
      let a = for_answers waits e (λ rec fits. within_of_bound right false 0 (answered rec waits) e (answered_of code waits rec waiting) (bound rec fits)) in
      step_more a.0 true state e (Asks waits) runs is (refl, a.1)
  within_of_bound right false n state e runs (owes.forks _ parts p q _ is left child merged) =
      let apart = gives true state (Forks parts) right runs is in
      let a = within_of_bound right false 0 parts.left (ending.At parts.rec Left p) apart.left left in
      let b = within_of_bound right false 0 parts.child (ending.At parts.rec Right q) apart.child child in
      let both = a.steps + b.steps in
      step_more both false state e (Forks parts) runs is (
        refl,
        record {
          left = p;
          right = q;
          both = merging.Ends e;
          left_owes = within_more a.steps both false parts.left _ (omega arith) a.owes;
          child_owes = within_more b.steps both false parts.child _ (omega arith) b.owes;
          merged = merged;
          joined_owes = refl;
        },
      )
  within_of_bound right false n state e runs (owes.forks_on _ parts p q joined _ is left child merged bound) =
      let apart = gives true state (Forks parts) right runs is in
      let a = within_of_bound right false 0 parts.left (ending.At parts.rec Left p) apart.left left in
      let b = within_of_bound right false 0 parts.child (ending.At parts.rec Right q) apart.child child in
      let goes_on : RunsOn code joined = subst (IsJoinedOf code) merged.gives (joined_of_code code parts.rest p q right merged.rest_belongs merged.left_belongs merged.right_belongs) in
      let c = within_of_bound right false 0 joined e goes_on bound in
      let all = a.steps + b.steps + c.steps in
      step_more all false state e (Forks parts) runs is (
        refl,
        record {
          left = p;
          right = q;
          both = merging.Goes joined;
          left_owes = within_more a.steps all false parts.left _ (omega arith) a.owes;
          child_owes = within_more b.steps all false parts.child _ (omega arith) b.owes;
          merged = merged;
          joined_owes = within_more c.steps all false joined e (omega arith) c.owes;
        },
      )
