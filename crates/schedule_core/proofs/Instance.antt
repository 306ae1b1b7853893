-- The tasks of a code meet the laws of the core.
use Rattle.std.proofs.Common.{◌≡◌, ℕ, ◌<◌, ◌≤◌, ◌^◌, Some, None, refl, sym, ap, ◌∙◌, subst, arith}
use Rattle.std.specs.Prelude.{Bool, true, false, ◌≢◌}
use Rattle.tpal_syntax.specs.Conditions.{IsCode}
use Rattle.tpal_syntax.specs.Listing.{Listing}
use Rattle.tpal_machine.specs.declared.ends.Ending.{Ending}
use Rattle.tpal_machine.specs.declared.ends.Ending.TheVariants as ending
use Rattle.tpal_machine.specs.declared.ends.Goal.{Goal}
use Rattle.tpal_machine.specs.declared.ends.Goal.TheVariants as goal
use Rattle.tpal_machine.specs.declared.ends.Side.{Side}
use Rattle.tpal_machine.specs.declared.ends.SideName.TheVariants.{Left, Right}
use Rattle.tpal_machine.specs.Keeping.{number_of, credit, StepKeeps, JoinedKeeps, IsUndiverted}
use Rattle.tpal_machine.specs.Merge as merging
use Rattle.tpal_machine.specs.Merge.{Joined, joined}
use Rattle.tpal_machine.specs.Owed.{owing}
use Rattle.tpal_machine.specs.Owes.{Owes, IsOtherRecord}
use Rattle.tpal_machine.specs.RestState.{RestState, end_of}
use Rattle.tpal_machine.specs.State.{State}
use Rattle.tpal_machine.specs.Step as machine
use Rattle.tpal_machine.specs.Step.{Step, step}
use Rattle.tpal_machine.specs.Within.{JoinedOwes, NextOwes}
use Rattle.tpal_machine.proofs.Keeping.{step_keeps, answer_keeps, merge_keeps}
use Rattle.tpal_machine.proofs.Owed.{after_step}
use Rattle.tpal_machine.proofs.Undiverted.{agrees}
use Rattle.schedule_core.specs.Machine.{left, right, Merged, MergedOwes, MergeOwes, MergesWell}
use Rattle.schedule_core.specs.Machine.{TurnOwes, KeepsTurn, KeepsMerge, Lawful}
use Rattle.schedule_core.specs.Tasks.{end_number, turn_of, merged_of, MergesSides, MergesTo, tasks}

other_record : (g : Goal) (k : ℕ) → k < 2 ^ 32 → end_number (end_of g) ≢ left k → end_number (end_of g) ≢ right k → IsOtherRecord g k
other_record goal.Root k lt n1 n2 = lt
other_record (goal.At rec Left target) k lt n1 n2 = (lt, λ q. n1 (ap left (sym q)))
other_record (goal.At rec Right target) k lt n1 n2 = (lt, λ q. n2 (ap right (sym q)))

abbrev step_kind : Step → ℕ
step_kind (machine.Goes s) = 0
step_kind (machine.Beats s) = 1
step_kind (machine.Ends e) = 2
step_kind (machine.Asks s) = 3
step_kind (machine.Forks p) = 4
step_kind (machine.Stuck f) = 5
step_kind machine.Strays = 6

step_clash : (x y : Step) → x ≡ y → (step_kind x ≡ step_kind y → ⊥) → ⊥
step_clash x y is n = n (ap step_kind is)

-- a step that isn't diverted is no beat
no_beat : (x calm : Step) (d : State) → IsUndiverted x calm → calm ≡ machine.Beats d → ⊥
no_beat (machine.Goes after) calm d is q = step_clash _ _ (sym is ∙ q) (λ z. omega (arith, z))
no_beat (machine.Beats diverted) calm d is q = step_clash _ _ (sym is.1 ∙ q) (λ z. omega (arith, z))
no_beat (machine.Ends e) calm d is q = step_clash _ _ (sym is ∙ q) (λ z. omega (arith, z))
no_beat (machine.Asks waits) calm d is q = step_clash _ _ (sym is ∙ q) (λ z. omega (arith, z))
no_beat (machine.Forks parts) calm d is q = step_clash _ _ (sym is ∙ q) (λ z. omega (arith, z))
no_beat (machine.Stuck fault) calm d is q = step_clash _ _ (sym is ∙ q) (λ z. omega (arith, z))
no_beat machine.Strays calm d is q = step_clash _ _ (sym is ∙ q) (λ z. omega (arith, z))

-- ---- what a step keeps

module _ (code : Listing) (heartbeat : ℕ) where
  allowed_for : (allowed : Bool) (task diverted : State) → step code heartbeat allowed task ≡ machine.Beats diverted → allowed ≡ true
  allowed_for true task diverted q = refl
  allowed_for false task diverted q = absurd (no_beat (step code heartbeat true task) (step code heartbeat false task) diverted (agrees code heartbeat task) q)

  keeps_by : (allowed : Bool) (task : State) (x : Step) → StepKeeps heartbeat task x → step code heartbeat allowed task ≡ x → KeepsTurn (tasks code heartbeat) heartbeat allowed task (turn_of x)
  keeps_by allowed task (machine.Goes after) k q = (ap (λ g. end_number (end_of g)) k.goal, ap number_of k.pending, let c = k.credit in omega (arith, c))
  keeps_by allowed task (machine.Beats diverted) k q = (allowed_for allowed task diverted q, (ap (λ g. end_number (end_of g)) k.goal, ap number_of k.pending, let c = k.credit in omega (arith, c)))
  keeps_by allowed task (machine.Ends e) k q = (ap end_number k.place, ap number_of k.pending)
  keeps_by allowed task (machine.Asks waits) k q = (
    ap number_of k.none,
    λ o.
        let a = answer_keeps o waits k.waiting k.pending in
        (ap (λ g. end_number (end_of g)) (a.goal ∙ k.goal), a.pending, let c = k.credit in let b = ap (credit heartbeat) a.beat in omega (arith, c, b)),
  )
  keeps_by allowed task (machine.Forks parts) k q = (
    ap number_of k.pending ∙ ap Some (sym k.rec),
    ap (λ g. end_number (end_of g)) k.rest_goal,
    ap end_number k.left_end,
    ap end_number k.child_end,
    ap number_of k.left_pending,
    ap number_of k.child_pending,
    let c = k.left_credit in omega (arith, c),
    k.child_credit,
  )
  keeps_by allowed task (machine.Stuck fault) k q = tt
  keeps_by allowed task machine.Strays k q = tt

  pub keeps_at : (allowed : Bool) (task : State) → KeepsTurn (tasks code heartbeat) heartbeat allowed task (turn_of (step code heartbeat allowed task))
  keeps_at allowed task = keeps_by allowed task (step code heartbeat allowed task) (step_keeps heartbeat code allowed task) refl

  -- ---- what a merge keeps

  joined_keep : (rest : RestState) (both : Joined) → JoinedKeeps rest both → KeepsMerge (tasks code heartbeat) rest (merged_of both)
  joined_keep rest (merging.Goes after) k = (ap (λ g. end_number (end_of g)) k.goal, ap number_of k.pending, k.credit heartbeat)
  joined_keep rest (merging.Ends e) k = ap end_number k

  sides_keep : (rest : RestState) (p q : Side) (both : Merged State Ending) → MergesSides code rest p q both → KeepsMerge (tasks code heartbeat) rest both
  sides_keep rest p q both m = subst (KeepsMerge (tasks code heartbeat) rest) m.is (joined_keep rest m.joined (subst (JoinedKeeps rest) m.merge.gives (merge_keeps code rest p q)))

  pub merges_keep : (rest : RestState) (p q : Ending) (both : Merged State Ending) → MergesTo code rest p q both → KeepsMerge (tasks code heartbeat) rest both
  merges_keep rest (ending.At i Left p) (ending.At j Right q) both m = sides_keep rest p q both m
  merges_keep rest (ending.At i Left p) (ending.At j Left q) both m = absurd m
  merges_keep rest (ending.At i Right p) (ending.At j side q) both m = absurd m
  merges_keep rest (ending.At i Right p) (ending.Root outcome) both m = absurd m
  merges_keep rest (ending.At i Left p) (ending.Root outcome) both m = absurd m
  merges_keep rest (ending.Root outcome) q both m = absurd m

pub one_merge : (code : Listing) (rest : RestState) (p q : Ending) (both other : Merged State Ending) → MergesTo code rest p q both → MergesTo code rest p q other → both ≡ other
one_merge code rest (ending.At i Left p) (ending.At j Right q) both other a b = sym a.is ∙ (ap merged_of (sym a.merge.gives ∙ b.merge.gives) ∙ b.is)
one_merge code rest (ending.At i Left p) (ending.At j Left q) both other a b = absurd a
one_merge code rest (ending.At i Right p) (ending.At j side q) both other a b = absurd a
one_merge code rest (ending.At i Right p) (ending.Root outcome) both other a b = absurd a
one_merge code rest (ending.At i Left p) (ending.Root outcome) both other a b = absurd a
one_merge code rest (ending.Root outcome) q both other a b = absurd a

-- ---- what a task owes

module _ (code : Listing) (heartbeat K : ℕ) (is_code : IsCode code.tables code.blocks) (few : K ≤ 2 ^ 32) where
  joined_owed : (e : Ending) (both : Joined) → JoinedOwes (owing code heartbeat) e both → MergedOwes (tasks code heartbeat) e (merged_of both)
  joined_owed e (merging.Goes task) o = o
  joined_owed e (merging.Ends other) o = o

  -- a rest merges with the endings that its sides owe alone
  merged_owed : (e : Ending) (rest : RestState) (p q : Ending) (both : Merged State Ending) → MergesTo code rest p q both → MergedOwes (tasks code heartbeat) e both → MergeOwes (tasks code heartbeat) e rest p q
  merged_owed e rest p q both m o x y xp yq =
      subst (λ u. MergesWell (tasks code heartbeat) e rest u y) (sym xp) (subst (λ u. MergesWell (tasks code heartbeat) e rest p u) (sym yq) (record {
        both = both;
        merges = m;
        owes = λ other n. subst (MergedOwes (tasks code heartbeat) e) (one_merge code rest p q both other m n) o;
      }))

  module _ (due : Bool) (task : State) (e : Ending) where
    abbrev Owed : Step → Type 0
    Owed x = TurnOwes (tasks code heartbeat) K (end_number (end_of task.goal)) due e (turn_of x)

    owed_by : (x : Step) → NextOwes code heartbeat (owing code heartbeat) due task e x → StepKeeps heartbeat task x → (x ≡ machine.Strays → ⊥) → Owed x
    owed_by (machine.Goes after) o k n = o
    owed_by (machine.Beats diverted) o k n = (λ strict. o.0, o.1.diverted_owes)
    owed_by (machine.Ends other) o k n = (λ strict. o.0, o.1)
    owed_by (machine.Asks waits) o k n = (
      λ strict. o.0,
      o.1 None tt,
      λ j is.
          o.1 (Some j) (other_record waits.goal j (let lt = is.0 in omega (arith, lt, few))
          (λ q. is.1 (ap (λ g. end_number (end_of g)) (sym k.goal) ∙ q)) (λ q. is.2 (ap (λ g. end_number (end_of g)) (sym k.goal) ∙ q))),
    )
    owed_by (machine.Forks parts) o k n = (
      λ strict. o.0,
      record {
        p = ending.At parts.rec Left o.1.left;
        q = ending.At parts.rec Right o.1.right;
        on_owes = o.1.left_owes;
        child_owes = o.1.child_owes;
        merged = merged_owed e parts.rest (ending.At parts.rec Left o.1.left) (ending.At parts.rec Right o.1.right) (merged_of o.1.both) (record { joined = o.1.both; merge = o.1.merged; is = refl }) (joined_owed e o.1.both o.1.joined_owes);
      },
    )
    owed_by (machine.Stuck fault) o k n = o
    owed_by machine.Strays o k n = o

    calm_by : (x : Step) → NextOwes code heartbeat (owing code heartbeat) due task e x → StepKeeps heartbeat task x → IsUndiverted x (step code heartbeat false task) → Owed (step code heartbeat false task)
    calm_by (machine.Goes after) o k is = subst Owed (sym is) o
    calm_by (machine.Beats diverted) o k is = subst Owed (sym o.1.goes) (subst (λ (d : Bool). Owes code heartbeat d 0 o.1.after e) (sym o.0) o.1.after_owes)
    calm_by (machine.Ends other) o k is = subst Owed (sym is) (λ strict. o.0, o.1)
    calm_by (machine.Asks waits) o k is = subst Owed (sym is) (owed_by (machine.Asks waits) o k (λ q. step_clash _ _ q (λ z. omega (arith, z))))
    calm_by (machine.Forks parts) o k is = subst Owed (sym is) (owed_by (machine.Forks parts) o k (λ q. step_clash _ _ q (λ z. omega (arith, z))))
    calm_by (machine.Stuck fault) o k is = absurd o
    calm_by machine.Strays o k is = absurd o

    owed_at : (allowed : Bool) → Owes code heartbeat due 0 task e → Owed (step code heartbeat allowed task)
    owed_at true o = owed_by (step code heartbeat true task) (after_step code heartbeat is_code due 0 task e o) (step_keeps heartbeat code true task) (λ q. never_strays (step code heartbeat true task) (after_step code heartbeat is_code due 0 task e o) q)
      where
        never_strays : (x : Step) → NextOwes code heartbeat (owing code heartbeat) due task e x → x ≡ machine.Strays → ⊥
        never_strays x o q = subst (NextOwes code heartbeat (owing code heartbeat) due task e) q o
    owed_at false o = calm_by (step code heartbeat true task) (after_step code heartbeat is_code due 0 task e o) (step_keeps heartbeat code true task) (agrees code heartbeat task)

  pub lawful : Lawful (tasks code heartbeat) heartbeat K
  lawful = record {
    invert = λ allowed due task e o. owed_at due task e allowed o;
    keeps = λ allowed due task e o. keeps_at code heartbeat allowed task;
    merged = λ rest p q both m. merges_keep code heartbeat rest p q both m;
  }
