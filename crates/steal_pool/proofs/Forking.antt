-- What a worker has once its task has got its answer, and once it has opened its record.
use Rattle.std.proofs.Common.{◌≡◌, ◌≢◌, ◌⊎◌, ℕ, ◌+◌, ◌*◌, ◌-◌, ◌^◌, ◌<◌, ◌≤◌, Bool, false, List, []}
use Rattle.std.proofs.Common.{◌∷◌, Option, None, Some, cond, refl, sym, ap, ◌∙◌, subst, inl, inr}
use Rattle.std.proofs.Common.{arith, eq-eqb}
use Rattle.tpal_machine.specs.declared.ends.End.{End}
use Rattle.tpal_machine.specs.declared.ends.End.TheVariants as «end»
use Rattle.tpal_machine.specs.declared.ends.Ending.{Ending}
use Rattle.tpal_machine.specs.declared.ends.Goal.{Goal}
use Rattle.tpal_machine.specs.declared.ends.Goal.TheVariants as goal
use Rattle.tpal_machine.specs.declared.ends.SideName.{SideName}
use Rattle.tpal_machine.specs.declared.ends.SideName.TheVariants.{Left, Right}
use Rattle.tpal_machine.specs.Cut.{Forked}
use Rattle.tpal_machine.specs.Effect.{answered}
use Rattle.tpal_machine.specs.Keeping.{credit, number_of, AnsweredFrom}
use Rattle.tpal_machine.specs.Owes.{IsAnswer}
use Rattle.tpal_machine.specs.RestState.{end_of}
use Rattle.tpal_machine.specs.State.{State}
use Rattle.tpal_machine.proofs.Keeping.{answer_keeps}
use Rattle.join_records.specs.declared.table.Taken.{Taken}
use Rattle.join_records.specs.declared.views.Grip.{Grip}
use Rattle.join_records.specs.declared.views.Grip.TheVariants.{Reserved}
use Rattle.join_records.specs.declared.views.CallState.TheVariants.{Steady}
use Rattle.join_records.specs.Answers.{FoundFree, HoldsNoSide}
use Rattle.join_records.specs.Ends.{code_of}
use Rattle.join_records.specs.Passes.{taken_number}
use Rattle.join_records.specs.Views.{drop_record, find, Holds, holds_end, opened_view, read}
use Rattle.steal_pool.specs.declared.desk.Counts.{Counts}
use Rattle.steal_pool.specs.Facts.{HasEnd, Owed}
use Rattle.steal_pool.specs.Has.{Knows, number_in, count_in, Asks, Forks, IsHeld, HasHand}
use Rattle.steal_pool.specs.Has.{HasCounts, Paid, Runs, Stays}
use Rattle.steal_pool.specs.Terms.{Terms}

-- something isn't nothing
some_none : {A : Type 0} {x : A} → Some x ≡ None → ⊥
some_none e = cc

-- a record whose ends aren't held isn't that of the end that is
not_mine : (v : Knows) (k : ℕ) (g : Goal) (e : Ending) → k < 2 ^ 32 → HoldsNoSide v k → Holds v (end_of g) e → IsAnswer g (Some k)
not_mine v k goal.Root e small apart holds = small
not_mine v k (goal.At rec side target) e small apart holds = (small, other side apart holds)
  where
    held_here : (c : ℕ) (end : End) → code_of end ≡ c → find (holds_end end e Steady) c ≡ Some (e, Steady)
    held_here c end is = ap (λ (b : Bool). cond b (Some (e, Steady)) None) (eq-eqb (code_of end) c is)

    other : (side : SideName) → HoldsNoSide v k → Holds v («end».At rec side) e → k ≢ rec
    other Left apart holds is = let z : Some (e, Steady) ≡ None = sym (held_here (1 + 2 * k) («end».At rec Left) (omega arith)) ∙ (ap (λ l. find l (1 + 2 * k)) (sym holds) ∙ apart.0) in some_none z
    other Right apart holds is = let z : Some (e, Steady) ≡ None = sym (held_here (2 + 2 * k) («end».At rec Right) (omega arith)) ∙ (ap (λ l. find l (2 + 2 * k)) (sym holds) ∙ apart.1) in some_none z

module _ (terms : Terms) where
  -- counts that stay, of a view with the same opens
  pub counts_stay : (v w : Knows) (taken : Option Taken) (c : Counts) (due saved more : ℕ) → HasCounts terms v taken c due saved → w.opens ≡ v.opens → more ≡ saved → HasCounts terms w taken c due more
  counts_stay v w taken c due saved more has opens same = record {
    beats = let b = has.beats in omega arith;
    few = has.few;
    paid = subst (λ (x : ℕ × ℕ). Paid terms x.0 x.1 c.instructions) (λ i. (sym opens i, sym same i)) has.paid;
  }

  -- an end that stays held
  pub held_stays : (v w : Knows) (g h : Goal) (e : Ending) → IsHeld terms v (end_of g) e → w.ends ≡ v.ends → h ≡ g → IsHeld terms w (end_of h) e
  held_stays v w g h e held ends same = subst (λ x. IsHeld terms w (end_of x) e) (sym same) record { holds = ends ∙ held.holds; within = held.within }

  -- a task that was given the record that was found runs, and the worker has that record in hand
  pub asked_found : (v w : Knows) (taken : Option Taken) (c : Counts) (waits : State) (k : Taken) → Asks terms v taken c waits → FoundFree v (taken_number k) w → HoldsNoSide v (taken_number k) → taken_number k < terms.records → taken_number k < 2 ^ 32
      → Runs terms w (Some k) c (answered (Some (taken_number k)) waits) × Stays v w
  asked_found v w taken c waits k a (rs, is) apart below small = let n : ℕ = taken_number k in let kept : AnsweredFrom (Some n) waits (answered (Some n) waits) = answer_keeps (Some n) waits a.waiting a.pending in let opens : w.opens ≡ v.opens = ap (λ (u : Knows). u.opens) is in (
    record {
      ending = a.ending;
      due = false;
      owes = a.owes (Some n) (not_mine v n waits.goal a.ending small apart a.held.holds);
      held = held_stays v w waits.goal (answered (Some n) waits).goal a.ending a.held (ap (λ (u : Knows). u.ends) is) kept.goal;
      pending = kept.pending;
      hand = (ap (λ (u : Knows). u.hand) is ∙ ap (λ (h : List (ℕ × Grip)). (n, Reserved) ∷ h) a.hand, below);
      made = ap (λ (u : Knows). u.made) is ∙ a.made;
      counts_fit = counts_stay v w (Some k) c 0 (credit terms.heartbeat waits.beat) (credit terms.heartbeat (answered (Some n) waits).beat)
          record { beats = let b = a.counts_fit.beats in omega arith; few = a.counts_fit.few; paid = a.counts_fit.paid } opens (ap (credit terms.heartbeat) kept.beat);
    },
    (ap (λ (u : Knows). u.root) is, ap (λ (u : Knows). u.parts) is),
  )

  -- ---- a fork opens the record that was taken

  -- the record of a fork is the one that was taken
  pub is_taken : (v : Knows) (taken : Option Taken) (c : Counts) (parts : Forked) (k : Taken) → Forks terms v taken c parts → taken ≡ Some k → (parts.rec ≡ taken_number k) × (v.hand ≡ (taken_number k, Reserved) ∷ []) × (taken_number k < terms.records)
  is_taken v taken c parts k f is = let hand : HasHand terms v (Some k) = subst (HasHand terms v) is f.hand in ((let z : Some (taken_number k) ≡ Some parts.rec = ap number_in (sym is) ∙ f.record_is in cc), hand.0, hand.1)

  -- the left side of a fork ends at the left end of the record that was taken
  pub left_end : (v : Knows) (taken : Option Taken) (c : Counts) (parts : Forked) (k : Taken) → Forks terms v taken c parts → taken ≡ Some k → HasEnd terms.heartbeat parts.left («end».At (taken_number k) Left)
  left_end v taken c parts k f is = f.from.left_end ∙ ap (λ (n : ℕ). «end».At n Left) (is_taken v taken c parts k f is).0

  -- a hand of one record is empty once that one is dropped
  dropped_here : (k : ℕ) → drop_record k ((k, Reserved) ∷ []) ≡ []
  dropped_here k = ap (λ (b : Bool). cond b [] ((k, Reserved) ∷ [])) (eq-eqb k k refl)

  -- once the record is open the left side runs, at its left end
  pub opened : (v w : Knows) (taken : Option Taken) (c : Counts) (parts : Forked) (k : Taken) (e : Ending) (x : ℕ) → Forks terms v taken c parts → taken ≡ Some k → Owed terms.code terms.heartbeat parts.left e
      → w ≡ opened_view (read v (taken_number k + 1) x) (taken_number k) e → Runs terms w None c parts.left × Stays v w
  opened v w taken c parts k e x f is owes seen = let mine = is_taken v taken c parts k f is in let opens : w.opens ≡ v.opens + 1 = ap (λ (u : Knows). u.opens) seen in (
    record {
      ending = e;
      due = false;
      owes = owes;
      held = subst (λ (end : End). IsHeld terms w end e) (sym (left_end v taken c parts k f is)) record { holds = ap (λ (u : Knows). u.ends) seen; within = mine.2 };
      pending = ap number_of f.from.left_pending;
      hand = ap (λ (u : Knows). u.hand) seen ∙ (ap (drop_record (taken_number k)) mine.1 ∙ dropped_here (taken_number k));
      made = ap (λ (u : Knows). u.made) seen ∙ f.made;
      counts_fit = record {
        beats = let b : v.opens + 1 + c.skipped + 0 ≡ c.beats = subst (λ (t : Option Taken). v.opens + count_in t + c.skipped + 0 ≡ c.beats) is f.counts_fit.beats in omega arith;
        few = f.counts_fit.few;
        paid = subst (λ (n : ℕ). Paid terms n (credit terms.heartbeat parts.left.beat) c.instructions) (sym opens) (one_more v.opens terms.heartbeat (credit terms.heartbeat parts.left.beat) c.instructions f.counts_fit.paid);
      };
    },
    (ap (λ (u : Knows). u.root) seen, ap (λ (u : Knows). u.parts) seen),
  )
    where
      one_more : (n h s i : ℕ) → (n * h + (h + s) ≤ i) ⊎ (2 ^ 64 - 1 ≤ i) → ((n + 1) * h + s ≤ i) ⊎ (2 ^ 64 - 1 ≤ i)
      one_more n h s i (inl a) = inl (let z : (n + 1) * h + s ≡ n * h + (h + s) = grind arith in subst (λ (y : ℕ). y ≤ i) (sym z) a)
      one_more n h s i (inr a) = inr a
