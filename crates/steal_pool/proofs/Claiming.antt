-- What a worker has once a task of its own begins, or it has seen the finish made.
use Rattle.std.proofs.Common.{◌≡◌, ℕ, Bool, true, false, ◌&&◌, ◌||◌, ◌==◌, eqb, List, [], ◌∷◌, ◌++◌}
use Rattle.std.proofs.Common.{Option, None, refl, sym, ap, ◌∙◌, subst, arith}
use Rattle.std.proofs.lemmas.Bool.Decides.{nat_tests}
use Rattle.tpal_machine.specs.declared.ends.End.{End}
use Rattle.tpal_machine.specs.declared.ends.Ending.{Ending}
use Rattle.tpal_machine.specs.Keeping.{credit, number_of}
use Rattle.tpal_machine.specs.RestState.{end_of}
use Rattle.tpal_machine.specs.State.{State}
use Rattle.join_records.specs.declared.table.Taken.{Taken}
use Rattle.join_records.specs.Views.{read, saw_finish}
use Rattle.steal_pool.specs.declared.desk.Counts.{Counts}
use Rattle.steal_pool.specs.Facts.{Owed}
use Rattle.steal_pool.specs.Has.{Knows, number_in, HasCounts, HasNothing, HasSeen, HasHand, IsHeld}
use Rattle.steal_pool.specs.Has.{Rests, Runs}
use Rattle.steal_pool.specs.Terms.{Terms}
use Rattle.steal_pool.proofs.Forking.{counts_stay}

module _ (terms : Terms) where
  -- a view with the same hand and opens rests as before
  pub rests_stay : (v w : Knows) (taken : Option Taken) (c : Counts) → Rests terms v taken c → w.hand ≡ v.hand → w.opens ≡ v.opens → Rests terms w taken c
  rests_stay v w taken c r hand opens = record { none = r.none; hand = hand ∙ r.hand; counts_fit = counts_stay terms v w None c 0 0 0 r.counts_fit opens refl }

  -- a task that begins, at an end that is held, runs
  pub begins : (v : Knows) (taken : Option Taken) (c : Counts) (task : State) (end : End) (e : Ending) → Rests terms v taken c → v.made ≡ 0 → IsHeld terms v end e → Owed terms.code terms.heartbeat task e → end_of task.goal ≡ end → task.pending ≡ None → credit terms.heartbeat task.beat ≡ 0
      → Runs terms v taken c task
  begins v taken c task end e r made held owes place none fresh = record {
    ending = e;
    due = false;
    owes = owes;
    held = subst (λ (x : End). IsHeld terms v x e) (sym place) held;
    pending = ap number_of none ∙ ap number_in (sym r.none);
    hand = subst (HasHand terms v) (sym r.none) r.hand;
    made = made;
    counts_fit = subst (λ (t : Option Taken). HasCounts terms v t c 0 (credit terms.heartbeat task.beat)) (sym r.none) (counts_stay terms v v None c 0 0 (credit terms.heartbeat task.beat) r.counts_fit refl fresh);
  }

  -- ---- the finish

  -- a word that passes the test of 1 is 1
  one_is : (x : ℕ) → (x == 1) ≡ true → x ≡ 1
  one_is x e = grind (arith, nat_tests)

  -- a list of reads that ends with the finish word as 1 has seen it
  saw_one : (l : List (ℕ × ℕ)) → saw_finish (l ++ (0, 1) ∷ []) ≡ true
  saw_one [] = refl
  saw_one (y ∷ ys) = ap (λ (b : Bool). (eqb y.0 0 && eqb y.1 1) || b) (saw_one ys) ∙ or_true (eqb y.0 0 && eqb y.1 1)
    where
      or_true : (b : Bool) → (b || true) ≡ true
      or_true false = refl
      or_true true = refl

  -- a worker with nothing that has read the finish word as 1 has seen it made
  pub seen : (v w : Knows) (taken : Option Taken) (c : Counts) (x : ℕ) → HasNothing terms v taken c → w ≡ read v 0 x → (x == 1) ≡ true → HasSeen terms w taken c
  seen v w taken c x n is one = record {
    rests = rests_stay v w taken c n.rests (ap (λ (u : Knows). u.hand) is) (ap (λ (u : Knows). u.opens) is);
    made = ap (λ (u : Knows). u.made) is ∙ n.made;
    saw = ap (λ (u : Knows). saw_finish u.reads) is ∙ (ap (λ (z : ℕ). saw_finish (v.reads ++ (0, z) ∷ [])) (one_is x one) ∙ saw_one v.reads);
  }
