-- What a worker has once a side has arrived and was merged, and once it has made the finish.
use Rattle.std.proofs.Common.{◌≡◌, ℕ, ◌+◌, Bool, List, [], ◌∷◌, Option, cond, sym, ap, ◌∙◌, subst}
use Rattle.std.proofs.Common.{eq-eqb}
use Rattle.std.specs.Prelude.{Result, Ok, Err, IfOk, MatchResult}
use Rattle.tp_value.specs.declared.values.NoMemory.{NoMemory}
use Rattle.tpal_syntax.specs.Listing.{Listing}
use Rattle.tpal_machine.specs.declared.ends.End.{End}
use Rattle.tpal_machine.specs.declared.ends.End.TheVariants as «end»
use Rattle.tpal_machine.specs.declared.ends.Ending.{Ending}
use Rattle.tpal_machine.specs.declared.ends.Ending.TheVariants as ending
use Rattle.tpal_machine.specs.declared.ends.Side.{Side}
use Rattle.tpal_machine.specs.declared.ends.SideName.{SideName}
use Rattle.tpal_machine.specs.declared.ends.SideName.TheVariants.{Left, Right}
use Rattle.tpal_machine.specs.declared.joining.Merged.{Merged}
use Rattle.tpal_machine.specs.declared.joining.Merged.TheVariants as merged
use Rattle.tpal_machine.specs.Answer.{IsMerged}
use Rattle.tpal_machine.specs.Keeping.{place_of, JoinedFrom, JoinedKeeps}
use Rattle.tpal_machine.specs.Merge.{Joined, MergeOf, joined}
use Rattle.tpal_machine.specs.Owed.{owing}
use Rattle.tpal_machine.specs.RestState.{RestState, end_of}
use Rattle.tpal_machine.specs.Within.{JoinedOwes}
use Rattle.tpal_machine.proofs.Keeping.{merge_keeps}
use Rattle.join_records.specs.declared.table.Taken.{Taken}
use Rattle.join_records.specs.declared.views.Grip.{Grip}
use Rattle.join_records.specs.declared.views.Grip.TheVariants.{Emptied}
use Rattle.join_records.specs.Answers.{met_view, other, own}
use Rattle.join_records.specs.Ends.{IsEndOf}
use Rattle.join_records.specs.Steps.{other_side, owes_by}
use Rattle.join_records.specs.Views.{drop_record, read, with_hand}
use Rattle.steal_pool.specs.declared.desk.Counts.{Counts}
use Rattle.steal_pool.specs.declared.desk.Work.{Work}
use Rattle.steal_pool.specs.declared.desk.Work.TheVariants as work
use Rattle.steal_pool.specs.Facts.{IsEnding, RestOwes}
use Rattle.steal_pool.specs.Has.{Knows, Has, HasEnded, IsHeld, Rests, Stays, work_after}
use Rattle.steal_pool.specs.Terms.{Terms}
use Rattle.steal_pool.proofs.Claiming.{begins, rests_stay}

-- what a rest and its two sides merge to, and what is owed there
pub record Merges (code : Listing) (heartbeat : ℕ) (rest : RestState) (left right : Side) (u : Ending) : Type 0 where
  pub both : Joined
  pub merged : MergeOf code rest left right both
  pub owed : JoinedOwes (owing code heartbeat) u both

-- endings of sides that are the same have the same outcome
same_side : {k m : ℕ} {s t : SideName} {a b : Side} → ending.At k s a ≡ ending.At m t b → a ≡ b
same_side e = cc

-- a rest and the endings of its record's two sides, as the sides themselves
two_sides : (code : Listing) (heartbeat : ℕ) (rest : RestState) (l r : Side) (p q u : Ending) (o : RestOwes code heartbeat rest p q u) → o.left ≡ l → o.right ≡ r → Merges code heartbeat rest l r u
two_sides code heartbeat rest l r p q u o is is' = record {
  both = o.both;
  merged = subst (λ (x : Side × Side). MergeOf code rest x.0 x.1 o.both) (λ i. (is i, is' i)) o.merged;
  owed = o.owed;
}

-- the side that arrives and the one that waited merge as the rest owes, whichever is the left
pub sides_merge : (code : Listing) (heartbeat k : ℕ) (side : SideName) (rest : RestState) (e q u : Ending) (out l r : Side) → owes_by (RestOwes code heartbeat) side rest e q u → e ≡ ending.At k side out → IsEnding (other side l r) («end».At k (other_side side)) q → own side l r ≡ out
    → Merges code heartbeat rest l r u
sides_merge code heartbeat k Left rest e q u out l r o mine its same = two_sides code heartbeat rest l r e q u o (sym (same ∙ same_side (sym mine ∙ o.left_is))) (sym (same_side (sym its ∙ o.right_is)))
sides_merge code heartbeat k Right rest e q u out l r o mine its same = two_sides code heartbeat rest l r q e u o (sym (same_side (sym its ∙ o.left_is))) (sym (same ∙ same_side (sym mine ∙ o.right_is)))

module _ (terms : Terms) where
  -- an ending at the end that is held has yet to arrive
  ends_there : (v : Knows) (taken : Option Taken) (c : Counts) (end : End) (u e : Ending) → Rests terms v taken c → v.made ≡ 0 → IsHeld terms v end u → place_of e ≡ end → e ≡ u → HasEnded terms v taken c e
  ends_there v taken c end u e r made held place is = record { rests = r; made = made; held = subst (λ (x : End × Ending). IsHeld terms v x.0 x.1) (λ i. (sym place i, sym is i)) held }

  -- what two sides merged to runs, or has yet to arrive
  pub merged_fits : (v : Knows) (taken : Option Taken) (c : Counts) (rest : RestState) (l r : Side) (u : Ending) (m : Merged) → Rests terms v taken c → v.made ≡ 0 → IsHeld terms v (end_of rest.goal) u → Merges terms.code terms.heartbeat rest l r u → IsMerged (joined terms.code rest l r) m
      → Has terms v taken c (work_after m)
  merged_fits v taken c rest l r u (merged.Runs task) rests made held both is =
      let kept : JoinedFrom rest task = subst (JoinedKeeps rest) is (merge_keeps terms.code rest l r) in
      begins terms v taken c task (end_of rest.goal) u rests made held (subst (JoinedOwes (owing terms.code terms.heartbeat) u) (sym both.merged.gives ∙ is) both.owed) (ap end_of kept.goal) kept.pending (kept.credit terms.heartbeat)
  merged_fits v taken c rest l r u (merged.Arrived rec side out) rests made held both is =
      ends_there v taken c (end_of rest.goal) u (ending.At rec side out) rests made held (subst (JoinedKeeps rest) is (merge_keeps terms.code rest l r)) (subst (JoinedOwes (owing terms.code terms.heartbeat) u) (sym both.merged.gives ∙ is) both.owed)
  merged_fits v taken c rest l r u (merged.Halted outcome) rests made held both is =
      ends_there v taken c (end_of rest.goal) u (ending.Root outcome) rests made held (subst (JoinedKeeps rest) is (merge_keeps terms.code rest l r)) (subst (JoinedOwes (owing terms.code terms.heartbeat) u) (sym both.merged.gives ∙ is) both.owed)

  -- the same, where memory may have been wanting for the merge
  pub after_merge : (v : Knows) (taken : Option Taken) (c : Counts) (rest : RestState) (l r : Side) (u : Ending) (o : Result Merged NoMemory) (w : Work) → Rests terms v taken c → v.made ≡ 0 → IsHeld terms v (end_of rest.goal) u → Merges terms.code terms.heartbeat rest l r u → IfOk o (IsMerged (joined terms.code rest l r))
      → MatchResult o (λ m. w ≡ work_after m) (λ _. w ≡ work.Lost) → Has terms v taken c w
  after_merge v taken c rest l r u (Ok m) w rests made held both is got = subst (Has terms v taken c) (sym got) (merged_fits v taken c rest l r u m rests made held both is)
  after_merge v taken c rest l r u (Err e) w rests made held both is got = subst (Has terms v taken c) (sym got) tt

  -- a record that was in hand as met alone is gone from it once it is dropped
  gone : (k n : ℕ) (up : End) (h : List (ℕ × Grip)) → n ≡ k → h ≡ [] → drop_record n ((k, Emptied up) ∷ drop_record k h) ≡ []
  gone k n up h same empty = ap (λ (q : List (ℕ × Grip)). drop_record n ((k, Emptied up) ∷ drop_record k q)) empty ∙ ap (λ (b : Bool). cond b [] ((k, Emptied up) ∷ [])) (eq-eqb k n (sym same))

  -- the second holds the end that the rest keeps, once it has freed the record
  pub freed : (v w x : Knows) (taken : Option Taken) (c : Counts) (k n a b d f : ℕ) (up : End) (e u : Ending) → HasEnded terms v taken c e → w ≡ met_view v k a b d up u → n ≡ k → IsEndOf terms.records up
      → x ≡ with_hand (read (read w (n + 1) f) (n + 1) f) (drop_record n w.hand) → Rests terms x taken c × (x.made ≡ 0) × IsHeld terms x up u × Stays v x
  freed v w x taken c k n a b d f up e u h is same within was = (
    rests_stay terms v x taken c h.rests (ap (λ (z : Knows). z.hand) was ∙ (ap (λ (z : Knows). drop_record n z.hand) is ∙ (gone k n up v.hand same h.rests.hand ∙ sym h.rests.hand))) (ap (λ (z : Knows). z.opens) was ∙ ap (λ (z : Knows). z.opens) is),
    ap (λ (z : Knows). z.made) was ∙ (ap (λ (z : Knows). z.made) is ∙ h.made),
    record { holds = ap (λ (z : Knows). z.ends) was ∙ ap (λ (z : Knows). z.ends) is; within = within },
    (ap (λ (z : Knows). z.root) was ∙ ap (λ (z : Knows). z.root) is, ap (λ (z : Knows). z.parts) was ∙ ap (λ (z : Knows). z.parts) is),
  )
