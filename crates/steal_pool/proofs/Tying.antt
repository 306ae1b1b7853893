-- How sources come to reach each other's deques, and how workers do.
use Rattle.std.proofs.Common.{◌≡◌, ◌≢◌, ◌⊎◌, ℕ, ◌+◌, ◌-◌, ◌<◌, ◌≤◌, List, [], ◌∷◌, ◌++◌}
use Rattle.std.proofs.Common.{length, slice_set, take, inl, inr, refl, sym, ap, ◌∙◌, subst, ⊎_elim, arith}
use mathlib.Core.Option.{some, some-injective}
use lib.ListN.{get_elem?}
use lib.Seq.{take-append_seam}
use Rattle.crossbeam_deque.specs.Handles.{stealer_deque, worker_deque}
use Rattle.atomic_table.proofs.Lists.{at_longer, at_set}
use Rattle.join_records.proofs.Calls.{last_before, last_here}
use Rattle.join_records.proofs.Functions.{at_below, at_more}
use Rattle.steal_pool.specs.declared.load.RunTerms.{Ghosts}
use Rattle.steal_pool.specs.declared.other.Other.{Other}
use Rattle.steal_pool.specs.declared.source.Source.{Source}
use Rattle.steal_pool.specs.Deques.{DequeName}
use Rattle.steal_pool.specs.Tied.{AreTied, AreTiedWorkers, Reaches, ReachesAllBut}

-- the place that comes so many after one, going round
abbrev pub IsRound : ℕ → ℕ → ℕ → ℕ → Type 0
IsRound number n k s = (k ≡ number + s) ⊎ (k + n ≡ number + s)

order : (a b : ℕ) → (a < b) ⊎ ((a ≡ b) ⊎ (b < a))
order a b = grind arith

-- places that come as many after one are the same
one_place : (number n j k s : ℕ) → j < n → k < n → IsRound number n j s → IsRound number n k s → j ≡ k
one_place number n j k s p q (inl a) (inl b) = omega arith
one_place number n j k s p q (inl a) (inr b) = absurd (omega arith)
one_place number n j k s p q (inr a) (inl b) = absurd (omega arith)
one_place number n j k s p q (inr a) (inr b) = omega arith

module _ {S : Type 0} {G : Ghosts S} where
  -- the deques of the sources that come fewer than so many after one are reached
  abbrev pub ReachesTo : ℕ → ℕ → List (Source S G) → List (Other S G) → Type 0
  ReachesTo number to sources others = (k s : ℕ) (t : Source S G) → 1 ≤ s → s < to → IsRound number (length sources) k s → get_elem? sources k ≡ some t → Reaches others (worker_deque t.owner)

  longer : (others : List (Other S G)) (o : Other S G) (d : DequeName) → Reaches others d → Reaches (others ++ o ∷ []) d
  longer others o d r = (r.0, r.1, at_longer others (o ∷ []) r.0 r.1 r.2, r.3)

  pub reach_more : (number to at : ℕ) (sources : List (Source S G)) (others more : List (Other S G)) (o : Other S G) (s : Source S G) → at < length sources → IsRound number (length sources) at to → get_elem? sources at ≡ some s → more ≡ others ++ o ∷ [] → stealer_deque o.thief ≡ worker_deque s.owner
      → ReachesTo number to sources others → ReachesTo number (to + 1) sources more
  reach_more number to at sources others more o s near round here last is before k i t steps few rounds there =
      subst (λ (l : List (Other S G)). Reaches l (worker_deque t.owner)) (sym last) (by_place (before_or i few))
    where
      before_or : (i : ℕ) → i < to + 1 → (i < to) ⊎ (i ≡ to)
      before_or i h = grind arith

      by_place : (i < to) ⊎ (i ≡ to) → Reaches (others ++ o ∷ []) (worker_deque t.owner)
      by_place (inl low) = longer others o (worker_deque t.owner) (before k i t steps low rounds there)
      by_place (inr same) =
          let one : at ≡ k = one_place number (length sources) at k to near (at_below sources k t there) round (subst (λ (n : ℕ). IsRound number (length sources) k n) same rounds) in
          let it : s ≡ t = some-injective s t (sym here ∙ (ap (λ (n : ℕ). get_elem? sources n) one ∙ there)) in
          (length others, o, last_here (others ++ o ∷ []) others o refl, is ∙ ap (λ (x : Source S G). worker_deque x.owner) it)

  -- all round means all but this one
  pub reach_all : (number to : ℕ) (sources : List (Source S G)) (others : List (Other S G)) → number < length sources → length sources ≤ to → ReachesTo number to sources others → ReachesAllBut number sources others
  reach_all number to sources others near far reached k s apart there = by_place (side k apart)
    where
      side : (k : ℕ) → k ≢ number → (number < k) ⊎ (k < number)
      side k h = ⊎_elim (λ (low : k < number). inr low) (λ (rest : (k ≡ number) ⊎ (number < k)). ⊎_elim (λ (e : k ≡ number). absurd (h e)) (λ (high : number < k). inl high) rest) (order k number)

      by_place : (number < k) ⊎ (k < number) → Reaches others (worker_deque s.owner)
      by_place (inl above) = let low = at_below sources k s there in reached k (k - number) s (omega arith) (omega arith) (inl (omega arith)) there
      by_place (inr below) = let low = at_below sources k s there in reached k (k + length sources - number) s (omega arith) (omega arith) (inr (omega arith)) there

  -- ---- each source gets its ends

  -- the sources before this one have an end of each other one's deque
  abbrev pub AreTiedTo : ℕ → List (Source S G) → Type 0
  AreTiedTo number sources = (k : ℕ) (s : Source S G) → k < number → get_elem? sources k ≡ some s → ReachesAllBut k sources s.others.items

  -- one more source has its ends, and its deque stays
  module _ (number : ℕ) (sources : List (Source S G)) (old new : Source S G) (near : number < length sources) (at : get_elem? sources number ≡ some old) (same : worker_deque new.owner ≡ worker_deque old.owner) where
    -- the deques are the same
    kept : (others : List (Other S G)) (j : ℕ) (u : Source S G) → get_elem? (slice_set sources number new) j ≡ some u → ((r : Source S G) → get_elem? sources j ≡ some r → Reaches others (worker_deque r.owner)) → Reaches others (worker_deque u.owner)
    kept others j u there reached = ⊎_elim
        (λ (it : (j ≡ number) × (new ≡ u)).
        subst (λ (d : DequeName). Reaches others d) (sym same ∙ ap (λ (x : Source S G). worker_deque x.owner) it.1) (reached old (ap (λ (n : ℕ). get_elem? sources n) it.0 ∙ at)))
        (λ (it : (j ≢ number) × (get_elem? sources j ≡ some u)). reached u it.1)
        (at_set sources number j new u there)

    pub tie_more : ReachesAllBut number sources new.others.items → AreTiedTo number sources → AreTiedTo (number + 1) (slice_set sources number new)
    tie_more one before k t low there j u apart also = ⊎_elim
        (λ (it : (k ≡ number) × (new ≡ t)).
        subst (λ (x : Source S G). Reaches x.others.items (worker_deque u.owner)) it.1
        (kept new.others.items j u also (λ r is. one j r (λ e. apart (e ∙ sym it.0)) is)))
        (λ (it : (k ≢ number) × (get_elem? sources k ≡ some t)).
        kept t.others.items j u also (λ r is. before k t (less it.0) it.1 j r apart is))
        (at_set sources number k new t there)
      where
        less : k ≢ number → k < number
        less other = ⊎_elim (λ (few : k < number). few) (λ (rest : (k ≡ number) ⊎ (number < k)). ⊎_elim (λ (e : k ≡ number). absurd (other e)) (λ (high : number < k). absurd (omega arith)) rest) (order k number)

  -- with each of them tied, all are
  pub tied_all : (number : ℕ) (sources : List (Source S G)) → length sources ≤ number → AreTiedTo number sources → AreTied sources
  tied_all number sources far tied k s at = let low = at_below sources k s at in tied k s (omega arith) at

  -- the first of a longer list, as many as there are
  pub tied_taken : (n : ℕ) (sources more : List (Source S G)) → length sources ≡ n → AreTied sources → AreTied (take n (sources ++ more))
  tied_taken n sources more e tied = subst (λ (l : List (Source S G)). AreTied l) (sym (ap (λ (k : ℕ). take k (sources ++ more)) (sym e) ∙ take-append_seam sources more)) tied

  -- ---- the sources become workers'

  module _ {A : Type 0} (source : A → Source S G) where
    -- each worker and each source that is left reach each other's deques
    abbrev pub Meet : List A → List (Source S G) → Type 0
    Meet workers sources =
        (j k : ℕ) (w : A) (s : Source S G) → get_elem? workers j ≡ some w → get_elem? sources k ≡ some s → Reaches (source w).others.items (worker_deque s.owner) × Reaches s.others.items (worker_deque (source w).owner)

    -- the last source becomes that of one more worker
    module _ (workers more : List A) (w : A) (sources left : List (Source S G)) (s : Source S G) (grown : more ≡ workers ++ w ∷ []) (last : sources ≡ left ++ s ∷ []) (is : source w ≡ s) (tied : AreTied sources) (meet : Meet workers sources) (before : AreTiedWorkers source workers) where
      here : get_elem? sources (length left) ≡ some s
      here = last_here sources left s last

      there : (k : ℕ) (t : Source S G) → get_elem? left k ≡ some t → get_elem? sources k ≡ some t
      there k t at = last_before sources left s last k t at

      among : (j : ℕ) (v : A) → get_elem? more j ≡ some v → (get_elem? workers j ≡ some v) ⊎ ((j ≡ length workers) × (w ≡ v))
      among j v at = at_more workers w v j (ap (λ (l : List A). get_elem? l j) (sym grown) ∙ at)

      of : (v : A) → w ≡ v → s ≡ source v
      of v e = sym is ∙ ap source e

      pub left_tied : AreTied left
      left_tied k t at j u apart at' = tied k t (there k t at) j u apart (there j u at')

      pub left_meet : Meet more left
      left_meet j k v t at at' = ⊎_elim
          (λ (old : get_elem? workers j ≡ some v). meet j k v t old (there k t at'))
          (λ (new : (j ≡ length workers) × (w ≡ v)).
          let low = at_below left k t at' in
          subst (λ (x : Source S G). Reaches x.others.items (worker_deque t.owner) × Reaches t.others.items (worker_deque x.owner)) (of v new.1)
          (tied (length left) s here k t (λ (e : k ≡ length left). omega arith) (there k t at'), tied k t (there k t at') (length left) s (λ (e : length left ≡ k). omega arith) here))
          (among j v at)

      pub more_tied : AreTiedWorkers source more
      more_tied j k u v apart at at' = both (among j u at) (among k v at')
        where
          both : (get_elem? workers j ≡ some u) ⊎ ((j ≡ length workers) × (w ≡ u)) → (get_elem? workers k ≡ some v) ⊎ ((k ≡ length workers) × (w ≡ v)) → Reaches (source u).others.items (worker_deque (source v).owner)
          both (inl a) (inl b) = before j k u v apart a b
          both (inl a) (inr b) = subst (λ (x : Source S G). Reaches (source u).others.items (worker_deque x.owner)) (of v b.1) (meet j (length left) u s a here).0
          both (inr a) (inl b) = subst (λ (x : Source S G). Reaches x.others.items (worker_deque (source v).owner)) (of u a.1) (meet k (length left) v s b here).1
          both (inr a) (inr b) = absurd (apart (a.0 ∙ sym b.0))
