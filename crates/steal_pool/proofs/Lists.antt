-- Lists of workers and of passes, and their totals.
use Rattle.std.proofs.Common.{◌≡◌, ℕ, suc, ◌<◌, All, List, [], ◌∷◌, ◌++◌, length, take}
use Rattle.std.proofs.Common.{slice_index_or, sym, ap, refl, subst, ◌∙◌, ⊎_elim, arith}
use mathlib.Core.Option.{some}
use lib.ListN.{get_elem?}
use lib.Seq.{take-append_seam, drop-append_seam}
use Rattle.std.proofs.lemmas.List.Elements.{All-drop, All-take}
use Rattle.join_records.specs.declared.load.Load.{Ghosts}
use Rattle.join_records.specs.declared.table.Pass.{Pass}
use Rattle.join_records.specs.declared.table.Records.{Records}
use Rattle.join_records.specs.Views.{total}
use Rattle.join_records.specs.Passes.{IsPassOf, ArePassesOf}
use Rattle.crossbeam_deque.proofs.Lists.{at_snoc}

module _ {A : Type 0} where
  -- what holds of all holds of all but the last
  pub all_left : (P : A → Type 0) (items xs : List A) (x : A) → items ≡ xs ++ x ∷ [] → All P items → All P xs
  all_left P items xs x e h = subst (All P) (take-append_seam xs (x ∷ [])) (All-take P (length xs) (xs ++ x ∷ []) (subst (All P) e h))

  -- and of the last
  pub all_last : (P : A → Type 0) (items xs : List A) (x : A) → items ≡ xs ++ x ∷ [] → All P items → P x
  all_last P items xs x e h = (subst (All P) (drop-append_seam xs (x ∷ [])) (All-drop P (length xs) (xs ++ x ∷ []) (subst (All P) e h))) 0 x (omega arith)

  -- the first of a longer list, as many as there are
  pub all_taken : (P : A → Type 0) (n : ℕ) (xs ys : List A) → length xs ≡ n → All P xs → All P (take n (xs ++ ys))
  all_taken P n xs ys e h = subst (All P) (sym (ap (λ (k : ℕ). take k (xs ++ ys)) (sym e) ∙ take-append_seam xs ys)) h

  -- lists in which a number of each is the same have the same total
  pub same_total : (f : A → ℕ) (xs ys : List A) → length ys ≡ length xs → ((i : ℕ) (d : A) → i < length xs → f (slice_index_or ys i d) ≡ f (slice_index_or xs i d)) → total f ys ≡ total f xs
  same_total f [] [] e h = refl
  same_total f [] (y ∷ ys) e h = absurd (omega arith)
  same_total f (x ∷ xs) [] e h = absurd (omega arith)
  same_total f (x ∷ xs) (y ∷ ys) e h = let a = h 0 x (omega arith) in let b = same_total f xs ys (omega arith) (λ i d near. h (suc i) d (omega arith)) in omega arith

module _ {L R C D E : Type 0} {G : Ghosts L R C D E} where
  -- one more pass of the table
  pub passes_more : (t : Records L R C D E) (ps qs : List (Pass L R C D E G)) (p : Pass L R C D E G) → qs ≡ ps ++ p ∷ [] → ArePassesOf t ps → IsPassOf t p → ArePassesOf t qs
  passes_more t ps qs p e all one k q at = ⊎_elim (λ (z : get_elem? ps k ≡ some q). all k q z) (λ (z : p ≡ q). subst (λ (y : Pass L R C D E G). IsPassOf t y) z one)
      (at_snoc ps p q k (ap (λ (l : List (Pass L R C D E G)). get_elem? l k) (sym e) ∙ at))
