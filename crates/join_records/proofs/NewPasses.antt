-- The passes of a new table.
use Rattle.std.proofs.Common.{◌≡◌, ℕ, zero, suc, ◌+◌, ◌<◌, List, [], ◌∷◌, ◌++◌, length, refl, sym}
use Rattle.std.proofs.Common.{ap, ◌∙◌, subst, ⊎_elim, arith}
use mathlib.Core.Option.{some, some-injective}
use lib.ListN.{get_elem?}
use Rattle.join_records.specs.declared.views.View.{View}
use Rattle.join_records.specs.declared.table.Pass.{Pass}
use Rattle.join_records.specs.declared.table.Records.{Records}
use Rattle.join_records.specs.declared.load.Load.{Ghosts}
use Rattle.join_records.specs.Views.{fresh, split_left}
use Rattle.join_records.specs.Passes.{view, IsPassOf, RootView, IdleView, NewView}
use Rattle.join_records.proofs.Functions.{at_more}

module _ {C E : Type 0} where
  pub root_split : (e : E) (i : ℕ) (v w : View C E) → i < 17 → RootView e i v → w ≡ split_left v → RootView e (i + 1) w
  root_split e i v w low is same = subst (RootView e (i + 1)) (sym same) ((let p = is.0 in omega arith), is.1, is.2)

  pub idle_split : (e : E) (i k : ℕ) (v w : View C E) → RootView e i v → w ≡ fresh v → k ≡ i → IdleView e k w
  idle_split e i k v w is same at = subst (IdleView e k) (sym same) (refl, refl, refl, ((let p = is.0 in omega arith), is.2.1, refl, refl, refl))

module _ {L R C D E : Type 0} {G : Ghosts L R C D E} where
  pub more_each : (t : Records L R C D E) (e : E) (x : Pass L R C D E G) (l l' : List (Pass L R C D E G)) → l' ≡ l ++ x ∷ [] → IsPassOf t x × IdleView e (length l + 1) (view x) → ((k : ℕ) (p : Pass L R C D E G) → get_elem? l k ≡ some p → IsPassOf t p × IdleView e (k + 1) (view p))
      → (k : ℕ) (p : Pass L R C D E G) → get_elem? l' k ≡ some p → IsPassOf t p × IdleView e (k + 1) (view p)
  more_each t e x l l' is mine each k p at = ⊎_elim (each k p)
      (λ (y : (k ≡ length l) × (x ≡ p)). subst (λ (z : ℕ × Pass L R C D E G). IsPassOf t z.1 × IdleView e (z.0 + 1) (view z.1)) (λ i. (sym y.0 i, y.1 i)) mine)
      (at_more l x p k (ap (λ (z : List (Pass L R C D E G)). get_elem? z k) (sym is) ∙ at))

  pub new_each : (t : Records L R C D E) (e : E) (n : ℕ) (x : Pass L R C D E G) (l l' : List (Pass L R C D E G)) → l' ≡ x ∷ l → IsPassOf t x × RootView e n (view x) → ((k : ℕ) (p : Pass L R C D E G) → get_elem? l k ≡ some p → IsPassOf t p × IdleView e (k + 1) (view p))
      → (k : ℕ) (p : Pass L R C D E G) → get_elem? l' k ≡ some p → IsPassOf t p × NewView e n k (view p)
  new_each t e n x l l' is mine each zero p at = subst (λ (z : Pass L R C D E G). IsPassOf t z × RootView e n (view z)) (some-injective x p (ap (λ (z : List (Pass L R C D E G)). get_elem? z zero) (sym is) ∙ at)) mine
  new_each t e n x l l' is mine each (suc k) p at = let one : k + 1 ≡ suc k = omega arith in subst (λ (z : ℕ). IsPassOf t p × IdleView e z (view p)) one (each k p (ap (λ (z : List (Pass L R C D E G)). get_elem? z (suc k)) (sym is) ∙ at))
