-- Functions with another value at a number, and sums over them.
use Rattle.std.proofs.Common.{◌≡◌, ℕ, zero, suc, ◌+◌, ◌<◌, refl, sym, ap, subst, ⊎_elim, arith}
use Rattle.std.specs.Prelude.{nat_eq}
use Rattle.std.proofs.lemmas.Bool.{cases_eq, eq-eqb, ne_eqb, cond-true, cond-false}
use Rattle.schedule_core.specs.Core.{put}
use Rattle.schedule_core.specs.Sound.{total}

pub put_here : {A : Type 0} (f : ℕ → A) (k : ℕ) (x : A) → put f k x k ≡ x
unfolding put
put_here f k x = cond-true (nat_eq k k) x (f k) (eq-eqb k k refl)

pub put_else : {A : Type 0} (f : ℕ → A) (k : ℕ) (x : A) (y : ℕ) → (y ≡ k → ⊥) → put f k x y ≡ f y
unfolding put
put_else f k x y h = cond-false (nat_eq y k) x (f y) (ne_eqb y k h)

-- what holds of the new value, and of the others where they stand, holds of each value
pub at_put : {A : Type 0} (f : ℕ → A) (k : ℕ) (x : A) (P : ℕ → A → Type 0) (y : ℕ) → P k x → ((y ≡ k → ⊥) → P y (f y)) → P y (put f k x y)
at_put f k x P y here other = ⊎_elim
    (λ (e : y ≡ k). subst (λ z. P z (put f k x z)) (sym e) (subst (P k) (sym (put_here f k x)) here))
    (λ (n : y ≡ k → ⊥). subst (P y) (sym (put_else f k x y n)) (other n))
    (cases_eq y k)

pub total_same : (n : ℕ) (f g : ℕ → ℕ) → ((i : ℕ) → i < n → f i ≡ g i) → total n f ≡ total n g
total_same zero f g h = refl
total_same (suc n) f g h = let a = total_same n f g (λ i lt. h i (omega (arith, lt))) in let b = h n (omega arith) in omega (arith, a, b)

pub total_put : {A : Type 0} (n : ℕ) (f : A → ℕ) (s : ℕ → A) (w : ℕ) (x : A) → w < n → total n (λ i. f (put s w x i)) + f (s w) ≡ total n (λ i. f (s i)) + f x
total_put zero f s w x lt = absurd (omega (arith, lt))
total_put (suc n) f s w x lt = ⊎_elim
    (λ (e : n ≡ w).
    let a = total_same n (λ i. f (put s w x i)) (λ i. f (s i)) (λ i li. ap f (put_else s w x i (λ q. omega (arith, q, e, li)))) in
    let b : f (put s w x n) ≡ f x = subst (λ z. f (put s w x z) ≡ f x) (sym e) (ap f (put_here s w x)) in
    let d : f (s n) ≡ f (s w) = ap (λ z. f (s z)) e in
    omega (arith, a, b, d))
    (λ (ne : n ≡ w → ⊥).
    let a = total_put n f s w x (omega (arith, lt, ne)) in
    let b : f (put s w x n) ≡ f (s n) = ap f (put_else s w x n ne) in
    omega (arith, a, b))
    (cases_eq n w)

pub total_zero : (n : ℕ) → total n (λ i. 0) ≡ 0
total_zero zero = refl
total_zero (suc n) = let a = total_zero n in omega (arith, a)
