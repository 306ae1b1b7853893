-- Counts that stay at their type's end.
use Rattle.std.proofs.Common.{◌≡◌, ℕ, zero, suc, ◌+◌, ◌*◌, ◌<◌, ◌≤◌, ⊎_elim, inl, inr, arith}
use Rattle.std.specs.Prelude.{true, nat_lt, min}
use Rattle.std.proofs.Math.Nat.{suc-mul, min-eq_left, min-eq_right}
use Rattle.std.proofs.lemmas.Bool.{cases_lt, le-ltb}
use Rattle.schedule_core.specs.Core.{one_more, top}
use Rattle.schedule_core.specs.Sound.{Paid, total}

min_left : (a b : ℕ) → a ≤ b → min a b ≡ a
min_left a b le = min-eq_left {n = a} {m = b} le

min_right : (a b : ℕ) → b ≤ a → min a b ≡ b
min_right a b le = min-eq_right {n = b} {m = a} le

-- below its end a count counts
pub counts : (n : ℕ) → n < top → one_more n ≡ suc n
counts n lt = let a = min_left (n + 1) top (omega (arith, lt)) in omega (arith, a)

pub one_more_le : (n : ℕ) → one_more n ≤ suc n
one_more_le n = ⊎_elim
    (λ (lt : n < top). let a = counts n lt in omega (arith, a))
    (λ (ge : top ≤ n). let a = min_right (n + 1) top (omega (arith, ge)) in omega (arith, a, ge))
    (cases_lt n top)

pub paid_more : (x y n : ℕ) → Paid x n → y ≤ suc x → Paid y (one_more n)
paid_more x y n p le = ⊎_elim
    (λ (lt : n < top). ⊎_elim
    (λ (a : x ≤ n). let b = counts n lt in inl (omega (arith, a, b, le)))
    (λ (a : n ≡ top). absurd (omega (arith, a, lt)))
    p)
    (λ (ge : top ≤ n). inr (min_right (n + 1) top (omega (arith, ge))))
    (cases_lt n top)

pub paid_same : (x y n : ℕ) → Paid x n → y ≤ x → Paid y n
paid_same x y n p le = ⊎_elim (λ (a : x ≤ n). inl (omega (arith, a, le))) (λ (a : n ≡ top). inr a) p

pub total_bound : (n N : ℕ) (f : ℕ → ℕ) → ((i : ℕ) → f i ≤ N) → total n f ≤ n * N
total_bound zero N f h = omega arith
total_bound (suc n) N f h = let a = total_bound n N f h in let b = h n in let m = suc-mul n N in omega (arith, a, b, m)

pub lt_true : (a b : ℕ) → nat_lt a b ≡ true → a < b
lt_true a b e = ⊎_elim (λ (l : a < b). l) (λ l. absurd (let f = le-ltb a b l in cc)) (cases_lt a b)
