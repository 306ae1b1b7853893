-- Products of signed numbers.
use Rattle.std.proofs.Common.{◌≡◌, ℕ, zero, suc, ◌*◌, ℤ, pos, negsuc, ◌*ℤ◌, refl, sym, ap, ◌∙◌}
use lib.IntN.{*ℤ_comm, neg_ℤ}
use native.Mathlib.Nat as nat

neg_neg : (z : ℤ) → neg_ℤ (neg_ℤ z) ≡ z
neg_neg (pos zero) = refl
neg_neg (pos (suc n)) = refl
neg_neg (negsuc n) = refl

neg_mul : (z w : ℤ) → neg_ℤ z *ℤ w ≡ neg_ℤ (z *ℤ w)
neg_mul (pos zero) (pos n) =
    let e : zero * n ≡ zero = nat.zero-mul n in ap pos e ∙ sym (ap (λ k. neg_ℤ (pos k)) e)
neg_mul (pos zero) (negsuc n) =
    let e : zero * suc n ≡ zero = nat.zero-mul (suc n) in
    ap (λ k. neg_ℤ (pos k)) e ∙ sym (ap (λ k. neg_ℤ (neg_ℤ (pos k))) e)
neg_mul (pos (suc m)) (pos n) = refl
neg_mul (pos (suc m)) (negsuc n) = sym (neg_neg (pos (suc m * suc n)))
neg_mul (negsuc m) (pos n) = sym (neg_neg (pos (suc m * n)))
neg_mul (negsuc m) (negsuc n) = refl

mul_neg : (z w : ℤ) → z *ℤ neg_ℤ w ≡ neg_ℤ (z *ℤ w)
mul_neg z w = *ℤ_comm z (neg_ℤ w) ∙ neg_mul w z ∙ ap neg_ℤ (*ℤ_comm w z)

-- associativity follows for every number where it holds for the naturals, one factor after another
assoc_third : (x y : ℤ) → ((n : ℕ) → (x *ℤ y) *ℤ pos n ≡ x *ℤ (y *ℤ pos n)) → (z : ℤ) →
    (x *ℤ y) *ℤ z ≡ x *ℤ (y *ℤ z)
assoc_third x y p (pos n) = p n
assoc_third x y p (negsuc n) =
    mul_neg (x *ℤ y) (pos (suc n)) ∙ ap neg_ℤ (p (suc n)) ∙ sym (mul_neg x (y *ℤ pos (suc n)))
    ∙ ap (λ k. x *ℤ k) (sym (mul_neg y (pos (suc n))))

assoc_second : (x z : ℤ) → ((n : ℕ) → (x *ℤ pos n) *ℤ z ≡ x *ℤ (pos n *ℤ z)) → (y : ℤ) →
    (x *ℤ y) *ℤ z ≡ x *ℤ (y *ℤ z)
assoc_second x z p (pos n) = p n
assoc_second x z p (negsuc n) =
    ap (λ k. k *ℤ z) (mul_neg x (pos (suc n))) ∙ neg_mul (x *ℤ pos (suc n)) z ∙ ap neg_ℤ (p (suc n))
    ∙ sym (mul_neg x (pos (suc n) *ℤ z)) ∙ ap (λ k. x *ℤ k) (sym (neg_mul (pos (suc n)) z))

assoc_first : (y z : ℤ) → ((n : ℕ) → (pos n *ℤ y) *ℤ z ≡ pos n *ℤ (y *ℤ z)) → (x : ℤ) →
    (x *ℤ y) *ℤ z ≡ x *ℤ (y *ℤ z)
assoc_first y z p (pos n) = p n
assoc_first y z p (negsuc n) =
    ap (λ k. k *ℤ z) (neg_mul (pos (suc n)) y) ∙ neg_mul (pos (suc n) *ℤ y) z ∙ ap neg_ℤ (p (suc n))
    ∙ sym (neg_mul (pos (suc n)) (y *ℤ z))

pub int_mul-assoc : (x y z : ℤ) → (x *ℤ y) *ℤ z ≡ x *ℤ (y *ℤ z)
int_mul-assoc x y z =
    assoc_first y z
    (λ a.
    assoc_second (pos a) z
    (λ b. assoc_third (pos a) (pos b) (λ c. ap pos (nat.mul_assoc a b c)) z) y)
    x

pub int_mul-one : (a : ℤ) → a *ℤ pos 1 ≡ a
int_mul-one (pos n) = ap pos (nat.mul-one n)
int_mul-one (negsuc n) = ap (λ k. neg_ℤ (pos k)) (nat.mul-one (suc n))

pub int_one-mul : (a : ℤ) → pos 1 *ℤ a ≡ a
int_one-mul a = *ℤ_comm (pos 1) a ∙ int_mul-one a
