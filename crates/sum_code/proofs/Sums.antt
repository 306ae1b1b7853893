-- Sums of numbers that follow one another, and numbers of 64 bits.
use Rattle.std.proofs.Common.{◌≡◌, ℕ, zero, suc, ◌+◌, ◌*◌, ◌/◌, ◌<◌, ◌≤◌, ap, ◌∙◌, arith}
use Rattle.std.proofs.Math.Nat.{suc-mul}
use Rattle.std.proofs.lemmas.Int.{ints, int_wrap_fits}
use Rattle.std.proofs.lemmas.Nat.{mul-le}
use Rattle.std.specs.Int.{w64}
use Rattle.std.specs.Prelude.{pos, ◌^◌, ◌+ℤ◌, ◌-ℤ◌, int_div}
use Rattle.tp_value.specs.Number.{wrapped}
use Rattle.sum_code.specs.Sum.{sum_of}

-- a sum is that of its lower numbers and that of its upper ones
pub sum_split : (n m all first : ℕ) → n + m ≡ all
    → sum_of all first ≡ sum_of n first + sum_of m (first + n)
unfolding sum_of
sum_split zero m all first is =
    let same : all ≡ m = omega (arith, is) in
    let start : first ≡ first + 0 = omega arith in
    let all_of : sum_of all first
    ≡ sum_of m (first + 0) = ap (λ x. sum_of x first) same ∙ ap (sum_of m) start in
    omega (arith, all_of)
sum_split (suc n) m zero first is = absurd (omega (arith, is))
sum_split (suc n) m (suc all) first is =
    let split = sum_split n m all (first + 1) (omega (arith, is)) in
    let start : first + 1 + n ≡ first + suc n = omega arith in
    let upper : sum_of m (first + 1 + n) ≡ sum_of m (first + suc n) = ap (sum_of m) start in
    omega (arith, split, upper)

-- a sum of numbers below one is at most that often that number
pub sum_most : (n first high : ℕ) → first + n ≤ high → sum_of n first ≤ n * high
unfolding sum_of
sum_most zero first high below = omega arith
sum_most (suc n) first high below =
    let rest = sum_most n (first + 1) high (omega (arith, below)) in
    let product = suc-mul n high in
    omega (arith, rest, product, below)

pub sum_low : (n : ℕ) → n ≤ 2 ^ 31 → sum_of n 0 < 2 ^ 63
sum_low n few =
    let most = sum_most n 0 n (omega arith) in
    let square = mul-le n n (2 ^ 31) (2 ^ 31) few few in
    omega (arith, most, square)

-- numbers of 63 bits stay as they are
pub wrap_is : (n : ℕ) → n < 2 ^ 63 → wrapped (pos n) ≡ pos n
wrap_is n low = int_wrap_fits w64 (pos n) (omega (arith, ints, low))

-- the middle of what is left, as the handler finds it
pub middle : (a b m : ℕ) → a + suc m ≡ b → b < 2 ^ 63
    → wrapped (wrapped (int_div (wrapped (pos b -ℤ pos a)) (pos 2)) +ℤ pos a)
    ≡ pos (a + suc m / 2)
middle a b m ends high =
    let gap : pos b -ℤ pos a ≡ pos (suc m) = omega (arith, ints, ends) in
    let sum : suc m / 2 + a ≡ a + suc m / 2 = omega arith in
    ap (λ n. wrapped (wrapped (int_div n (pos 2)) +ℤ pos a))
    (ap wrapped gap ∙ wrap_is (suc m) (omega (arith, ends, high)))
    ∙ ap (λ n. wrapped (n +ℤ pos a)) (wrap_is (suc m / 2) (omega (arith, ends, high)))
    ∙ (ap (λ n. wrapped (pos n)) sum ∙ wrap_is (a + suc m / 2) (omega (arith, ends, high)))
