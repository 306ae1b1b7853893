-- The beats of all workers, counted one worker after another.
use Rattle.std.proofs.Common.{◌≡◌, ℕ, zero, suc, ◌+◌, ◌≤◌, ◌<◌, List, [], ◌∷◌, length, drop, refl}
use Rattle.std.proofs.Common.{sym, ap, ◌∙◌, ⊎_elim, arith}
use Rattle.std.specs.Prelude.{min}
use Rattle.std.proofs.Math.Nat.{min-eq_left, min-eq_right}
use Rattle.std.proofs.lemmas.Bool.{cases_lt}
use Rattle.std.proofs.lemmas.List.{drop_all}
use Rattle.schedule_core.specs.declared.seats.Worker.{Worker}
use Rattle.schedule_core.specs.Core.{top}
use Rattle.schedule_core.specs.Sound.{total}
use Rattle.schedule_core.specs.Standing.{all_beats, worker_at}

low : (a n : ℕ) → a ≤ n → min a n ≡ a
low a n le = min-eq_left {n = a} {m = n} le

high : (a n : ℕ) → n ≤ a → min a n ≡ n
high a n le = min-eq_right {n = n} {m = a} le

capped : (a b n : ℕ) → min (min a n + b) n ≡ min (a + b) n
capped a b n = ⊎_elim
    (λ (lt : a < n). ap (λ z. min (z + b) n) (low a n (omega (arith, lt))))
    (λ (ge : n ≤ a). let z = high a n ge in high (min a n + b) n (omega (arith, z)) ∙ sym (high (a + b) n (omega (arith, ge))))
    (cases_lt a n)

-- one worker more
pub beats_more : (b : ℕ) (w : Worker) (ws : List Worker) (all : ℕ) → min (b + all_beats (w ∷ ws)) top ≡ all → min (min (b + w.beats) top + all_beats ws) top ≡ all
beats_more b w ws all q = capped (b + w.beats) (all_beats ws) top ∙ (ap (λ z. min z top) {x = b + w.beats + all_beats ws} {y = b + all_beats (w ∷ ws)} (omega arith) ∙ q)

-- no worker more
none_left : (b all : ℕ) (ws : List Worker) → b ≤ top → ws ≡ [] → min (b + all_beats ws) top ≡ all → b ≡ all
none_left b all ws le e q = sym (low b top le) ∙ (ap (λ y. min y top) {x = b} {y = b + 0} (omega arith) ∙ (ap (λ xs. min (b + all_beats xs) top) (sym e) ∙ q))

pub beats_end : (b all : ℕ) (ws : List Worker) (n : ℕ) → b ≤ top → length ws ≤ n → min (b + all_beats (drop n ws)) top ≡ all → b ≡ all
beats_end b all ws n le past q = none_left b all (drop n ws) le (drop_all n ws past) q

total_shift : (n : ℕ) (f : ℕ → ℕ) → total (suc n) f ≡ f 0 + total n (λ i. f (suc i))
total_shift zero f = omega arith
total_shift (suc n) f = let a = total_shift n f in omega (arith, a)

-- the beats of a list of workers are those of the workers by their numbers
pub all_total : (ws : List Worker) → all_beats ws ≡ total (length ws) (λ w. (worker_at ws w).beats)
all_total [] = refl
all_total (w ∷ ws) = let a = all_total ws in let b = total_shift (length ws) (λ i. (worker_at (w ∷ ws) i).beats) in omega (arith, a, b)
