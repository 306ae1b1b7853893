-- The longest run of bytes that pass a test.
use Rattle.std.proofs.Common.{◌≡◌, ℕ, suc, ◌+◌, ◌≤◌, List, [], ◌∷◌, ◌++◌, length, take, drop, Bool}
use Rattle.std.proofs.Common.{true, false, not, ◌==◌, cond, refl, sym, ap, subst, ◌∙◌, eqb-true}
use Rattle.std.proofs.Common.{arith}
use Rattle.std.proofs.lemmas.Bool.{and_parts, and_from}
use Rattle.std.specs.List.{list_all, prefix_len}
use Rattle.loop_lex.specs.Lexical.{EndsLine}

one_more : (n : ℕ) → 1 + n ≡ suc n
one_more n = omega arith

pub prefix_len-cons : (p : ℕ → Bool) (x : ℕ) (xs : List ℕ) → p x ≡ true → prefix_len p (x ∷ xs) ≡ suc (prefix_len p xs)
prefix_len-cons p x xs h = ap (λ b. cond b (1 + prefix_len p xs) 0) h ∙ one_more (prefix_len p xs)

pub prefix_len-stop : (p : ℕ → Bool) (x : ℕ) (xs : List ℕ) → p x ≡ false → prefix_len p (x ∷ xs) ≡ 0
prefix_len-stop p x xs h = ap (λ b. cond b (1 + prefix_len p xs) 0) h

pub run-cons : (p : ℕ → Bool) (x : ℕ) (xs : List ℕ) → p x ≡ true → take (prefix_len p (x ∷ xs)) (x ∷ xs) ≡ x ∷ take (prefix_len p xs) xs
run-cons p x xs h = ap (λ n. take n (x ∷ xs)) (prefix_len-cons p x xs h)

pub run_passes : (p : ℕ → Bool) (xs : List ℕ) → list_all p (take (prefix_len p xs) xs) ≡ true
run_passes p [] = refl
run_passes p (x ∷ xs) = by (p x) refl (run_passes p xs)
  where
    by : (b : Bool) → p x ≡ b → list_all p (take (prefix_len p xs) xs) ≡ true → list_all p (take (prefix_len p (x ∷ xs)) (x ∷ xs)) ≡ true
    by true h ih = ap (list_all p) (run-cons p x xs h) ∙ and_from (p x) (list_all p (take (prefix_len p xs) xs)) h ih
    by false h ih = ap (λ n. list_all p (take n (x ∷ xs))) (prefix_len-stop p x xs h)

-- bytes that pass reach no further than the run
pub run_reaches : (p : ℕ → Bool) (v r : List ℕ) → list_all p v ≡ true → length v ≤ prefix_len p (v ++ r)
run_reaches p [] r h = omega arith
run_reaches p (x ∷ v) r h =
    let q = and_parts (p x) (list_all p v) h in
    let ih = run_reaches p v r q.1 in
    omega (arith, ih, prefix_len-cons p x (v ++ r) q.0)

pub run_ends_line : (xs : List ℕ) → EndsLine (drop (prefix_len (λ c. not (c == 10)) xs) xs)
run_ends_line [] = tt
run_ends_line (x ∷ xs) = by (x == 10) refl (run_ends_line xs)
  where
    by : (b : Bool) → (x == 10) ≡ b → EndsLine (drop (prefix_len (λ c. not (c == 10)) xs) xs) → EndsLine (drop (prefix_len (λ c. not (c == 10)) (x ∷ xs)) (x ∷ xs))
    by true h ih = subst (λ n. EndsLine (drop n (x ∷ xs))) (sym (prefix_len-stop (λ c. not (c == 10)) x xs (ap not h))) (eqb-true x 10 h)
    by false h ih = subst (λ n. EndsLine (drop n (x ∷ xs))) (sym (prefix_len-cons (λ c. not (c == 10)) x xs (ap not h))) ih
