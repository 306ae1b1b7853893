-- Which bytes begin what.
use Rattle.std.proofs.Common.{◌≡◌, ℕ, List, [], ◌∷◌, Bool, true, false, not, ◌&&◌, ◌==◌, nat_le}
use Rattle.std.proofs.Common.{◌<◌, length, ◌⊎◌, refl, sym, ap, ◌∙◌, eqb-true, codes, ⊎_elim, arith}
use Rattle.std.proofs.lemmas.Bool.{and_parts, and_from, or_cases, or_left, or_right, not-true}
use Rattle.std.proofs.lemmas.Bool.Decides.{nat_tests}
use Rattle.std.specs.List.{list_all}
use Rattle.std.specs.Char.{is_ascii_digit}
use Rattle.loop_lex.specs.Lexical.{Form, IsForm, word, literal, single, double}
use Rattle.loop_lex.specs.Bytes.{is_one_of, starts_word, continues_word, is_single_sign}
use Rattle.loop_lex.specs.Bytes.{is_double_sign}

-- what holds of all bytes of a list holds of one of them
pub one_of : (q : ℕ → Bool) (xs : List ℕ) (b : ℕ) → list_all q xs ≡ true → is_one_of xs b ≡ true → q b ≡ true
one_of q [] b h e = cc
one_of q (x ∷ xs) b h e =
    let p = and_parts (q x) (list_all q xs) h in
    ⊎_elim (λ k. ap q (eqb-true b x k) ∙ p.0) (λ k. one_of q xs b p.1 k) (or_cases (b == x) (is_one_of xs b) e)

-- no word and no literal begins with the byte
abbrev no_run : ℕ → Bool
no_run b = not (starts_word b) && not (is_ascii_digit b)

of_no_run : (b : ℕ) → no_run b ≡ true → (starts_word b ≡ false) × (is_ascii_digit b ≡ false)
of_no_run b h = let p = and_parts (not (starts_word b)) (not (is_ascii_digit b)) h in (not-true (starts_word b) p.0, not-true (is_ascii_digit b) p.1)

pub single_no_run : (b : ℕ) → is_single_sign b ≡ true → (starts_word b ≡ false) × (is_ascii_digit b ≡ false)
single_no_run b h = of_no_run b (one_of no_run (codes "(){}[],;=+-*/%<>") b refl h)

pub double_no_run : (a b : ℕ) → is_double_sign a b ≡ true → (starts_word a ≡ false) × (is_ascii_digit a ≡ false)
double_no_run a b h =
    of_no_run a (⊎_elim
    (λ k. one_of no_run (codes "=!<>") a refl (and_parts (is_one_of (codes "=!<>") a) (b == 61) k).0)
    (λ k. ap no_run (eqb-true a 46 (and_parts (a == 46) (b == 46) k).0))
    (or_cases (is_one_of (codes "=!<>") a && b == 61) (a == 46 && b == 46) h))

-- a digit begins no word
pub digit_no_word : (b : ℕ) → is_ascii_digit b ≡ true → starts_word b ≡ false
digit_no_word b h = let p = and_parts (nat_le 48 b) (nat_le b 57) h in grind (arith, nat_tests)

pub word_no_digit : (b : ℕ) → starts_word b ≡ true → is_ascii_digit b ≡ false
word_no_digit b h = by (is_ascii_digit b) refl
  where
    by : (d : Bool) → is_ascii_digit b ≡ d → is_ascii_digit b ≡ false
    by false e = e
    by true e = let k = digit_no_word b e in cc

-- digits go on a word
pub digits_continue : (bs : List ℕ) → list_all is_ascii_digit bs ≡ true → list_all continues_word bs ≡ true
digits_continue [] h = refl
digits_continue (b ∷ bs) h =
    let p = and_parts (is_ascii_digit b) (list_all is_ascii_digit bs) h in
    and_from (continues_word b) (list_all continues_word bs) (or_right (starts_word b) (is_ascii_digit b) p.0) (digits_continue bs p.1)

-- no token has the end of a line in it
abbrev pub within_line : ℕ → Bool
within_line c = not (c == 10)

continues_within : (b : ℕ) → continues_word b ≡ true → within_line b ≡ true
continues_within b h = ⊎_elim (λ k. starts b k) (λ k. digit b k) (or_cases (starts_word b) (is_ascii_digit b) h)
  where
    digit : (b : ℕ) → is_ascii_digit b ≡ true → within_line b ≡ true
    digit b h = let p = and_parts (nat_le 48 b) (nat_le b 57) h in grind (arith, nat_tests)

    starts : (b : ℕ) → starts_word b ≡ true → within_line b ≡ true
    starts b h = by (b == 10) refl
      where
        by : (t : Bool) → (b == 10) ≡ t → not t ≡ true
        by false e = refl
        by true e = let k : starts_word 10 ≡ true = ap starts_word (sym (eqb-true b 10 e)) ∙ h in cc

words_within : (bs : List ℕ) → list_all continues_word bs ≡ true → list_all within_line bs ≡ true
words_within [] h = refl
words_within (b ∷ bs) h =
    let p = and_parts (continues_word b) (list_all continues_word bs) h in
    and_from (within_line b) (list_all within_line bs) (continues_within b p.0) (words_within bs p.1)

pub form_within : {form : Form} {bytes : List ℕ} → IsForm form bytes → list_all within_line bytes ≡ true
form_within (word {b} {bs} h k) = words_within (b ∷ bs) (and_from (continues_word b) (list_all continues_word bs) (or_left (starts_word b) (is_ascii_digit b) h) k)
form_within (literal {b} {bs} h k) = words_within (b ∷ bs) (digits_continue (b ∷ bs) (and_from (is_ascii_digit b) (list_all is_ascii_digit bs) h k))
form_within (single {b} h) = and_from (within_line b) true (one_of within_line (codes "(){}[],;=+-*/%<>") b refl h) refl
form_within (double {a} {b} h) =
    and_from (within_line a) (within_line b && true)
    (⊎_elim (λ k. one_of within_line (codes "=!<>") a refl (and_parts (is_one_of (codes "=!<>") a) (b == 61) k).0) (λ k. ap within_line (eqb-true a 46 (and_parts (a == 46) (b == 46) k).0)) cases)
    (and_from (within_line b) true (⊎_elim (λ k. ap within_line (eqb-true b 61 (and_parts (is_one_of (codes "=!<>") a) (b == 61) k).1)) (λ k. ap within_line (eqb-true b 46 (and_parts (a == 46) (b == 46) k).1)) cases) refl)
  where
    cases : ((is_one_of (codes "=!<>") a && b == 61) ≡ true) ⊎ ((a == 46 && b == 46) ≡ true)
    cases = or_cases (is_one_of (codes "=!<>") a && b == 61) (a == 46 && b == 46) h

pub form_some : {form : Form} {bytes : List ℕ} → IsForm form bytes → 0 < length bytes
form_some (word h k) = omega arith
form_some (literal h k) = omega arith
form_some (single h) = omega arith
form_some (double h) = omega arith
