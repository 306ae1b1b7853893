-- Lists that are read one item after another.
use Rattle.std.proofs.Common.{◌≡◌, ℕ, suc, ◌+◌, ◌-◌, ◌<◌, List, [], ◌∷◌, ◌++◌, Option, Some, None}
use Rattle.std.proofs.Common.{refl, sym, ap, ◌∙◌, append_assoc, append-nil, arith}
use Rattle.tpal_syntax.specs.Readers.{Reading, many, with_more, ◌>>=◌}
use Rattle.tpal_asm.specs.Reading.{onto}

onto_more : {A : Type 0} (xs : List A) (a : A) (o : Option (List A × List ℕ)) → onto xs (o >>= λ ys. Some (a ∷ ys.0, ys.1)) ≡ onto (xs ++ a ∷ []) o
onto_more xs a None = refl
onto_more xs a (Some read) = ap (λ x. Some (x, read.1)) (sym (append_assoc xs (a ∷ []) read.0))

-- no more of them
pub more-none : {A : Type 0} (read : Reading A) (xs : List A) (n k : ℕ) (ts : List ℕ) → k < n → read ts ≡ None → onto xs (many (n - k) read ts) ≡ Some (xs, ts)
more-none read xs n k ts lt e =
    let left : n - k ≡ suc (n - (k + 1)) = omega arith in
    ap (λ (m : ℕ). onto xs (many m read ts)) left
    ∙ ap (λ o. onto xs (with_more ts (many (n - (k + 1)) read) o)) e
    ∙ ap (λ x. Some (x, ts)) (append-nil xs)

-- one more
pub more-some : {A : Type 0} (read : Reading A) (xs : List A) (n k : ℕ) (ts : List ℕ) (a : A) (us : List ℕ) → k < n → read ts ≡ Some (a, us) → onto xs (many (n - k) read ts) ≡ onto (xs ++ a ∷ []) (many (n - (k + 1)) read us)
more-some read xs n k ts a us lt e =
    let left : n - k ≡ suc (n - (k + 1)) = omega arith in
    ap (λ (m : ℕ). onto xs (many m read ts)) left
    ∙ ap (λ o. onto xs (with_more ts (many (n - (k + 1)) read) o)) e
    ∙ onto_more xs a (many (n - (k + 1)) read us)
