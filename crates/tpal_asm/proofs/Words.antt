-- Words at the front of a text.
use Rattle.std.proofs.Common.{◌≡◌, ℕ, zero, suc, ◌<◌, ◌≤◌, Bool, true, false, cond, List, [], ◌∷◌}
use Rattle.std.proofs.Common.{length, get_or, take, drop, refl, ap, ◌∙◌, arith}
use Rattle.tpal_syntax.specs.Parts.{is_word_byte}
use Rattle.tpal_syntax.specs.Readers.{word_bytes}

-- the bytes of a word go on as far as all are of a word
pub word_bytes-at : (text : List ℕ) (n : ℕ) → n ≤ length text → ((k : ℕ) → k < n → is_word_byte (get_or text k 0) ≡ true) → (n < length text → is_word_byte (get_or text n 0) ≡ false)
    → word_bytes text ≡ (take n text, drop n text)
word_bytes-at [] zero le all stop = refl
word_bytes-at [] (suc n) le all stop = absurd (omega arith)
word_bytes-at (t ∷ ts) zero le all stop = ap (λ (b : Bool). cond b (t ∷ (word_bytes ts).0, (word_bytes ts).1) ([], t ∷ ts)) (stop (omega arith))
word_bytes-at (t ∷ ts) (suc n) le all stop =
    ap (λ (b : Bool). cond b (t ∷ (word_bytes ts).0, (word_bytes ts).1) ([], t ∷ ts)) (all 0 (omega arith))
    ∙ ap (λ (p : List ℕ × List ℕ). (t ∷ p.0, p.1)) (word_bytes-at ts n (omega arith) (λ k lt. all (suc k) (omega arith)) (λ lt. stop (omega arith)))
