-- The pieces of a text.
use Rattle.std.proofs.Common.{◌≡◌, ℕ, zero, suc, ◌<◌, Bool, true, false, cond, List, [], ◌∷◌, ◌++◌}
use Rattle.std.proofs.Common.{length, get_or, take, drop, refl, ap, ◌∙◌, arith}
use Rattle.std.specs.Prelude.{◌==◌}
use Rattle.std.specs.List.{onto_first}
use Rattle.tpal_asm.specs.Lines.{pieces}

-- the first piece ends before the first byte that ends a line
pub pieces-at : (text : List ℕ) (n : ℕ) → n < length text → ((k : ℕ) → k < n → (get_or text k 0 == 10) ≡ false) → (get_or text n 0 == 10) ≡ true
    → pieces text ≡ take n text ∷ pieces (drop (suc n) text)
pieces-at [] n lt before here = absurd (omega arith)
pieces-at (t ∷ ts) zero lt before here = ap (λ (b : Bool). cond b ([] ∷ pieces ts) (onto_first t (pieces ts))) here
pieces-at (t ∷ ts) (suc n) lt before here =
    ap (λ (b : Bool). cond b ([] ∷ pieces ts) (onto_first t (pieces ts))) (before 0 (omega arith))
    ∙ ap (onto_first t) (pieces-at ts n (omega arith) (λ k below. before (suc k) (omega arith)) here)

-- with no such byte the text is one piece
pub pieces-none : (text : List ℕ) → ((k : ℕ) → k < length text → (get_or text k 0 == 10) ≡ false) → pieces text ≡ text ∷ []
pieces-none [] before = refl
pieces-none (t ∷ ts) before =
    ap (λ (b : Bool). cond b ([] ∷ pieces ts) (onto_first t (pieces ts))) (before 0 (omega arith))
    ∙ ap (onto_first t) (pieces-none ts (λ k below. before (suc k) (omega arith)))

pub take-line : (text : List ℕ) (n : ℕ) → n < length text → get_or text n 0 ≡ 10 → take (suc n) text ≡ take n text ++ (10 ∷ [])
take-line [] n lt here = absurd (omega arith)
take-line (t ∷ ts) zero lt here = ap (λ (b : ℕ). b ∷ []) here
take-line (t ∷ ts) (suc n) lt here = ap (λ (x : List ℕ). t ∷ x) (take-line ts n (omega arith) here)
