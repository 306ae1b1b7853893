-- Lists of accumulators, merged place by place.
use Rattle.std.proofs.Common.{◌≡◌, ◌+◌, ◌<◌, ℕ, suc, ℤ, List, [], ◌∷◌, ◌++◌, drop, drop-cons}
use Rattle.std.proofs.Common.{length, get_or, refl, sym, ap, ◌∙◌, append_assoc, arith}
use Rattle.tp_value.specs.declared.Op.{Op}
use Rattle.reduce_ops.specs.Reduction.{combine}
use Rattle.frame_machine.specs.Splitting.{merged}

step_at : (os : List Op) (ms ns : List ℤ) (i : ℕ) (o : Op) (m n : ℤ) → i < length os → i < length ms → i < length ns
    → merged (drop i os) (drop i ms) (drop i ns) ≡ combine (get_or os i o) (get_or ms i m) (get_or ns i n) ∷ merged (drop (i + 1) os) (drop (i + 1) ms) (drop (i + 1) ns)
step_at os ms ns i o m n h j k = let q : i + 1 ≡ suc i = omega arith in rw (q, drop-cons os i o h, drop-cons ms i m j, drop-cons ns i n k) refl

-- one place more
pub merged_step : (all both more : List ℤ) (x : ℤ) (os : List Op) (ms ns : List ℤ) (i : ℕ) (o : Op) (m n : ℤ) → i < length os → length ms ≡ length os → length ns ≡ length os
    → more ≡ both ++ x ∷ [] → x ≡ combine (get_or os i o) (get_or ms i m) (get_or ns i n) → both ++ merged (drop i os) (drop i ms) (drop i ns) ≡ all
    → more ++ merged (drop (i + 1) os) (drop (i + 1) ms) (drop (i + 1) ns) ≡ all
merged_step all both more x os ms ns i o m n h j k e is inv =
    let rest : List ℤ = merged (drop (i + 1) os) (drop (i + 1) ms) (drop (i + 1) ns) in
    ap (λ zs. zs ++ rest) e ∙ append_assoc both (x ∷ []) rest ∙ ap (λ z. both ++ z ∷ rest) is
    ∙ sym (ap (λ zs. both ++ zs) (step_at os ms ns i o m n h (omega (arith, j, h)) (omega (arith, k, h)))) ∙ inv
