-- Cells that are moved down, one after the other, and where a cut's left begins.
use Rattle.std.proofs.Common.{◌≡◌, sym, ap, ◌∙◌, ℕ, ◌+◌, ◌-◌, ◌<◌, ◌≤◌, List, [], ◌∷◌, ◌++◌, length, take, drop, set, get_or, arith}
use Rattle.std.proofs.lemmas.List.{set-append_right, get_or-append_right, get_or-drop, drop_more, take_more, length-take-le, length-drop, append_assoc}
use Rattle.tpal_syntax.specs.declared.notes.CutKind.{CutKind}
use Rattle.tpal_syntax.specs.declared.notes.CutKind.TheVariants.{Loop, Call}
use Rattle.stack_marks.specs.Stacks.{left_base}

-- of what is moved so far and what stands behind it, one more cell
pub one_more_moved : {X : Type 0} → (xs : List X) (from i : ℕ) (x : X)
    → from + i < length xs
    → x ≡ get_or (take i (drop from xs) ++ drop i xs) (from + i) x
    → set (take i (drop from xs) ++ drop i xs) i x ≡ take (i + 1) (drop from xs) ++ drop (i + 1) xs
one_more_moved xs from i x below is =
    let up = drop from xs in
    let long : length up ≡ length xs - from = length-drop from xs in
    let moved : length (take i up) ≡ i = length-take-le i up (omega (arith, long, below)) in
    let back : i + (from + i - i) ≡ from + i = omega arith in
    let at : x ≡ get_or xs (from + i) x =
    is ∙ get_or-append_right (take i up) (drop i xs) i (from + i) x moved (omega arith)
    ∙ get_or-drop i xs (from + i - i) x ∙ ap (λ k. get_or xs k x) back in
    let more : take (i + 1) up ≡ take i up ++ x ∷ [] =
    take_more up i x (omega (arith, long, below))
    ∙ ap (λ y. take i up ++ y ∷ []) (get_or-drop from xs i x ∙ sym at) in
    let first : i - i ≡ 0 = omega arith in
    let behind : set (drop i xs) (i - i) x ≡ x ∷ drop (i + 1) xs =
    ap (λ l. set l (i - i) x) (drop_more xs i x (omega (arith, below)))
    ∙ ap (λ k. set (get_or xs i x ∷ drop (i + 1) xs) k x) first in
    set-append_right (take i up) (drop i xs) i i x moved (omega arith) ∙ ap (λ l. take i up ++ l) behind
    ∙ sym (append_assoc (take i up) (x ∷ []) (drop (i + 1) xs)) ∙ ap (λ l. l ++ drop (i + 1) xs) (sym more)

-- where the left of a cut begins, counted from the lowest cell
pub from_lowest : (kind : CutKind) (lowest base n : ℕ) → lowest ≤ base
    → lowest + left_base kind (base - lowest) (base - lowest + n - (base - lowest)) ≡ left_base kind base n
from_lowest Loop lowest base n below = omega (arith, below)
from_lowest Call lowest base n below = omega (arith, below)
