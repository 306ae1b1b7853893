-- The number that digits write.
use Rattle.std.proofs.Common.{◌≡◌, ℕ, suc, ◌+◌, ◌*◌, ◌-◌, ◌<◌, ◌≤◌, List, [], ◌∷◌, length, get_or}
use Rattle.std.proofs.Common.{drop, sym, ap, ◌∙◌, arith, drop-cons}
use Rattle.loop_lex.specs.Lexical.{decimal_from}

pub decimal_from-grows : (n : ℕ) (ds : List ℕ) → n ≤ decimal_from n ds
decimal_from-grows n [] = omega arith
decimal_from-grows n (d ∷ ds) = let h = decimal_from-grows (n * 10 + (d - 48)) ds in omega (arith, h)

-- one more digit
pub decimal_from-drop : (n i : ℕ) (ds : List ℕ) → i < length ds → decimal_from n (drop i ds) ≡ decimal_from (n * 10 + (get_or ds i 0 - 48)) (drop (i + 1) ds)
decimal_from-drop n i ds l = let e : i + 1 ≡ suc i = omega arith in ap (decimal_from n) (drop-cons ds i 0 l) ∙ ap (λ k. decimal_from (n * 10 + (get_or ds i 0 - 48)) (drop k ds)) (sym e)
