-- Lists of kinds compared pair by pair.
use Rattle.std.proofs.Common.{◌≡◌, ◌≤◌, ◌<◌, List, [], ◌∷◌, refl, ap, ◌∙◌, length, arith}
use Rattle.std.specs.Prelude.{Bool, true, false, ◌&&◌}
use Rattle.std.specs.List.{zip, list_all}
use Rattle.tpal_verify.specs.declared.kinds.Kind.{Kind}
use Rattle.tpal_verify.specs.declared.kinds.EndFact.{EndFact}
use Rattle.tpal_verify.specs.Kinds.{kind_below}
use Rattle.tpal_verify.specs.Shapes.{kinds_below}

pub zip_below : (e : EndFact) (xs ys : List Kind) → length ys ≤ length xs → list_all (λ p. kind_below e p.0 p.1) (zip xs ys) ≡ kinds_below e xs ys
zip_below e [] [] h = refl
zip_below e (x ∷ xs) [] h = refl
zip_below e [] (y ∷ ys) h = absurd (omega (arith, h))
zip_below e (x ∷ xs) (y ∷ ys) h = ap (λ b. kind_below e x y && b) (zip_below e xs ys (omega (arith, h)))

and_false : (b : Bool) → (b && false) ≡ false
and_false true = refl
and_false false = refl

pub longer_above : (e : EndFact) (xs ys : List Kind) → length xs < length ys → kinds_below e xs ys ≡ false
longer_above e xs [] h = absurd (omega (arith, h))
longer_above e [] (y ∷ ys) h = refl
longer_above e (x ∷ xs) (y ∷ ys) h = ap (λ b. kind_below e x y && b) (longer_above e xs ys (omega (arith, h))) ∙ and_false (kind_below e x y)
