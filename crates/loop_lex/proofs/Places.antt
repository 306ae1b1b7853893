-- The place of a byte, from the bytes before it.
use Rattle.std.proofs.Common.{◌≡◌, ℕ, suc, ◌+◌, ◌≤◌, List, [], ◌∷◌, ◌++◌, length, Bool, true, false}
use Rattle.std.proofs.Common.{not, ◌==◌, if◌then◌else◌, refl, ap, ◌∙◌, arith}
use Rattle.std.proofs.lemmas.Bool.{and_parts, not-true}
use Rattle.std.specs.List.{list_all}
use Rattle.tp_value.specs.declared.values.Place.{Place}
use Rattle.loop_lex.specs.Lexical.{place_after, place_of}

pub place_after-append : (p : Place) (xs ys : List ℕ) → place_after p (xs ++ ys) ≡ place_after (place_after p xs) ys
place_after-append p [] ys = refl
place_after-append p (x ∷ xs) ys = place_after-append (if x == 10 then record { line = p.line + 1; col = 1 } else record { line = p.line; col = p.col + 1 }) xs ys

-- within a line the column goes up alone
pub place_after-line : (p : Place) (xs : List ℕ) → list_all (λ c. not (c == 10)) xs ≡ true → place_after p xs ≡ record { line = p.line; col = p.col + length xs }
place_after-line p [] h = let e : p.col ≡ p.col + 0 = omega arith in ap (λ c. record { line = p.line; col = c }) e
place_after-line p (x ∷ xs) h =
    let q = and_parts (not (x == 10)) (list_all (λ c. not (c == 10)) xs) h in
    let e : (p.col + 1) + length xs ≡ p.col + suc (length xs) = omega arith in
    ap (λ b. place_after (if b then record { line = p.line + 1; col = 1 } else record { line = p.line; col = p.col + 1 }) xs) (not-true (x == 10) q.0)
    ∙ place_after-line (record { line = p.line; col = p.col + 1 }) xs q.1
    ∙ ap (λ c. record { line = p.line; col = c }) e

abbrev Bounded : Place → Place → ℕ → Type 0
Bounded p q n = (q.line ≤ p.line + n) × (q.col ≤ p.col + n)

bounds_after : (p : Place) (xs : List ℕ) → 1 ≤ p.col → Bounded p (place_after p xs) (length xs)
bounds_after p [] l = (omega arith, omega arith)
bounds_after p (x ∷ xs) l =
    by (x == 10) (bounds_after (record { line = p.line + 1; col = 1 }) xs (omega arith)) (bounds_after (record { line = p.line; col = p.col + 1 }) xs (omega arith))
  where
    by : (b : Bool) → Bounded (record { line = p.line + 1; col = 1 }) (place_after (record { line = p.line + 1; col = 1 }) xs) (length xs) →
        Bounded (record { line = p.line; col = p.col + 1 }) (place_after (record { line = p.line; col = p.col + 1 }) xs) (length xs) →
        Bounded p (place_after (if b then record { line = p.line + 1; col = 1 } else record { line = p.line; col = p.col + 1 }) xs) (suc (length xs))
    by true h k = (omega (arith, h.0), omega (arith, h.1))
    by false h k = (omega (arith, k.0), omega (arith, k.1))

pub place_bounds : (front : List ℕ) → ((place_of front).line ≤ 1 + length front) × ((place_of front).col ≤ 1 + length front)
place_bounds front = bounds_after (record { line = 1; col = 1 }) front (omega arith)
