-- One join that stands for all: the kinds on which they agree.
use Rattle.std.specs.Prelude.{◌≡◌, ℕ, Bool, true, false, List, [], ◌∷◌, map, Option, Some, None}
use Rattle.std.specs.Prelude.{if◌then◌else◌}
use Rattle.std.specs.List.{zip}
use Rattle.tpal_verify.specs.declared.kinds.Kind.{Kind}
use Rattle.tpal_verify.specs.declared.kinds.Kind.TheVariants.{Number, Own, Any}
use Rattle.tpal_verify.specs.Kinds.{kind_eq}
use Rattle.tpal_verify.specs.Rounds.{each_has}

abbrev pub kind_agreed : Kind → Kind → Kind
kind_agreed a b = if kind_eq a b then a else Any

abbrev pub kinds_agreed : List Kind → List Kind → List Kind
kinds_agreed xs ys = map (λ p. kind_agreed p.0 p.1) (zip xs ys)

-- with one join more, where there is one
abbrev pub agreed_with : Option (List Kind) → Option (List Kind) → Option (List Kind)
agreed_with None join = join
agreed_with (Some kinds) None = Some kinds
agreed_with (Some kinds) (Some join) = Some (kinds_agreed kinds join)

abbrev pub is_none : List (List Kind) → Bool
is_none [] = true
is_none (join ∷ joins) = false

-- some joins find the same as others
pub record StandsFor (joins others : List (List Kind)) : Type 0 where
  pub none : is_none joins ≡ is_none others
  pub numbers : (r : ℕ) → each_has Number r joins ≡ each_has Number r others
  pub owns : (r : ℕ) → each_has Own r joins ≡ each_has Own r others
