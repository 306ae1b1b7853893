-- An ending that alone meets a fact.
use Rattle.std.specs.Prelude.{◌≡◌}
use mathlib.Core.HLevel.{Σ_prop_path, ×_prop, Π_prop}
use mathlib.Core.Logic.{∥∥₁_prop}

abbrev pub Only : {E : Type 0} → (E → Type 0) → Type 0
Only {E} P = (a : E) × (∥ P a ∥₁ × ((b : E) → ∥ P b ∥₁ → a ≡ b))

pub Only-prop : {E : Type 0} → IsSet E → (P : E → Type 0) → IsProp (Only P)
Only-prop set P =
    λ u v. Σ_prop_path (λ a. ×_prop ∥∥₁_prop (Π_prop (λ b. Π_prop (λ _. set a b))))
    (u.1.1 v.0 v.1.0)
