-- What `resolve` answers: the first broken rule on names, limits, output and variables of loops, or
-- that none is broken.
use Rattle.std.specs.Prelude.{◌≡◌, ◌≤◌, ◌⊎◌, ℕ, IsTrue}
use Rattle.tp_value.specs.declared.Place.{Place}
use Rattle.loop_syntax.specs.declared.Program.{Program}
use Rattle.loop_rules.specs.declared.resolved.RuleFault.{RuleFault}
use Rattle.loop_rules.specs.declared.resolved.RuleFault.TheVariants as faults
use Rattle.loop_rules.specs.Scopes.{is_before}
use Rattle.loop_rules.specs.Unbroken.{IsOfResolve}
use Rattle.loop_rules.specs.declared.rule.Rule.{Rule}
use Rattle.loop_rules.specs.Broken.{Broken}
use Rattle.loop_rules.specs.Rules.{number_of}

-- a rule that is broken at a place comes before another one, or is the same: by place, and at one
-- place by its number
abbrev pub IsNoLater : Rule → Place → Rule → Place → Type 0
IsNoLater rule place other elsewhere =
    IsTrue (is_before place elsewhere)
    ⊎ ((place ≡ elsewhere) × (number_of rule ≤ number_of other))

-- a rule of that number is broken at the place, and none of them comes before it
pub record IsFirstBroken (program : Program) (number : ℕ) (place : Place) : Type 0 where
  pub rule : Rule
  pub of_resolve : IsOfResolve rule
  pub numbered : number ≡ number_of rule
  pub broken : Broken program rule place
  pub first : (other : Rule) (elsewhere : Place) → IsOfResolve other →
      Broken program other elsewhere → IsNoLater rule place other elsewhere

-- why a program is not resolved
abbrev pub IsCause : Program → RuleFault → Type 0
IsCause program (faults.Broken number place) = IsFirstBroken program number place
IsCause program faults.NoMemory = Unit {0}
