-- What `check` answers: the first broken rule of disjoint writes, or that none is broken.
use Rattle.std.specs.Prelude.{◌≡◌, ℕ, Option, Some, None}
use Rattle.tp_value.specs.declared.Place.{Place}
use Rattle.loop_syntax.specs.declared.Program.{Program}
use Rattle.loop_rules.specs.declared.resolved.RuleFault.{RuleFault}
use Rattle.loop_rules.specs.declared.resolved.RuleFault.TheVariants as faults
use Rattle.loop_rules.specs.Resolving.{IsNoLater}
use Rattle.loop_rules.specs.declared.rule.Rule.{Rule}
use Rattle.loop_rules.specs.declared.rule.Rule.TheVariants.{Names, OuterVariables, Reductions}
use Rattle.loop_rules.specs.declared.rule.Rule.TheVariants.{TableWrites, TableReads, CarryLists}
use Rattle.loop_rules.specs.declared.rule.Rule.TheVariants.{Functions, ReadingCalls, Output}
use Rattle.loop_rules.specs.declared.rule.Rule.TheVariants.{LoopVariables, Limits, Leaves}
use Rattle.loop_rules.specs.Broken.{Broken}
use Rattle.loop_rules.specs.Rules.{number_of}
use Rattle.loop_rules.specs.declared.fault.Fault.{Fault}

-- whether `check` looks at a rule
abbrev pub IsOfCheck : Rule → Type 0
IsOfCheck Names = ⊥
IsOfCheck OuterVariables = Unit {0}
IsOfCheck Reductions = Unit {0}
IsOfCheck TableWrites = Unit {0}
IsOfCheck TableReads = Unit {0}
IsOfCheck CarryLists = Unit {0}
IsOfCheck Functions = ⊥
IsOfCheck ReadingCalls = Unit {0}
IsOfCheck Output = ⊥
IsOfCheck LoopVariables = ⊥
IsOfCheck Limits = ⊥
IsOfCheck Leaves = Unit {0}

-- a rule of that number is broken at the place, and none of them comes before it
pub record IsFirstBroken (program : Program) (number : ℕ) (place : Place) : Type 0 where
  pub rule : Rule
  pub of_check : IsOfCheck rule
  pub numbered : number ≡ number_of rule
  pub broken : Broken program rule place
  pub first : (other : Rule) (elsewhere : Place)
      → IsOfCheck other
      → Broken program other elsewhere
      → IsNoLater rule place other elsewhere

-- why a program is refused
abbrev pub IsCause : Program → RuleFault → Type 0
IsCause program (faults.Broken number place) = IsFirstBroken program number place
IsCause program faults.NoMemory = Unit {0}

-- what a search comes to: none of these rules is broken, or this one is the first
abbrev pub IsVerdict : Program → Option Fault → Type 0
IsVerdict program None =
    (rule : Rule) (place : Place) → IsOfCheck rule → Broken program rule place → ⊥
IsVerdict program (Some fault) = IsFirstBroken program (number_of fault.rule) fault.place
