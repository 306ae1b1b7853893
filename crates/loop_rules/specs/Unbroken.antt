-- Programs that break no rule on names, limits, output and variables of loops.
use Rattle.tp_value.specs.declared.Place.{Place}
use Rattle.loop_syntax.specs.declared.Program.{Program}
use Rattle.loop_rules.specs.declared.rule.Rule.{Rule}
use Rattle.loop_rules.specs.declared.rule.Rule.TheVariants.{Names, OuterVariables, Reductions}
use Rattle.loop_rules.specs.declared.rule.Rule.TheVariants.{TableWrites, TableReads, CarryLists}
use Rattle.loop_rules.specs.declared.rule.Rule.TheVariants.{Functions, ReadingCalls, Output}
use Rattle.loop_rules.specs.declared.rule.Rule.TheVariants.{LoopVariables, Limits, Leaves}
use Rattle.loop_rules.specs.Broken.{Broken}

-- whether `resolve` looks at a rule
abbrev pub IsOfResolve : Rule → Type 0
IsOfResolve Names = Unit {0}
IsOfResolve OuterVariables = ⊥
IsOfResolve Reductions = ⊥
IsOfResolve TableWrites = ⊥
IsOfResolve TableReads = ⊥
IsOfResolve CarryLists = ⊥
IsOfResolve Functions = Unit {0}
IsOfResolve ReadingCalls = ⊥
IsOfResolve Output = Unit {0}
IsOfResolve LoopVariables = Unit {0}
IsOfResolve Limits = Unit {0}
IsOfResolve Leaves = ⊥

-- none of these rules is broken anywhere
pub record IsResolved (program : Program) : Type 0 where
  pub unbroken : (rule : Rule) (place : Place) → IsOfResolve rule → Broken program rule place → ⊥
