-- Programs that break no rule.
use Rattle.tp_value.specs.declared.Place.{Place}
use Rattle.loop_syntax.specs.declared.Program.{Program}
use Rattle.loop_rules.specs.declared.rule.Rule.{Rule}
use Rattle.loop_rules.specs.Broken.{Broken}

-- no rule is broken anywhere in the program
pub record NoneBroken (program : Program) : Type 0 where
  pub unbroken : (rule : Rule) (place : Place) → Broken program rule place → ⊥
