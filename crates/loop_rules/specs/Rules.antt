-- The numbers of rules.
use Rattle.std.specs.Prelude.{ℕ}
use Rattle.loop_rules.specs.declared.rule.Rule.{Rule}
use Rattle.loop_rules.specs.declared.rule.Rule.TheVariants.{Names, OuterVariables, Reductions}
use Rattle.loop_rules.specs.declared.rule.Rule.TheVariants.{TableWrites, TableReads, CarryLists}
use Rattle.loop_rules.specs.declared.rule.Rule.TheVariants.{Functions, ReadingCalls, Output}
use Rattle.loop_rules.specs.declared.rule.Rule.TheVariants.{LoopVariables, Limits, Leaves}

-- the number that is printed for a rule
abbrev pub number_of : Rule → ℕ
number_of Names = 1
number_of OuterVariables = 2
number_of Reductions = 3
number_of TableWrites = 4
number_of TableReads = 5
number_of CarryLists = 6
number_of Functions = 7
number_of ReadingCalls = 8
number_of Output = 9
number_of LoopVariables = 10
number_of Limits = 11
number_of Leaves = 12
