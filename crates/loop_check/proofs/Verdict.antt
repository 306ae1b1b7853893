-- What a search comes to.
use Rattle.std.proofs.Common.{◌≡◌, List, Option, Some, None}
use Rattle.tp_value.specs.declared.Place.{Place}
use Rattle.loop_syntax.specs.declared.Program.{Program}
use Rattle.loop_rules.specs.Sites.{sites, tables_of}
use Rattle.loop_rules.specs.declared.rule.Rule.{Rule}
use Rattle.loop_rules.specs.declared.rule.Rule.TheVariants.{Names, OuterVariables, Reductions}
use Rattle.loop_rules.specs.declared.rule.Rule.TheVariants.{TableWrites, TableReads, CarryLists}
use Rattle.loop_rules.specs.declared.rule.Rule.TheVariants.{Functions, ReadingCalls, Output}
use Rattle.loop_rules.specs.declared.rule.Rule.TheVariants.{LoopVariables, Limits, Leaves}
use Rattle.loop_rules.specs.Broken.{Broken}
use Rattle.loop_rules.specs.Unbroken.{IsResolved}
use Rattle.loop_rules.specs.declared.fault.Fault.{Fault}
use Rattle.loop_check.specs.declared.reader.Reader.{Reader}
use Rattle.loop_rules.specs.Search.{lowest_in}
use Rattle.loop_check.specs.Search.{checked_rules}
use Rattle.loop_check.specs.Readers.{IsReaders}
use Rattle.loop_check.specs.Checking.{IsVerdict}
use Rattle.loop_check.specs.Unbroken.{NoneBroken}
use Rattle.loop_check.proofs.First.{nothing_broken, first_broken}
use Rattle.loop_check.proofs.Carried.{tells}

pub verdict : (p : Program) → IsResolved p → (rs : List Reader) → IsReaders p (tables_of p) rs → (o : Option Fault) → o ≡ lowest_in (checked_rules rs) None (sites p) → IsVerdict p o
verdict p r rs k None e = nothing_broken p rs (tells p r rs k) e
verdict p r rs k (Some f) e = first_broken p rs (tells p r rs k) f e

by_rule : (p : Program) → IsResolved p → IsVerdict p None → (rule : Rule) (place : Place) → Broken p rule place → ⊥
by_rule p r v Names q h = r.unbroken Names q tt h
by_rule p r v OuterVariables q h = v OuterVariables q tt h
by_rule p r v Reductions q h = v Reductions q tt h
by_rule p r v TableWrites q h = v TableWrites q tt h
by_rule p r v TableReads q h = v TableReads q tt h
by_rule p r v CarryLists q h = v CarryLists q tt h
by_rule p r v Functions q h = r.unbroken Functions q tt h
by_rule p r v ReadingCalls q h = v ReadingCalls q tt h
by_rule p r v Output q h = r.unbroken Output q tt h
by_rule p r v LoopVariables q h = r.unbroken LoopVariables q tt h
by_rule p r v Limits q h = r.unbroken Limits q tt h
by_rule p r v Leaves q h = v Leaves q tt h

pub all_unbroken : (p : Program) → IsResolved p → IsVerdict p None → NoneBroken p
all_unbroken p r v = record { unbroken = by_rule p r v }
