use Rattle.std.proofs.Common.{◌↔◌, length}
use Rattle.std.specs.List.{AllByRecursion}
use Rattle.tpal_syntax.specs.Conditions.{IsBlock}
use Rattle.tpal_syntax.proofs.conditions.are_blocks.Given as goal

-- what is left decides
abbrev pub invariant-loop-first : goal.invariant-loop-first
invariant-loop-first l =
    AllByRecursion (IsBlock l.tables l.blocks) l.rest ↔ AllByRecursion (IsBlock l.tables l.blocks) l.blocks

abbrev pub decreases-loop-first : goal.decreases-loop-first
decreases-loop-first l = length l.rest
