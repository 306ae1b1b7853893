-- What a rest keeps while the two sides of a fork run.
use Rattle.std.specs.Prelude.{ℕ, List}
use Rattle.slices.specs.Holding.{Holding}
use Rattle.stack_marks.specs.Stacks.{StackValue}
use Rattle.tpal_machine.specs.declared.ends.End.{End}
use Rattle.tpal_machine.specs.declared.ends.End.TheVariants as «end»
use Rattle.tpal_machine.specs.declared.ends.Goal.{Goal}
use Rattle.tpal_machine.specs.declared.ends.Goal.TheVariants as goal

-- the stack below the cut, what neither side has of each table, what was printed before the fork,
-- where the forked task ends, the base of the activation that was cut, the record and its join
-- target, the fuel's limit and the tables that were made
pub record RestState : Type 0 where
  pub stack : StackValue
  pub tables : List Holding
  pub output : List ℕ
  pub goal : Goal
  pub base : ℕ
  pub rec : ℕ
  pub target : ℕ
  pub limit : ℕ
  pub made : List ℕ

-- an end, without the join target
abbrev pub end_of : Goal → End
end_of goal.Root = «end».Root
end_of (goal.At rec side target) = «end».At rec side
