use Rattle.std.proofs.Common.{◌≡◌, drop}
use Rattle.loop_rules.specs.Names.{operator_of}
use Rattle.block_lower.proofs.statement.operator_of.Given as goal

abbrev pub invariant-loop-reduce : goal.invariant-loop-reduce
invariant-loop-reduce l = operator_of (drop l.reduce-index l.reduces) l.name ≡ operator_of l.reduces l.name
