use Rattle.std.proofs.Common.{◌≡◌, drop}
use Rattle.loop_syntax.specs.Naming.{operator_of}
use Rattle.loop_syntax.proofs.statement.operator_of.Given as goal

abbrev pub invariant-loop-reduce : goal.invariant-loop-reduce
invariant-loop-reduce l = operator_of (drop l.reduce-index l.reduces) l.name ≡ operator_of l.reduces l.name
