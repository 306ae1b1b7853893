use Rattle.std.proofs.Common.{◌≡◌, ◌++◌, drop}
use Rattle.loop_meaning.specs.Calls.{bound}
use Rattle.loop_meaning.proofs.argument.bound.Given as goal

abbrev pub invariant-loop-i : goal.invariant-loop-i
invariant-loop-i l = l.vars.items ++ bound (drop l.i l.params) (drop l.i l.arguments) ≡ bound l.params l.arguments
