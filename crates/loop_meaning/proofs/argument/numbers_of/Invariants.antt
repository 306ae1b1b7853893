use Rattle.std.proofs.Common.{◌++◌, drop, List, ℤ}
use Rattle.loop_meaning.specs.State.{Ran}
use Rattle.loop_meaning.specs.Statements.{given_all}
use Rattle.loop_meaning.specs.Ends.{state_of, EndAlike}
use Rattle.loop_meaning.proofs.argument.numbers_of.Given as goal

abbrev pub invariant-loop-e : goal.invariant-loop-e
invariant-loop-e l =
    (go : List ℤ → Ran) → EndAlike (given_all l.arguments (state_of l.memory) go) (given_all (drop l.e-index l.arguments) (state_of l.memory) (λ ns. go (l.ns.items ++ ns)))
