use Rattle.std.proofs.Common.{◌≡◌, ◌+◌, ◌*◌, ◌++◌, drop}
use Rattle.loop_rules.specs.Declarations.{declared_list}
use Rattle.loop_rules.specs.Walk.{named}
use Rattle.loop_rules.proofs.declaration.+declared.Given as goal

abbrev pub invariant-push_all-loop-s : goal.invariant-push_all-loop-s
invariant-push_all-loop-s l = named l.names.items ++ declared_list (drop l.s-index l.body) ≡ named l.initial.names.items ++ declared_list l.body

abbrev pub decreases-push_declared : goal.decreases-push_declared
decreases-push_declared l = 2 * goal.size-push_declared l

abbrev pub decreases-push_all : goal.decreases-push_all
decreases-push_all l = 2 * goal.size-push_all l + 1
