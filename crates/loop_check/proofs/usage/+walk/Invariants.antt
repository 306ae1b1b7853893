use Rattle.std.proofs.Common.{◌≡◌, ◌+◌, ◌*◌, drop}
use Rattle.loop_rules.specs.Sites.{in_list}
use Rattle.loop_check.specs.Usage.{any_use, anywhere}
use Rattle.loop_check.proofs.usage.+walk.Given as goal

abbrev pub invariant-in_list-loop-s : goal.invariant-in_list-loop-s
invariant-in_list-loop-s l = any_use l.usage l.found (in_list anywhere (drop l.s-index l.body)) ≡ any_use l.usage l.initial.found (in_list anywhere l.body)

abbrev pub decreases-in_stmt : goal.decreases-in_stmt
decreases-in_stmt l = 4 * goal.size-in_stmt l

abbrev pub decreases-in_list : goal.decreases-in_list
decreases-in_list l = 4 * goal.size-in_list l + 1

abbrev pub decreases-in_par : goal.decreases-in_par
decreases-in_par l = 4 * goal.size-in_par l + 2
