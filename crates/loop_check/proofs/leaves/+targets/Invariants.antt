use Rattle.std.proofs.Common.{◌≡◌, ◌+◌, ◌*◌, ◌++◌, drop}
use Rattle.loop_rules.specs.Targets.{targets_list}
use Rattle.loop_rules.specs.Walk.{named}
use Rattle.loop_check.proofs.leaves.+targets.Given as goal

abbrev pub invariant-push_all-loop-s : goal.invariant-push_all-loop-s
invariant-push_all-loop-s l = named l.targets.items ++ targets_list (drop l.s-index l.body) ≡ named l.initial.targets.items ++ targets_list l.body

abbrev pub decreases-push_targets : goal.decreases-push_targets
decreases-push_targets l = 2 * goal.size-push_targets l

abbrev pub decreases-push_all : goal.decreases-push_all
decreases-push_all l = 2 * goal.size-push_all l + 1
