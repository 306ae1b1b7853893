use Rattle.std.proofs.Common.{◌≡◌, drop}
use Rattle.loop_meaning.specs.Leaving.{left_list}
use Rattle.loop_meaning.proofs.left.+targets.Given as goal

abbrev pub invariant-left_list-loop-s : goal.invariant-left_list-loop-s
invariant-left_list-loop-s l = left_list (drop l.s-index l.body) ≡ left_list l.body
