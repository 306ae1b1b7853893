use Rattle.std.proofs.Common.{◌≡◌, ◌+◌, ◌*◌, drop}
use Rattle.loop_rules.specs.Sites.{in_list, spot_of_list}
use Rattle.loop_rules.specs.Search.{lowest_in}
use Rattle.loop_check.specs.Search.{checked_rules}
use Rattle.loop_check.specs.Walk.{inside}
use Rattle.loop_check.proofs.statement.+walk.Given as goal

abbrev pub invariant-in_list-loop-s : goal.invariant-in_list-loop-s
invariant-in_list-loop-s l =
    (lowest_in (checked_rules l.readers) l.found (in_list (inside l.spot) (drop l.s-index l.body)) ≡ lowest_in (checked_rules l.readers) l.initial.found (in_list (inside l.initial.spot) l.body))
    × (spot_of_list (inside l.spot) (drop l.s-index l.body) ≡ spot_of_list (inside l.initial.spot) l.body)

abbrev pub decreases-in_stmt : goal.decreases-in_stmt
decreases-in_stmt l = 8 * goal.size-in_stmt l

abbrev pub decreases-in_list : goal.decreases-in_list
decreases-in_list l = 8 * goal.size-in_list l + 1

abbrev pub decreases-in_block : goal.decreases-in_block
decreases-in_block l = 8 * goal.size-in_block l + 2

abbrev pub decreases-in_loop : goal.decreases-in_loop
decreases-in_loop l = 8 * goal.size-in_loop l + 2

abbrev pub decreases-in_body : goal.decreases-in_body
decreases-in_body l = 8 * goal.size-in_body l + 3

abbrev pub decreases-in_par : goal.decreases-in_par
decreases-in_par l = 8 * goal.size-in_par l + 4
