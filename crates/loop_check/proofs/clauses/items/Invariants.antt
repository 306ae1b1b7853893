use Rattle.std.proofs.Common.{◌≡◌, [], take, drop}
use Rattle.loop_rules.specs.Carries.{bad_items}
use Rattle.loop_rules.specs.declared.rule.Rule.TheVariants.{CarryLists}
use Rattle.loop_rules.specs.Search.{lowest}
use Rattle.loop_check.specs.Walk.{loop_of, rounds_of}
use Rattle.loop_check.proofs.Backwards.{tables_back}
use Rattle.loop_check.proofs.clauses.items.Given as goal

abbrev pub invariant-loop-i : goal.invariant-loop-i
invariant-loop-i l =
    lowest l.found CarryLists (bad_items (tables_back (take l.i l.carries)) (drop l.i l.carries) (loop_of l.round) (rounds_of l.spot.rounds.now))
    ≡ lowest l.initial.found CarryLists (bad_items [] l.carries (loop_of l.round) (rounds_of l.spot.rounds.now))
