use Rattle.std.proofs.Common.{◌≡◌, [], take, drop}
use Rattle.loop_rules.specs.Reductions.{bad_targets}
use Rattle.loop_rules.specs.declared.rule.Rule.TheVariants.{Reductions}
use Rattle.loop_rules.specs.Search.{lowest}
use Rattle.loop_check.specs.Walk.{rounds_of}
use Rattle.loop_check.proofs.Backwards.{targets_back}
use Rattle.loop_check.proofs.clauses.targets.Given as goal

abbrev pub invariant-loop-i : goal.invariant-loop-i
invariant-loop-i l =
    lowest l.found Reductions (bad_targets (targets_back (take l.i l.reduces)) (drop l.i l.reduces) (rounds_of l.spot.rounds.now))
    ≡ lowest l.initial.found Reductions (bad_targets [] l.reduces (rounds_of l.spot.rounds.now))
