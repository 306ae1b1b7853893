use Rattle.std.proofs.Common.{◌≡◌, drop}
use Rattle.loop_rules.specs.declared.rule.Rule.TheVariants.{Names}
use Rattle.loop_rules.specs.Scopes.{unseen_targets}
use Rattle.loop_rules.specs.Search.{lowest}
use Rattle.loop_rules.proofs.statement.unseen_targets.Given as goal

abbrev pub invariant-loop-r : goal.invariant-loop-r
invariant-loop-r l = lowest l.found Names (unseen_targets l.spot.scope (drop l.r-index l.reduces)) ≡ lowest l.initial.found Names (unseen_targets l.spot.scope l.reduces)
