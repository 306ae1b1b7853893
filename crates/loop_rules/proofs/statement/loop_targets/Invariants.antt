use Rattle.std.proofs.Common.{◌≡◌, drop}
use Rattle.loop_rules.specs.declared.rule.Rule.TheVariants.{LoopVariables}
use Rattle.loop_rules.specs.Scopes.{loop_targets}
use Rattle.loop_rules.specs.Search.{lowest}
use Rattle.loop_rules.proofs.statement.loop_targets.Given as goal

abbrev pub invariant-loop-r : goal.invariant-loop-r
invariant-loop-r l = lowest l.found LoopVariables (loop_targets l.spot.loops (drop l.r-index l.reduces)) ≡ lowest l.initial.found LoopVariables (loop_targets l.spot.loops l.reduces)
