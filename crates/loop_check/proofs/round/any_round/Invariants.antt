use Rattle.std.proofs.Common.{◌≡◌, drop}
use Rattle.loop_rules.specs.Reductions.{any_loop}
use Rattle.loop_check.specs.Walk.{rounds_of, holds}
use Rattle.loop_check.proofs.round.any_round.Given as goal

abbrev pub invariant-loop-round : goal.invariant-loop-round
invariant-loop-round l = any_loop (holds l.test) (rounds_of (drop l.round-index l.rounds)) ≡ any_loop (holds l.test) (rounds_of l.rounds)
