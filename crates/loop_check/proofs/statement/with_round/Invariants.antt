use Rattle.std.proofs.Common.{◌≡◌, ◌∷◌, take}
use Rattle.loop_check.proofs.statement.with_round.Given as goal

abbrev pub invariant-loop-r : goal.invariant-loop-r
invariant-loop-r l = l.all.items ≡ l.round ∷ take l.r-index l.rounds
