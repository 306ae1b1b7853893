use Rattle.std.proofs.Common.{◌≡◌, drop}
use Rattle.loop_check.specs.Search.{reads_carried}
use Rattle.loop_check.specs.Walk.{rounds_of}
use Rattle.loop_check.proofs.expression.reads_carried.Given as goal

abbrev pub invariant-loop-r : goal.invariant-loop-r
invariant-loop-r l = reads_carried (drop l.r-index l.readers) l.callee (rounds_of l.spot.rounds.now) ≡ reads_carried l.readers l.callee (rounds_of l.spot.rounds.now)
