use Rattle.schedule_core.specs.Apply.{Belongs, IsSound}
use Rattle.schedule_core.specs.Standing.{stands}
use Rattle.sum_code.specs.Sum.{prints_sum}
use Rattle.tests_core.proofs.orders.run.Given as goal

abbrev pub invariant-loop-turn : goal.invariant-loop-turn
invariant-loop-turn l =
    Belongs l.code (stands l.config) × IsSound l.code l.config (prints_sum 100)
