use Rattle.schedule_core.specs.Apply.{Belongs, IsSound}
use Rattle.schedule_core.specs.Standing.{stands}
use Rattle.tests_code.specs.Owed.{owed}
use Rattle.tests_code.proofs.orders.run.Given as goal

abbrev pub invariant-loop-turn : goal.invariant-loop-turn
invariant-loop-turn l =
    Belongs l.on.code (stands l.config) × IsSound l.on.code l.config (owed l.on.program)
