use Rattle.schedule_core.specs.Apply.{Belongs}
use Rattle.schedule_core.specs.Standing.{stands}
use Rattle.tests_events.specs.Led.{IsLed}
use Rattle.tests_events.proofs.events.run.Given as goal

abbrev pub invariant-loop-turn : goal.invariant-loop-turn
invariant-loop-turn l = Belongs l.safe (stands l.config) × IsLed l.safe l.config
