-- What joins make of a task, as predicates that go backwards.
use Rattle.std.proofs.Common.{ℕ}
use Rattle.tpal_syntax.specs.Listing.{Listing}
use Rattle.tpal_machine.specs.declared.ends.Ending.{Ending}
use Rattle.tpal_machine.proofs.Kit.{Back}
use Rattle.handler_gen.specs.Reaching as reaching
use Rattle.join_gen.specs.LoopJoins.{ComesToEnd}

abbrev pub coming_to_end : (code : Listing) (heartbeat : ℕ) → Ending → Back code heartbeat
coming_to_end code heartbeat e = record {
  Holds = ComesToEnd code heartbeat e;
  back = λ from after is c. record { last = c.last; comes = reaching.goes_on from after c.last is c.comes; ends = c.ends };
}
