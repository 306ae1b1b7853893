use Rattle.std.proofs.Common.{[], ◌∷◌}
use Rattle.tp_value.specs.declared.values.Stop.TheVariants.{Done}
use Rattle.tests_core.proofs.solo.ran.Goals as goal

pub solo_run-requires-clause-owes : goal.solo_run-requires-clause-owes
solo_run-requires-clause-owes c = (
  record { stop = Done; output = 53 ∷ 10 ∷ []; ticks = 0 },
  rw (c.new-2.ensures, c.new.ensures.items) (c.sum_owes.ensures c.args.heartbeat 0),
)
