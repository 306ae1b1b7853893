use Rattle.std.proofs.Common.{[], ◌∷◌, ◌++◌}
use Rattle.std.specs.Fmt.{signed_decimal}
use Rattle.std.specs.Prelude.{pos}
use Rattle.tp_value.specs.declared.values.Stop.TheVariants.{Done}
use Rattle.sum_code.specs.Sum.{sum_of}
use Rattle.tests_pool.proofs.sums.ran.Goals as goal

-- the code owes the sum
pub pool_run-requires-clause-owes : goal.pool_run-requires-clause-owes
pool_run-requires-clause-owes g c κs within = (
  record { stop = Done; output = signed_decimal (pos (sum_of 3000 0)) ++ 10 ∷ []; ticks = 0 },
  rw c.job_of.ensures (c.sum_is_owed.ensures c.args.plan.heartbeat 1000),
)
