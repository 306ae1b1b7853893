use Rattle.std.proofs.Common.{[], ◌∷◌, ◌++◌}
use Rattle.std.specs.Fmt.{signed_decimal}
use Rattle.std.specs.Prelude.{pos}
use Rattle.tp_value.specs.declared.values.Stop.TheVariants.{Done}
use Rattle.sum_code.specs.Sum.{sum_of}
use Rattle.bench_machine.proofs.heartbeats.solo.Goals as goal

pub solo_run-requires-clause-owes : goal.solo_run-requires-clause-owes
solo_run-requires-clause-owes c = (
  record {
    stop = Done;
    output = signed_decimal (pos (sum_of c.args.count 0)) ++ 10 ∷ [];
    ticks = 0;
  },
  rw (c.new-2.ensures, c.new.ensures.items) (c.sum_is_owed.ensures c.args.heartbeat 0),
)
