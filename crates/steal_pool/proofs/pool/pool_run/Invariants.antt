use Rattle.std.specs.Prelude.{◌*◌}
use Rattle.steal_pool.specs.Deques.{AreNumbers}
use Rattle.steal_pool.specs.Numbers.{lets_begin, lets_numbers}
use Rattle.steal_pool.proofs.pool.pool_run.Given as goal

abbrev pub ghosts-run_from : goal.ghosts-run_from
ghosts-run_from g a = record {
  terms = record {
    code = a.start.code.now;
    heartbeat = a.start.heartbeat;
    forks = a.start.forks;
    records = 64 * a.start.workers;
    first = a.start.task;
  };
  deque = AreNumbers (64 * a.start.workers);
  lets = lets_numbers (64 * a.start.workers);
  begins = lets_begin (64 * a.start.workers);
}
