use Rattle.std.proofs.Common.{length, ap, ◌∙◌, arith}
use Rattle.tpal_tool.proofs.running.run_code.Goals as goal

pub exec_run-requires-clause-job : goal.exec_run-requires-clause-job
exec_run-requires-clause-job c = record {
  tables = ap length c.new.ensures ∙ c.requires;
  fuel = c.args.run.options.fuel_in_range;
  heartbeat = c.args.run.options.beat_in_range;
  workers = (omega arith, omega arith);
  forks = c.args.run.options.forks_in_range;
}
