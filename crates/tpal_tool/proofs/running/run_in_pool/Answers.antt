use Rattle.std.proofs.Common.{false, List, length, refl, ap, sym, subst, ◌∙◌, arith}
use Rattle.slices.specs.Holding.{Holding}
use Rattle.tp_value.specs.declared.values.Outcome.{Outcome}
use Rattle.loop_meaning.specs.Meaning.{meaning}
use Rattle.tpal_machine.specs.declared.ends.Ending.TheVariants.{Root}
use Rattle.tpal_machine.specs.Owes.{Owes}
use Rattle.tpal_machine.specs.State.{first_state}
use Rattle.scene_laws.specs.Tables.{AreHeld}
use Rattle.tpal_tool.specs.Asking.{options_seen}
use Rattle.tpal_tool.proofs.Declarations.{as_many}
use Rattle.tpal_tool.proofs.Finishing.{first_owes, outcome_in}
use Rattle.tpal_tool.proofs.running.run_in_pool.Goals as goal

pub pool_run-requires-clause-job : goal.pool_run-requires-clause-job
pool_run-requires-clause-job g c = λ lifetimes outlive. record {
  tables = ap length c.new.ensures ∙ as_many c.requires.first.0.tables.items c.requires.first.1 c.args.run.held.items c.args.run.code.tables c.requires.first.2.are_held c.requires.first.2.owes.declared;
  fuel = c.args.run.options.fuel_in_range;
  heartbeat = c.args.run.options.beat_in_range;
  workers = c.args.run.options.workers_in_range;
  forks = c.args.run.options.forks_in_range;
}

pub pool_run-requires-clause-owes : goal.pool_run-requires-clause-owes
pool_run-requires-clause-owes g c = λ lifetimes outlive. (
  meaning c.requires.first.0 c.requires.first.1 c.args.run.options.fuel,
  first_owes c.requires.first.0 c.requires.first.1 c.args.run.code c.args.run.held.items c.new.result (options_seen c.args.run.options) c.requires.first.2 (sym c.new.ensures),
)

pub returns : goal.returns
returns g c program inputs first =
    let meant : Outcome = meaning program inputs c.args.run.options.fuel in
    let owes : Owes c.args.run.code c.args.run.options.beat false 0 (first_state c.new.result c.args.run.options.fuel) (Root meant) =
    first_owes program inputs c.args.run.code c.args.run.held.items c.new.result (options_seen c.args.run.options) first (sym c.new.ensures) in
    record {
      owes = first.owes;
      outcome = ap (outcome_in meant) (sym (c.in_ok-report.ensures.owed (Root meant) owes));
      ran = record {
        holdings = c.new.result;
        are_held = subst (λ (hs : List Holding). AreHeld program.tables.items inputs hs) (sym c.new.ensures) first.are_held;
        forks = c.in_ok-report.ensures.forks;
        beats = c.in_ok-report.ensures.beats;
        paid = c.in_ok-report.ensures.paid;
        alone = λ one. absurd (omega (arith, one, c.requires.many));
      };
      show = refl;
    }
