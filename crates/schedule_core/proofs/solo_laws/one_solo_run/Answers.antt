use Rattle.schedule_core.specs.Solo.{Runs, first_lane}
use Rattle.schedule_core.proofs.OneRun.{one_end}
use Rattle.schedule_core.proofs.solo_laws.one_solo_run.Goals as goal

pub returns : goal.returns
returns c = λ heartbeat forks task outcome other tally later one two.
    one_end c.args.code.now heartbeat forks one.instructions two.instructions
    (Runs (first_lane task)) outcome other tally later one.comes two.comes
