use Rattle.schedule_core.proofs.Ruling.{ends_owed}
use Rattle.schedule_core.proofs.laws.finished.Goals as goal

pub returns : goal.returns
returns c = λ heartbeat forks records workers out e config le so q. ends_owed c.args.code.now heartbeat forks records workers out e config le so q
