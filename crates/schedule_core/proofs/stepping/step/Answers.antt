use Rattle.std.proofs.Common.{sym, ◌∙◌}
use Rattle.schedule_core.proofs.Once.{stepped_at}
use Rattle.schedule_core.proofs.stepping.step.Goals as goal

pub returns-in-Running : goal.returns-in-Running
returns-in-Running c = stepped_at c.args.code.now c.args.config c.args.worker c.in-Running.task c.in-Running.due c.step_once-once.result c.take_seat.new.self c.after_once.result _ _ c.requires.right c.step_once-once.ensures.step c.after_once.ensures (sym c.take_seat.ensures.taken ∙ c.in-Running.is) c.take_seat.ensures.left (search) (search) c.requires.runs
